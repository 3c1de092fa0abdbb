use Rattle.std.proofs.Common.{ap, ◌∙◌}
use Rattle.limits.specs.Codes.{code_for, form_code}
use Rattle.packing.proofs.UnpackHeadLaws.{def_asked, rest_done}
use Rattle.packing.proofs.unpacked.unpack_scalar.Goals as goal

pub unpack_def-requires : goal.unpack_def-requires
unpack_def-requires c = def_asked _ _ _ _ c.of_code.ensures (ap code_for c.in-Box.is) (c.code.ensures ∙ c.of_code-form.ensures) c.put_box-next.ensures (c.code.ensures ∙ ap form_code c.in-Def.is) c.requires

pub returns-in-Def : goal.returns-in-Def
returns-in-Def c = rest_done _ _ _ _ c.of_code.ensures (ap code_for c.in-Box.is) (c.code.ensures ∙ c.of_code-form.ensures) c.put_box-next.ensures (c.code.ensures ∙ ap form_code c.in-Def.is) c.requires c.unpack_def.ensures
