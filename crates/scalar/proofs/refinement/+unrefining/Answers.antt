use native.Mathlib.Omega.{arith}
use mathlib.Core.Path.{◌∙◌}
use Rattle.known.proofs.KnownLaws.{deep, has-scalar}
use Rattle.scalar.proofs.UnrefineLaws.{kind_there, content_there, fields_there, plain_done, any_done, all_done, def_done, behind_done, fields_begun, field_there, fields_more, fields_done}
use Rattle.scalar.proofs.refinement.+unrefining.Goals as goal

pub unrefine_at-put_kind-requires : goal.unrefine_at-put_kind-requires
unrefine_at-put_kind-requires t c = kind_there _ _ _ c.requires c.in-Plain.ensures

pub unrefine_at-returns-in-Plain : goal.unrefine_at-returns-in-Plain
unrefine_at-returns-in-Plain t c = λ k h. plain_done _ _ _ k h (c.in-Plain.ensures _ k h) (λ l e. c.code.ensures ∙ c.unrefine_kind.ensures l e) c.put_kind.ensures

pub unrefine_at-returns-in-BoxAny : goal.unrefine_at-returns-in-BoxAny
unrefine_at-returns-in-BoxAny t c = λ k h. any_done _ _ _ k h (c.in-BoxAny.ensures _ k h)

pub unrefine_at-unrefine_type-requires : goal.unrefine_at-unrefine_type-requires
unrefine_at-unrefine_type-requires t c = (omega arith, content_there _ _ _ c.requires c.in-BoxAll.ensures)

pub unrefine_at-returns-in-BoxAll : goal.unrefine_at-returns-in-BoxAll
unrefine_at-returns-in-BoxAll t c = λ k h. all_done _ _ _ k h (c.in-BoxAll.ensures _ k h) c.unrefine_type.ensures

pub unrefine_at-unrefine_fields-requires : goal.unrefine_at-unrefine_fields-requires
unrefine_at-unrefine_fields-requires t c = (omega arith, fields_there _ _ _ c.requires c.in-BoxDef.ensures)

pub unrefine_at-returns-in-BoxDef : goal.unrefine_at-returns-in-BoxDef
unrefine_at-returns-in-BoxDef t c = λ k h. def_done _ _ _ k h (c.in-BoxDef.ensures _ k h) c.unrefine_fields.ensures

pub unrefine_type-unrefine_at-requires : goal.unrefine_type-unrefine_at-requires
unrefine_type-unrefine_at-requires t c = (omega (arith, deep _ _ _ c.requires), has-scalar _ _ c.scalar_at-scalar.ensures _ c.requires)

pub unrefine_type-returns : goal.unrefine_type-returns
unrefine_type-returns t c = behind_done _ _ _ c.scalar_at-scalar.ensures c.unrefine_at.ensures

pub unrefine_fields-loop-init : goal.unrefine_fields-loop-init
unrefine_fields-loop-init t c = λ f h e. fields_begun _ _ _ f h e

pub unrefine_fields-unrefine_type-at-requires : goal.unrefine_fields-unrefine_type-at-requires
unrefine_fields-unrefine_type-at-requires t c = (omega arith, field_there (c.loop.invariant c.requires.fields c.requires.there c.requires.counted) (omega arith))

pub unrefine_fields-loop-preserved : goal.unrefine_fields-loop-preserved
unrefine_fields-loop-preserved t c = λ f h e. fields_more (c.loop.invariant f h e) (omega arith) c.unrefine_type-at.ensures

pub unrefine_fields-returns : goal.unrefine_fields-returns
unrefine_fields-returns t c = λ f h e. fields_done (c.loop.invariant f h e) (omega arith)
