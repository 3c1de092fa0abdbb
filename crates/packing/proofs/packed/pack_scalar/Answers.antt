use Rattle.packing.proofs.PackHeadLaws.{looks, plain_done, any_room, any_done, all_room, all_done, def_room, def_done}
use Rattle.packing.proofs.packed.pack_scalar.Goals as goal

pub look-requires : goal.look-requires
look-requires c = looks _ _ _ _ c.requires

pub put_form-requires : goal.put_form-requires
put_form-requires c = any_room _ _ _ _ c.in-BoxAny.ensures c.requires

pub put_form-requires-in-BoxAll : goal.put_form-requires-in-BoxAll
put_form-requires-in-BoxAll c = all_room _ _ _ _ c.in-BoxAll.ensures c.requires

pub put_def-requires : goal.put_def-requires
put_def-requires c = def_room _ _ _ _ c.in-BoxDef.ensures c.requires

pub returns-in-Plain : goal.returns-in-Plain
returns-in-Plain c = plain_done _ _ _ _ c.in-Plain.ensures c.code.ensures c.requires

pub returns-in-BoxAny : goal.returns-in-BoxAny
returns-in-BoxAny c = any_done _ _ _ _ c.in-BoxAny.ensures c.put_form.ensures

pub returns-in-BoxAll : goal.returns-in-BoxAll
returns-in-BoxAll c = all_done _ _ _ _ c.in-BoxAll.ensures c.put_form-in-BoxAll.ensures

pub returns-in-BoxDef : goal.returns-in-BoxDef
returns-in-BoxDef c = def_done _ _ _ _ c.in-BoxDef.ensures c.put_def.ensures
