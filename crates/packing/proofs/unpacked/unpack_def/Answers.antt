use Rattle.packing.proofs.UnpackHeadLaws.{def-name, def_room, def_done}
use Rattle.packing.proofs.unpacked.unpack_def.Goals as goal

pub name_at-name-requires : goal.name_at-name-requires
name_at-name-requires c = def-name _ _ _ _ c.requires

pub copy_def-requires : goal.copy_def-requires
copy_def-requires c = def_room _ _ _ c.name_at-name.ensures _ _ c.requires

pub returns : goal.returns
returns c =
    let wrote = c.copy_def.ensures in
    def_done _ _ _ c.name_at-name.ensures _ _ wrote.reached wrote.counted wrote.laid
