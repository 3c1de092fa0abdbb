use Rattle.tops.proofs.TopLaws.{alone_there, good_by, validated_of_top}
use Rattle.tops.proofs.validate_top.Goals as goal

pub bytes_of-top-requires : goal.bytes_of-top-requires
bytes_of-top-requires c = alone_there _ _ _ _ _ c.requires.0

pub validate_types-requires : goal.validate_types-requires
validate_types-requires c = good_by _ _ _ _ _ c.bytes_of-top.ensures _ c.requires.1 c.requires.0

pub returns : goal.returns
returns c = validated_of_top _ _ _ _ _ c.bytes_of-top.ensures _ _ _ c.validate_types.ensures
