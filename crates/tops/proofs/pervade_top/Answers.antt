use Rattle.tops.proofs.TopLaws.{top_there, below_there, good_two, pervading_of_two}
use Rattle.tops.proofs.pervade_top.Goals as goal

pub bytes_of-top-requires : goal.bytes_of-top-requires
bytes_of-top-requires c = top_there _ _ _ _ _ c.requires

pub bytes_of-below-requires : goal.bytes_of-below-requires
bytes_of-below-requires c = below_there _ _ _ _ _ c.requires

pub pervade_types-requires : goal.pervade_types-requires
pervade_types-requires c = good_two _ _ _ _ _ c.bytes_of-top.ensures c.bytes_of-below.ensures c.requires

pub returns : goal.returns
returns c = pervading_of_two _ _ _ _ _ c.bytes_of-top.ensures c.bytes_of-below.ensures c.args.top_fill c.args.below_fill _ _ _ c.pervade_types.ensures
