use Rattle.tops.proofs.TopLaws.{top_there, below_there, good_two, join_of_two}
use Rattle.tops.proofs.join_top.Goals as goal

pub bytes_of-top-requires : goal.bytes_of-top-requires
bytes_of-top-requires c = top_there _ _ _ _ _ c.requires

pub bytes_of-below-requires : goal.bytes_of-below-requires
bytes_of-below-requires c = below_there _ _ _ _ _ c.requires

pub join_known-requires : goal.join_known-requires
join_known-requires c = good_two _ _ _ _ _ c.bytes_of-top.ensures c.bytes_of-below.ensures c.requires

pub returns : goal.returns
returns c = join_of_two _ _ _ _ _ c.bytes_of-top.ensures c.bytes_of-below.ensures _ _ _ c.join_known.ensures
