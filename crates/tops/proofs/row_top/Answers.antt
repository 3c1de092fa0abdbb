use Rattle.tops.proofs.TopLaws.{alone_there, good_top, row_of_top}
use Rattle.tops.proofs.row_top.Goals as goal

pub bytes_of-top-requires : goal.bytes_of-top-requires
bytes_of-top-requires c = alone_there _ _ _ _ _ c.requires

pub row_known-requires : goal.row_known-requires
row_known-requires c = good_top _ _ _ _ _ c.bytes_of-top.ensures c.requires

pub returns : goal.returns
returns c = row_of_top _ _ _ _ _ c.bytes_of-top.ensures _ _ _ c.row_known.ensures
