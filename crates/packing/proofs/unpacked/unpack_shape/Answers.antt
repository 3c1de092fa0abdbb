use Rattle.packing.specs.Layouts.{as_record, as_packed}
use Rattle.packing.proofs.ShapeLaws.{opening_packed, closing_packed, shape_sizes, shape_done}
use Rattle.packing.proofs.unpacked.unpack_shape.Goals as goal

pub unpack_sizes-requires : goal.unpack_sizes-requires
unpack_sizes-requires c =
    let args = c.args in
    shape_sizes as_packed as_record args.s.now args.from args.out.now args.to (opening_packed args.s.now args.from) (closing_packed args.s.now args.from) c.list_count.ensures (c.put_head.ensures) c.requires

pub returns : goal.returns
returns c =
    let args = c.args in
    shape_done as_packed as_record args.s.now args.from args.out.now args.to (opening_packed args.s.now args.from) (closing_packed args.s.now args.from) c.list_count.ensures (c.put_head.ensures) c.requires c.unpack_sizes.ensures
