use Rattle.std.proofs.Common.{arith}
use Rattle.packing.specs.Layouts.{as_record, as_packed}
use Rattle.packing.proofs.ShapeLaws.{opening_recorded, closing_recorded, packed_long, shape_sizes, shape_done}
use Rattle.packing.proofs.Stores.{two-stores}
use Rattle.packing.proofs.packed.pack_shape.Goals as goal

pub pack_sizes-requires : goal.pack_sizes-requires
pack_sizes-requires c =
    let args = c.args in
    let laid = two-stores args.out.now args.to _ _ (omega (arith, c.requires.room, packed_long c.requires.shape)) in
    shape_sizes as_record as_packed args.s.now args.from args.out.now args.to (opening_recorded args.s.now args.from) (closing_recorded args.s.now args.from) c.list_count.ensures laid c.requires

pub returns : goal.returns
returns c =
    let args = c.args in
    let laid = two-stores args.out.now args.to _ _ (omega (arith, c.requires.room, packed_long c.requires.shape)) in
    shape_done as_record as_packed args.s.now args.from args.out.now args.to (opening_recorded args.s.now args.from) (closing_recorded args.s.now args.from) c.list_count.ensures laid c.requires c.pack_sizes.ensures
