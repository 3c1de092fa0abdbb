use Rattle.std.proofs.Common.{rules}
use Rattle.packing.proofs.SizeLaws.{size-unpacked, sizes-none, next-reads, next-room, next-done, sizes-all}
use Rattle.packing.proofs.unpacked.unpack_sizes.Goals as goal

pub loop-init : goal.loop-init
loop-init c = sizes-none c.requires

pub seven_at-requires : goal.seven_at-requires
seven_at-requires c = next-reads c.loop.invariant c.loop-test.true

pub put_number-requires : goal.put_number-requires
put_number-requires c = next-room c.loop.invariant c.loop-test.true

pub overflow_add-from : goal.overflow_add-from
overflow_add-from c =
    let there = next-reads c.loop.invariant c.loop-test.true in
    search rules

pub loop-preserved : goal.loop-preserved
loop-preserved c =
    let loop = c.loop in
    next-done loop.invariant c.loop-test.true (size-unpacked c.args.s.now loop.from loop.out loop.to c.seven_at.ensures c.unpack_number.ensures c.put_number.ensures)

pub returns : goal.returns
returns c = sizes-all c.loop.invariant c.loop-test.false
