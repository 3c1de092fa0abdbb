use Rattle.std.proofs.Common.{rules}
use Rattle.packing.proofs.SizeLaws.{size_packed, sizes-none, next-reads, next-room, next-done, sizes-all}
use Rattle.packing.proofs.packed.pack_sizes.Goals as goal

pub loop-init : goal.loop-init
loop-init c = sizes-none c.requires

pub number_at-requires : goal.number_at-requires
number_at-requires c = next-reads c.loop.invariant c.loop-test.true

pub put_seven-requires : goal.put_seven-requires
put_seven-requires c = next-room c.loop.invariant c.loop-test.true

pub overflow_add-from : goal.overflow_add-from
overflow_add-from c =
    let there = next-reads c.loop.invariant c.loop-test.true in
    search rules

pub loop-preserved : goal.loop-preserved
loop-preserved c =
    let loop = c.loop in
    next-done loop.invariant c.loop-test.true (size_packed c.args.s.now loop.from loop.out loop.to c.number_at.ensures c.put_seven.ensures)

pub returns : goal.returns
returns c = sizes-all c.loop.invariant c.loop-test.false
