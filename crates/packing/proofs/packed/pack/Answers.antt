use native.Mathlib.Omega.{arith}
use borrow.Author.Rules.{rules}
use Rattle.packing.proofs.TypeLaws.{types-none, types-length, next-shape, next-head, next-left, next-few, next-falls, packable, packs}
use Rattle.packing.proofs.packed.pack.Goals as goal

pub loop-left-init : goal.loop-left-init
loop-left-init c = types-none (packable c.requires)

pub pack_shape-shape-requires : goal.pack_shape-shape-requires
pack_shape-shape-requires c =
    next-shape c.loop-left.invariant c.loop-left-test.true

pub pack_scalar-head-requires : goal.pack_scalar-head-requires
pack_scalar-head-requires c =
    next-head c.loop-left.invariant c.loop-left-test.true c.pack_shape-shape.ensures

pub overflow_add-left : goal.overflow_add-left
overflow_add-left c =
    let few = next-few c.loop-left.invariant c.loop-left-test.true c.pack_shape-shape.ensures c.pack_scalar-head.ensures in
    search rules

pub loop-left-smaller : goal.loop-left-smaller
loop-left-smaller c =
    next-falls c.loop-left.invariant c.loop-left-test.true c.pack_shape-shape.ensures c.pack_scalar-head.ensures

pub loop-left-preserved : goal.loop-left-preserved
loop-left-preserved c =
    next-left c.loop-left.invariant c.loop-left-test.true c.pack_shape-shape.ensures c.pack_scalar-head.ensures

pub shape_of-out : goal.shape_of-out
shape_of-out c = types-length c.loop-left.invariant

pub returns : goal.returns
returns c = packs (omega (arith, c.loop-left-test.false)) c.loop-left.invariant
