use native.Mathlib.Omega.{arith}
use borrow.Author.Rules.{rules}
use Rattle.packing.proofs.TypeLaws.{types-none, types-length, next-shape, next-head, next-left, next-few, next-falls, unpackable, unpacks}
use Rattle.packing.proofs.unpacked.unpack.Goals as goal

pub loop-left-init : goal.loop-left-init
loop-left-init c = types-none (unpackable c.requires)

pub unpack_shape-shape-requires : goal.unpack_shape-shape-requires
unpack_shape-shape-requires c =
    next-shape c.loop-left.invariant c.loop-left-test.true

pub unpack_scalar-head-requires : goal.unpack_scalar-head-requires
unpack_scalar-head-requires c =
    next-head c.loop-left.invariant c.loop-left-test.true c.unpack_shape-shape.ensures

pub overflow_add-left : goal.overflow_add-left
overflow_add-left c =
    let few = next-few c.loop-left.invariant c.loop-left-test.true c.unpack_shape-shape.ensures c.unpack_scalar-head.ensures in
    search rules

pub loop-left-smaller : goal.loop-left-smaller
loop-left-smaller c =
    next-falls c.loop-left.invariant c.loop-left-test.true c.unpack_shape-shape.ensures c.unpack_scalar-head.ensures

pub loop-left-preserved : goal.loop-left-preserved
loop-left-preserved c =
    next-left c.loop-left.invariant c.loop-left-test.true c.unpack_shape-shape.ensures c.unpack_scalar-head.ensures

pub shape_of-out : goal.shape_of-out
shape_of-out c = types-length c.loop-left.invariant

pub returns : goal.returns
returns c = unpacks (omega (arith, c.loop-left-test.false)) c.loop-left.invariant
