use Prim.Native.Nat.{◌+◌, ◌*◌}
use Rattle.order.proofs.TypeLaws.{Walked}
use Rattle.order.proofs.types.+comparing.Given as goal

abbrev pub decreases-compare_fields : goal.decreases-compare_fields
decreases-compare_fields l = 3 * l.depth + 1

abbrev pub decreases-compare_scalars : goal.decreases-compare_scalars
decreases-compare_scalars l = 3 * l.depth + 2

abbrev pub decreases-compare_types : goal.decreases-compare_types
decreases-compare_types l = 3 * l.depth

abbrev pub invariant-compare_fields-loop-k : goal.invariant-compare_fields-loop-k
invariant-compare_fields-loop-k l = Walked l.a l.start l.b l.other l.depth l.count l.number l.i l.j l.k
