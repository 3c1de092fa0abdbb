use Prim.Native.Nat.{◌≤◌}
use Rattle.order.proofs.ListLaws.{SizesAlike}
use Rattle.order.proofs.shapes.cmp_dims.Given as goal

abbrev pub invariant-loop-i : goal.invariant-loop-i
invariant-loop-i l = (l.i ≤ l.n) × SizesAlike l.a l.b l.i
