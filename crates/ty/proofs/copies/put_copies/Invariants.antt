use Prim.Native.Nat.{◌+◌, ◌*◌}
use mathlib.Core.Path.{◌≡◌}
use lib.ListN.{length}
use Rattle.lent.specs.Over.{over}
use Rattle.ty.specs.Copies.{repeated}
use Rattle.ty.proofs.copies.put_copies.Given as goal

abbrev pub invariant-loop : goal.invariant-loop
invariant-loop l = (l.at ≡ l.start + l.counter * length l.t) × (l.out ≡ over l.initial.out l.start (repeated l.counter l.t))
