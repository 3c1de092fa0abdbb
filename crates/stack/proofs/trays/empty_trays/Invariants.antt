use Prim.Native.Nat.{ℕ, ◌<◌}
use mathlib.Core.List.{List}
use mathlib.Core.Path.{◌≡◌}
use lib.ListN.{get_or}
use Rattle.stack.specs.Stack.{memory, tray_end, Keeps}
use Rattle.stack.proofs.trays.empty_trays.Given as goal

abbrev pub invariant-loop-i : goal.invariant-loop-i
invariant-loop-i l =
    ((s : List ℕ) → Keeps (memory l.initial.ends l.lengths s l.trays l.initial.scratch) l.count (memory l.ends l.lengths s l.trays l.scratch))
    × ((j : ℕ) → j < l.i → get_or l.ends j 0 ≡ tray_end → ⊥)
