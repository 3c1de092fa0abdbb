use Prim.Native.Nat.{ℕ, ◌%◌, ◌≤◌, ◌<◌}
use mathlib.Core.List.{List}
use mathlib.Core.Path.{◌≡◌}
use lib.ListN.{get_or}
use Rattle.stack.specs.Stack.{memory, tray_end, Keeps}
use Rattle.stack.proofs.trays.free_tray.Given as goal

abbrev pub invariant-loop-i : goal.invariant-loop-i
invariant-loop-i l =
    ((s : List ℕ) (count : ℕ) → l.k ≤ count → Keeps (memory l.initial.ends l.lengths s l.trays l.initial.scratch) count (memory l.ends l.lengths s l.trays l.scratch))
    × ((j : ℕ) → j < l.i → j % 2 ≡ l.k % 2 → get_or l.ends j 0 ≡ tray_end → ⊥)
    × ((j : ℕ) → l.i ≤ j → get_or l.ends j 0 ≡ get_or l.initial.ends j 0)
