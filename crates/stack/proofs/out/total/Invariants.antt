use Rattle.std.proofs.Common.{◌≡◌, ℕ, ◌*◌, ◌≤◌, ◌<◌, get_or, take, sum}
use Rattle.model.specs.Limits.{max_bytes}
use Rattle.stack.proofs.out.total.Given as goal

abbrev pub invariant-loop-length : goal.invariant-loop-length
invariant-loop-length l =
    (l.size ≤ l.length-index * max_bytes) × (l.size ≡ sum (take l.length-index (take l.count l.lengths)))
    × ((k : ℕ) → k < l.count → get_or l.lengths k 0 ≤ max_bytes)
