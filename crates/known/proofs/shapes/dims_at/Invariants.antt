use Prim.Native.Nat.{ℕ, ◌+◌, ◌*◌, ◌<◌}
use mathlib.Core.Path.{◌≡◌}
use lib.ListN.{length, get_or}
use Rattle.model.specs.Limits.{max_sizes}
use Rattle.record.specs.Answers.{eight_bytes}
use Rattle.known.proofs.shapes.dims_at.Given as goal

abbrev pub invariant-loop-i : goal.invariant-loop-i
invariant-loop-i l = (length l.sizes ≡ max_sizes) × ((k : ℕ) → k < l.i → k < l.count → get_or l.sizes k 0 ≡ eight_bytes l.s (l.start + 8 * k))
