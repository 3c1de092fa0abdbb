-- What a loop over the indices needs of the list rules of shapes: one index, then the indices after it (`..-step`), the same
-- seen as the result's element (`..-at`), and what is left of a result after some indices (`..-drop`).
use Rattle.std.specs.Prelude.{ℕ, ◌-◌, cond, List, length, get_or, leb}
use Rattle.std.proofs.Math.Option.{Option, none, some}
use Rattle.model.specs.Types.{Dim, unknown}
use Rattle.rules.specs.Sizes.{larger}

-- One index, by what stands there on either side.
abbrev pub merge_at : Option Dim → Option Dim → Dim
merge_at none none = unknown
merge_at none (some e) = e
merge_at (some d) none = d
merge_at (some d) (some e) = larger d e

-- The i-th size from the end, the last being the first; ? where there is none.
abbrev pub from_end : ℕ → List Dim → Dim
from_end i c = cond (leb i (length c)) (get_or c (length c - i) unknown) unknown
