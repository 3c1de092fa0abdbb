-- The sizes of a list of numbers (document 01, "val.rs": for `spec` and `as_dims` more than 8 numbers are refused first, then the first
-- bad index; and its paragraph on places: for numbers the index, 0 for the count).
use Rattle.std.specs.Prelude.{cond, List, [], ◌∷◌, ℕ, suc, ltb, length, Float}
use Rattle.model.specs.Limits.{max_sizes, ones}
use Rattle.model.specs.Refusals.{out_of_range}
use Rattle.number.specs.Size.{SizeOutcome, size, unknown, refused, listed_dim}

-- The sizes, with all ones for ?; or a refusal's number and its place.
pub data SizesOutcome : Type 0 where
  sizes : List ℕ → SizesOutcome
  refused_at : ℕ → ℕ → SizesOutcome

-- the size n before those of the numbers after it, unless one of these is refused
abbrev pub before : ℕ → SizesOutcome → SizesOutcome
before n (sizes ns) = sizes (n ∷ ns)
before n (refused_at k p) = refused_at k p

-- what stands at the index i, before what the numbers after it give
abbrev pub at_index : ℕ → SizeOutcome → SizesOutcome → SizesOutcome
at_index i (size n) rest = before n rest
at_index i unknown rest = before ones rest
at_index i (refused k) rest = refused_at k i

-- numbers of which the first stands at the index i
unfoldable pub sizes_from : ℕ → List Float → SizesOutcome
sizes_from i [] = sizes []
sizes_from i (x ∷ xs) = at_index i (listed_dim x) (sizes_from (suc i) xs)

abbrev pub listed_dims : List Float → SizesOutcome
listed_dims xs = cond (ltb max_sizes (length xs)) (refused_at out_of_range 0) (sizes_from 0 xs)
