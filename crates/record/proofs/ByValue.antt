-- Sizes and shapes by value: what stands in an array of numbers, of which the first count are the sizes, and whether a shape
-- has closing sizes.
use Prim.Native.Nat.{ℕ, zero, suc, ◌+◌, ◌<◌}
use native.Mathlib.Omega.{arith}
use native.Mathlib.Numerals.{add-one}
use mathlib.Core.Bool.{true, false}
use mathlib.Core.List.{List, [], ◌∷◌, ◌++◌, map, map-append}
use mathlib.Core.Option.{none, some}
use mathlib.Core.Path.{◌≡◌, refl}
use lib.ListN.{length, take, get_or, set}
use lib.Seq.{take-suc-set}
use Rattle.model.specs.Types.{unknown}
use Rattle.format.specs.Records.{dim_of}
use Rattle.record.specs.Answers.{dims_of, closing_for}
use Rattle.record.specs.declared.Dims.{Dims}
use Rattle.record.specs.declared.DynShape.{DynShape}

-- ---- sizes

pub size-at : (d : Dims) (i : ℕ) → i < length (dims_of d) → dim_of (get_or d.sizes i 0) ≡ get_or (dims_of d) i unknown
size-at d i h = go d.count d.sizes i h
  where
    go : (count : ℕ) (sizes : List ℕ) (i : ℕ) → i < length (map dim_of (take count sizes)) → dim_of (get_or sizes i 0) ≡ get_or (map dim_of (take count sizes)) i unknown
    go zero sizes i h = absurd (omega arith)
    go (suc count) [] i h = absurd (omega arith)
    go (suc count) (n ∷ sizes) zero h = refl
    go (suc count) (n ∷ sizes) (suc i) h = go count sizes i (omega arith)

-- the first i numbers and one more
pub one_more : (sizes : List ℕ) (i v : ℕ) → i < length sizes → map dim_of (take (i + 1) (set sizes i v)) ≡ map dim_of (take i sizes) ++ (dim_of v ∷ [])
one_more sizes i v h = rw (add-one, take-suc-set sizes i v h) (map-append dim_of (take i sizes) (v ∷ []))

-- ---- shapes

module _ (s : DynShape) where
  pub closed_is : s.closed ≡ true → closing_for s ≡ none
  closed_is e = rw e

  pub open_is : s.closed ≡ false → closing_for s ≡ some (dims_of s.suffix)
  open_is e = rw e
