-- Shapes (document 01, "shape.rs": the methods of `DynShape` and its `BitOr`; of `compatible_with` also document 02, 2026-07): row count, rank,
-- row, `compatible_with`, merge and join. Indices count from the front; only a join's closing sizes are matched from the end.
use Rattle.std.specs.Prelude.{ℕ, suc, ◌+◌, max, Bool, true, false, cond, eqb, length, take}
use mathlib.Core.List.{List, [], ◌∷◌, foldr, reverse}
use Rattle.std.proofs.Math.Option.{Option, none, some}
use Rattle.model.specs.Types.{Dim, static, unknown, Shape, shape}
use Rattle.format.specs.Records.{list_of}
use Rattle.rules.specs.Sizes.{larger, row_compatible, join_dim}

-- [], `DynShape::SCALAR`, and [..], `DynShape::ANY`
abbrev pub scalar_shape : Shape
scalar_shape = shape [] none

abbrev pub any_shape : Shape
any_shape = shape [] (some [])

unfoldable pub is_scalar : Shape → Bool
is_scalar (shape [] none) = true
is_scalar (shape [] (some c)) = false
is_scalar (shape (d ∷ o) c) = false

unfoldable pub is_any : Shape → Bool
is_any (shape [] none) = false
is_any (shape [] (some [])) = true
is_any (shape [] (some (d ∷ c))) = false
is_any (shape (d ∷ o) c) = false

-- Open, by its closing list: named or empty, but not absent.
abbrev pub is_open : Option (List Dim) → Bool
is_open none = false
is_open (some c) = true

-- The first opening size; without one, ? if open, else 1.
unfoldable pub row_count : Shape → Dim
row_count (shape (d ∷ o) c) = d
row_count (shape [] (some c)) = unknown
row_count (shape [] none) = static 1

-- Both counts added.
unfoldable pub rank : Shape → ℕ
rank (shape o c) = length o + length (list_of c)

-- The row of a shape drops the first opening size, else the first closing one.
unfoldable pub row_shape : Shape → Shape
row_shape (shape (d ∷ o) c) = shape o c
row_shape (shape [] (some (d ∷ c))) = shape [] (some c)
row_shape (shape [] (some [])) = shape [] (some [])
row_shape (shape [] none) = shape [] none

-- ---- `compatible_with`, of opening lists

-- What the test says: yes; or no, with the index that it names, or with none.
pub data Compatibility : Type 0 where
  says_yes : Compatibility
  says_no : Option ℕ → Compatibility

-- The indices that fail, where the first sizes stand at index i: all but those with sizes that are equal, or either 1 or ?.
unfoldable pub failing_from : ℕ → List Dim → List Dim → List ℕ
failing_from i [] p = []
failing_from i (d ∷ o) [] = []
failing_from i (d ∷ o) (e ∷ p) = cond (row_compatible d e) (failing_from (suc i) o p) (i ∷ failing_from (suc i) o p)

-- The greatest of some numbers.
abbrev pub greatest : List ℕ → Option ℕ
greatest [] = none
greatest (n ∷ ns) = some (foldr max n ns)

-- Yes if no index fails; else no, with the greatest that does.
abbrev pub yes_unless : Option ℕ → Compatibility
yes_unless none = says_yes
yes_unless (some i) = says_no (some i)

-- Equal counts, and no index fails. With a no it names the greatest index that fails, or none where the counts differ.
unfoldable pub compatible_dims : List Dim → List Dim → Compatibility
compatible_dims o p = cond (eqb (length o) (length p)) (yes_unless (greatest (failing_from 0 o p))) (says_no none)

-- Closing sizes are not looked at.
unfoldable pub compatible_with : Shape → Shape → Compatibility
compatible_with (shape o c) (shape p d) = compatible_dims o p

abbrev pub is_yes : Compatibility → Bool
is_yes says_yes = true
is_yes (says_no i) = false

-- What relies on the test, `compatible_with_boxes` and `union`, goes by its yes.
unfoldable pub compatible_shapes : Shape → Shape → Bool
compatible_shapes s t = is_yes (compatible_with s t)

-- ---- merge, `merge_from`

-- As many sizes as the longer list, the larger at a shared index, the rest from the longer.
unfoldable pub merge_dims : List Dim → List Dim → List Dim
merge_dims [] p = p
merge_dims (d ∷ o) [] = d ∷ o
merge_dims (d ∷ o) (e ∷ p) = larger d e ∷ merge_dims o p

-- Open with none named against closed gives closed; named closing sizes stay; closed against open takes the other's.
unfoldable pub merge_closing : Option (List Dim) → Option (List Dim) → Option (List Dim)
merge_closing none d = d
merge_closing (some []) none = none
merge_closing (some (x ∷ c)) none = some (x ∷ c)
merge_closing (some c) (some d) = some (merge_dims c d)

unfoldable pub merge_from : Shape → Shape → Shape
merge_from (shape o c) (shape p d) = shape (merge_dims o p) (merge_closing c d)

-- ---- join

-- The shorter count, joined at each index.
unfoldable pub join_dims : List Dim → List Dim → List Dim
join_dims [] p = []
join_dims (d ∷ o) [] = []
join_dims (d ∷ o) (e ∷ p) = join_dim d e ∷ join_dims o p

-- The longer count, joined at each index; a size that is missing counts as ?.
unfoldable pub join_longer : List Dim → List Dim → List Dim
join_longer [] [] = []
join_longer [] (e ∷ p) = join_dim unknown e ∷ join_longer [] p
join_longer (d ∷ o) [] = join_dim d unknown ∷ join_longer o []
join_longer (d ∷ o) (e ∷ p) = join_dim d e ∷ join_longer o p

-- Closing sizes: as many as the longer list has; entry 0 is ?, entry i compares the i-th from each end.
unfoldable pub join_ends : List Dim → List Dim → List Dim
join_ends c d = take (max (length c) (length d)) (unknown ∷ join_longer (reverse c) (reverse d))

-- A closing list exists only if both have one.
unfoldable pub join_closing : Option (List Dim) → Option (List Dim) → Option (List Dim)
join_closing none d = none
join_closing (some c) none = none
join_closing (some c) (some d) = some (join_ends c d)

unfoldable pub join_shapes : Shape → Shape → Shape
join_shapes (shape o c) (shape p d) = shape (join_dims o p) (join_closing c d)
