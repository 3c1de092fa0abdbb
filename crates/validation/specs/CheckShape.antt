-- `check_shape` (document 01, "mod.rs"): a spec's shape on a type's, without a side or for one. Opening sizes are compared from the front,
-- for the right side the last ones from the end; without a side an open type's closing sizes too, from the end. [..] on either side
-- excuses a mismatch; what is not refused is merged. A mismatch separates "a count that cannot fit from a size that differs" (document
-- 02, 2026-03).
use Rattle.std.specs.Prelude.{ℕ, ◌+◌, Bool, true, false, ◌&&◌, ◌||◌, cond, List, [], ◌∷◌, reverse, length, drop, eqb, leb}
use Rattle.std.proofs.Math.Option.{Option, none, some}
use Rattle.model.specs.Refusals.{wrong_shape, wrong_count}
use Rattle.model.specs.Types.{Dim, static, unknown, Shape, shape}
use Rattle.format.specs.Outcome.{Outcome, accepted, refused}
use Rattle.rules.specs.Sizes.{compatible}
use Rattle.rules.specs.Shapes.{is_any, rank, merge_from}

-- `SubSide` has two values; a validation has one of them or none.
pub data Side : Type 0 where
  unsided left right : Side

-- ---- sizes

-- As far as both lists go, every two sizes pass a test.
unfoldable pub agree : (Dim → Dim → Bool) → List Dim → List Dim → Bool
agree test [] p = true
agree test (d ∷ o) [] = true
agree test (d ∷ o) (e ∷ p) = test d e && agree test o p

-- Equal statics, and ? only with ?.
unfoldable pub equal_dim : Dim → Dim → Bool
equal_dim (static m) (static n) = eqb m n
equal_dim (static m) unknown = false
equal_dim unknown (static n) = false
equal_dim unknown unknown = true

-- The sizes that a right-side check compares: the closing ones of an open shape, else the opening ones.
abbrev pub last_sizes : Shape → List Dim
last_sizes (shape p none) = p
last_sizes (shape p (some d)) = d

-- No size differs that both name, a type's shape and the opening sizes of a spec. Without a side: a closed type's sizes from the front;
-- an open type's opening sizes from the front, its closing ones and what the spec has left from the end, where ? is equal to ? alone
-- (elsewhere it passes with any size). For the left side: the opening sizes from the front. For the right side: the last ones from the end.
unfoldable pub sizes_agree : Side → List Dim → Shape → Bool
sizes_agree unsided o (shape p none) = agree compatible p o
sizes_agree unsided o (shape p (some d)) = agree equal_dim p o && agree equal_dim (reverse d) (reverse (drop (length p) o))
sizes_agree left o (shape p c) = agree compatible p o
sizes_agree right o t = agree compatible (reverse (last_sizes t)) (reverse o)

-- ---- counts

-- "Unsided, two closed shapes compare counts for equality, other pairs by the first test in `check_shape`; sided ones by its length test." So
-- without a side: a closed type has as many sizes as the spec has opening sizes; an open type, opening and closing sizes together, no more.
-- For the left side: a closed type no fewer. For the right side: opening and closing sizes together no fewer.
unfoldable pub count_test : Side → List Dim → Shape → Bool
count_test unsided o (shape p none) = eqb (length p) (length o)
count_test unsided o (shape p (some d)) = leb (length p + length d) (length o)
count_test left o (shape p none) = leb (length o) (length p)
count_test left o (shape p (some d)) = true
count_test right o t = leb (length o) (rank t)

-- Without a side an open type names no fewer either.
unfoldable pub names_all : Side → List Dim → Shape → Bool
names_all unsided o (shape p none) = true
names_all unsided o (shape p (some d)) = leb (length o) (length p + length d)
names_all left o t = true
names_all right o t = true

-- ---- the mismatch

-- What a mismatch is refused with, or none. "14, `check_shape` mismatches and the count test fails, as now in 01's case (m)": there the test
-- passes, but fewer sizes are named and none of them differs. "10 remains for its other mismatches": a size differs.
abbrev pub clash : Bool → Bool → Bool → Option ℕ
clash count sizes all = cond count (cond sizes (cond all none (some wrong_count)) (some wrong_shape)) (some wrong_count)

-- The opening sizes of a spec against a type's shape.
unfoldable pub mismatch : Side → List Dim → Shape → Option ℕ
mismatch side o t = clash (count_test side o t) (sizes_agree side o t) (names_all side o t)

-- [..] on either side excuses a mismatch. The spec's closing sizes are not looked at.
unfoldable pub shape_mismatch : Side → Shape → Shape → Option ℕ
shape_mismatch side (shape o c) t = cond (is_any (shape o c) || is_any t) none (mismatch side o t)

-- ---- what is answered

-- What is merged: for a side the spec's opening sizes alone, open, and for the right side as closing sizes.
unfoldable pub sided_shape : Side → Shape → Shape
sided_shape unsided s = s
sided_shape left (shape o c) = shape o (some [])
sided_shape right (shape o c) = shape [] (some o)

-- What is not refused; a refusal is at place 0.
abbrev pub refused_by : {A : Type 0} → Option ℕ → A → Outcome A
refused_by none a = accepted a
refused_by (some n) a = refused n 0

-- The shape that the type then has.
unfoldable pub check_shape : Side → Shape → Shape → Outcome Shape
check_shape side s t = refused_by (shape_mismatch side s t) (merge_from t (sided_shape side s))
