-- The words of what is claimed of validation: its mismatches beside the Rust's, what a 10 and a 14 come with, and whose refusal is told
-- (document 02, 2026-03); the numbers that its rules refuse with, and that the limits change
-- no answer but to 5.
use Rattle.std.specs.Prelude.{ℕ, ◌+◌, ◌<◌, Bool, true, false, not, ◌&&◌, ◌||◌, List, [], ◌∷◌, reverse, ◌⊎◌, ◌≡◌, length, get_or, take, drop, eqb, ltb}
use Rattle.std.proofs.Math.Option.{Option, none, some}
use Rattle.model.specs.Refusals.{too_many, wrong_scalar, wrong_shape, wrong_count, Among}
use Rattle.model.specs.Types.{Dim, unknown, Shape, shape, Ty, ty}
use Rattle.format.specs.Outcome.{Outcome, accepted, refused, delivery}
use Rattle.rules.specs.Sizes.{compatible}
use Rattle.rules.specs.Shapes.{is_any, rank}
use Rattle.validation.specs.CheckShape.{Side, unsided, left, right, equal_dim, last_sizes, check_shape}
use Rattle.validation.specs.CheckScalar.{in_turn, check_scalar}
use Rattle.validation.specs.Separate.{Input, spec, checked_type, neither, Separate, separate}

-- ---- the Rust's mismatch

-- `zip` and `any`: some pair of two lists fails a test.
unfoldable pub any_fails : (Dim → Dim → Bool) → List Dim → List Dim → Bool
any_fails test [] q = false
any_fails test (d ∷ p) [] = false
any_fails test (d ∷ p) (e ∷ q) = not (test d e) || any_fails test p q

-- `eq`: two lists are equal, size by size, and of one length.
unfoldable pub equal_dims : List Dim → List Dim → Bool
equal_dims [] [] = true
equal_dims [] (e ∷ p) = false
equal_dims (d ∷ o) [] = false
equal_dims (d ∷ o) (e ∷ p) = equal_dim d e && equal_dims o p

-- `is_none`
abbrev pub is_closed : Option (List Dim) → Bool
is_closed none = true
is_closed (some d) = false

-- The first test of each branch of its `match side`, of the spec's opening sizes and the type's shape.
unfoldable pub rust_count : Side → List Dim → Shape → Bool
rust_count left o (shape p c) = ltb (length p) (length o) && is_closed c
rust_count right o t = ltb (rank t) (length o)
rust_count unsided o (shape p (some d)) = ltb (length o) (length p + length d)
rust_count unsided o (shape p none) = not (eqb (length p) (length o))

-- The other tests.
unfoldable pub rust_sizes : Side → List Dim → Shape → Bool
rust_sizes left o (shape p c) = any_fails compatible p o
rust_sizes right o (shape p (some d)) = any_fails compatible (reverse d) (reverse o)
rust_sizes right o (shape p none) = any_fails compatible (reverse p) (reverse o)
rust_sizes unsided o (shape p (some d)) = not (equal_dims p (take (length p) o)) || not (equal_dims (reverse d) (reverse (drop (length p) o)))
rust_sizes unsided o (shape p none) = any_fails compatible p o

-- Its mismatch, which [..] on either side excuses.
unfoldable pub rust_mismatch : Side → Shape → Shape → Bool
rust_mismatch side (shape o c) t = (not (is_any t) && (rust_count side o t || rust_sizes side o t)) && not (is_any (shape o c))

-- ---- a size that differs, and a count that cannot fit

-- At an index of both lists two sizes fail a test.
pub record DiffersAt (test : Dim → Dim → Bool) (p o : List Dim) : Type 0 where
  pub index : ℕ
  pub in_first : index < length p
  pub in_second : index < length o
  pub differ : test (get_or p index unknown) (get_or o index unknown) ≡ false

-- From the front or from the end, by the test of the branch.
abbrev pub SizeDiffers : Side → List Dim → Shape → Type 0
SizeDiffers unsided o (shape p none) = DiffersAt compatible p o
SizeDiffers unsided o (shape p (some d)) = DiffersAt equal_dim p o ⊎ DiffersAt equal_dim (reverse d) (reverse (drop (length p) o))
SizeDiffers left o (shape p c) = DiffersAt compatible p o
SizeDiffers right o t = DiffersAt compatible (reverse (last_sizes t)) (reverse o)

-- Case (m): without a side an open type names fewer sizes, and none that both name differs.
abbrev pub FewerAlike : Side → List Dim → Shape → Type 0
FewerAlike unsided o (shape p none) = ⊥
FewerAlike unsided o (shape p (some d)) = (length p + length d < length o) × (SizeDiffers unsided o (shape p (some d)) → ⊥)
FewerAlike left o t = ⊥
FewerAlike right o t = ⊥

-- The answer of `check_shape`, by whether the Rust mismatches: 10 with a size that differs and no count test that fails, 14 with one that
-- fails or as in case (m).
abbrev pub ByTheRust : Side → List Dim → Shape → Bool → Outcome Shape → Type 0
ByTheRust side o t false (accepted u) = Unit {0}
ByTheRust side o t false (refused n p) = ⊥
ByTheRust side o t true (accepted u) = ⊥
ByTheRust side o t true (refused n p) =
    ((n ≡ wrong_shape) × (p ≡ 0) × SizeDiffers side o t × (rust_count side o t ≡ false)) ⊎ ((n ≡ wrong_count) × (p ≡ 0) × ((rust_count side o t ≡ true) ⊎ FewerAlike side o t))

-- ---- the input that was being read

pub record RefusedAs (x : Outcome Ty) (o : Outcome ℕ) : Type 0 where
  pub number : ℕ
  pub place : ℕ
  pub input : x ≡ refused number place
  pub answer : o ≡ refused number place

pub record WasRead (x : Outcome Ty) : Type 0 where
  pub value : Ty
  pub is : x ≡ accepted value

-- What is answered is the spec's own refusal; the type's, and the spec was read; or both were read. The first part is of the input that is
-- told, for neither of the type; the second of the spec, where it is not that one.
abbrev pub OwnRefusal : Input → Outcome Ty → Outcome Ty → Outcome ℕ → Type 0
OwnRefusal spec x y o = RefusedAs x o × Unit {0}
OwnRefusal checked_type x y o = RefusedAs y o × WasRead x
OwnRefusal neither x y o = WasRead y × WasRead x

abbrev pub TellsOwn : Outcome Ty → Outcome Ty → Separate → Type 0
TellsOwn x y (separate (delivery o buffer) i) = OwnRefusal i x y o

-- ---- the numbers

-- Over the limits, scalar mismatch, and shape mismatch by a size or by the count; at place 0.
abbrev pub of_validation : List ℕ
of_validation = too_many ∷ wrong_scalar ∷ wrong_shape ∷ wrong_count ∷ []

abbrev pub Listed : {A : Type 0} → Outcome A → Type 0
Listed (accepted a) = Unit {0}
Listed (refused n p) = Among of_validation n × (p ≡ 0)

-- ---- the limits

-- Validation where nothing is measured.
abbrev pub unlimited : {A : Type 0} → A → Bool
unlimited x = true

abbrev pub validate_unlimited : Side → Ty → Ty → Outcome Ty
validate_unlimited side (ty s k) (ty t l) = in_turn (check_scalar k unlimited t l) (check_shape side s t)

-- r is 5, or it is q.
pub data LimitsOnly {A : Type 0} (r q : Outcome A) : Type 0 where
  over : r ≡ refused too_many 0 → LimitsOnly r q
  free : r ≡ q → LimitsOnly r q
