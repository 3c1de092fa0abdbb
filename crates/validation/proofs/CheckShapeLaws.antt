-- Laws about `check_shape`: it accepts what is no mismatch, with the merged shape, and refuses only a mismatch, by 10 or 14 at place 0; the
-- result keeps to the limits. (What a mismatch is: MismatchLaws.)
use Rattle.std.specs.Prelude.{ℕ, Bool, true, false, ◌||◌, cond, [], ◌∷◌, ◌⊎◌, ◌≡◌, refl, eqb}
use Rattle.std.proofs.Common.{arith, inl, inr, eqb-true}
use Rattle.std.proofs.Math.Option.{Option, none, some}
use Rattle.model.specs.Refusals.{wrong_shape, wrong_count, Among}
use Rattle.model.specs.Types.{Shape, shape}
use Rattle.model.specs.Within.{ShapeWithin}
use Rattle.format.specs.Outcome.{accepted, refused}
use Rattle.rules.specs.Shapes.{is_any, merge_from}
use Rattle.rules.proofs.ShapesLaws.{merge_within}
use Rattle.validation.specs.CheckShape.{Side, unsided, left, right, sizes_agree, count_test, names_all, clash, mismatch, shape_mismatch, sided_shape, refused_by, check_shape}

-- ---- what is answered

not-refused {κ} : {A : Type 0} {C : Type κ} (m : Option ℕ) (a : A) {b : A} → refused_by m a ≡ accepted b → (m ≡ none → a ≡ b → C) → C
not-refused none a e k = k refl cc
not-refused (some n) a e k = let z : ◌≡◌ {A = ℕ} 0 1 = cc in absurd (omega arith)

pub check_shape-accepted {κ} : {C : Type κ} (side : Side) (s t : Shape) {u : Shape} → check_shape side s t ≡ accepted u → (shape_mismatch side s t ≡ none → merge_from t (sided_shape side s) ≡ u → C) → C
unfolding check_shape
check_shape-accepted side s t e k = not-refused (shape_mismatch side s t) _ e k

pub check_shape_match : (side : Side) (s t : Shape) → shape_mismatch side s t ≡ none → check_shape side s t ≡ accepted (merge_from t (sided_shape side s))
unfolding check_shape
check_shape_match side s t h = rw h

pub check_shape-mismatch : (side : Side) (s t : Shape) {n : ℕ} → shape_mismatch side s t ≡ some n → check_shape side s t ≡ refused n 0
unfolding check_shape
check_shape-mismatch side s t h = rw h

-- ---- the number of a mismatch

abbrev pub NumberOfMismatch : ℕ → Type 0
NumberOfMismatch n = (n ≡ wrong_shape) ⊎ (n ≡ wrong_count)

-- one of two, by computation
one_of_two : (n : ℕ) → Among (wrong_shape ∷ wrong_count ∷ []) n → NumberOfMismatch n
one_of_two n h = go (eqb n wrong_shape) (eqb n wrong_count) refl refl h
  where
    go : (a b : Bool) → eqb n wrong_shape ≡ a → eqb n wrong_count ≡ b → (a || (b || false)) ≡ true → NumberOfMismatch n
    go true b e f h = inl (eqb-true n wrong_shape e)
    go false true e f h = inr (eqb-true n wrong_count f)
    go false false e f h = let z : ◌≡◌ {A = ℕ} 0 1 = cc in absurd (omega arith)

one_of_mismatch : {m n : ℕ} → some m ≡ some n → Among (wrong_shape ∷ wrong_count ∷ []) m → NumberOfMismatch n
one_of_mismatch {m} {n} e h = let q : m ≡ n = cc in rw (← q) (one_of_two m h)

clash-number : (count sizes all : Bool) {n : ℕ} → clash count sizes all ≡ some n → NumberOfMismatch n
clash-number true true true e = let z : ◌≡◌ {A = ℕ} 0 1 = cc in absurd (omega arith)
clash-number true true false e = one_of_mismatch e refl
clash-number true false all e = one_of_mismatch e refl
clash-number false sizes all e = one_of_mismatch e refl

shape_mismatch-number : (side : Side) (s t : Shape) {n : ℕ} → shape_mismatch side s t ≡ some n → NumberOfMismatch n
unfolding shape_mismatch mismatch
shape_mismatch-number side (shape o c) t {n} e = go (is_any (shape o c) || is_any t) e
  where
    go : (b : Bool) → cond b none (mismatch side o t) ≡ some n → NumberOfMismatch n
    go true e = let z : ◌≡◌ {A = ℕ} 0 1 = cc in absurd (omega arith)
    go false e = clash-number (count_test side o t) (sizes_agree side o t) (names_all side o t) e

pub check_shape-refused : (side : Side) (s t : Shape) {n p : ℕ} → check_shape side s t ≡ refused n p → NumberOfMismatch n × (p ≡ 0)
unfolding check_shape
check_shape-refused side s t {n} {p} e = go (shape_mismatch side s t) refl e
  where
    go : (m : Option ℕ) → shape_mismatch side s t ≡ m → refused_by m (merge_from t (sided_shape side s)) ≡ refused n p → NumberOfMismatch n × (p ≡ 0)
    go none h e = let z : ◌≡◌ {A = ℕ} 0 1 = cc in absurd (omega arith)
    go (some m) h e = let q : m ≡ n = cc in (rw (← q) (shape_mismatch-number side s t h), cc)

-- ---- limits

sided_shape-within : (side : Side) (s : Shape) → ShapeWithin s → ShapeWithin (sided_shape side s)
unfolding sided_shape
sided_shape-within unsided s h = h
sided_shape-within left (shape o c) h = (h.0, (omega arith, tt))
sided_shape-within right (shape o c) h = ((omega arith, tt), h.0)

pub check_shape-within : (side : Side) (s t u : Shape) → ShapeWithin s → ShapeWithin t → check_shape side s t ≡ accepted u → ShapeWithin u
check_shape-within side s t u h k e = check_shape-accepted side s t e λ m w. rw (← w) (merge_within t (sided_shape side s) k (sided_shape-within side s h))
