-- Document 02, 2026-03: 10 and 14 together are exactly the Rust's mismatch; a 10 comes with an index, from the front or from the end, where
-- two sizes differ, and with a count test that does not fail; a 14 with one that fails, or as in case (m).
use Rattle.std.specs.Prelude.{ℕ, zero, suc, ◌+◌, ◌≤◌, ◌<◌, Bool, true, false, not, ◌&&◌, ◌||◌, cond, List, [], ◌∷◌, reverse, ◌⊎◌, ◌≡◌, refl, length, get_or, take, drop, leb, ltb}
use Rattle.std.proofs.Common.{arith, inl, inr, ⊎_elim, sym, ◌∙◌, ap, length-drop, length-take-le, leb-true, leb-false, lt-ltb, le-ltb}
use Rattle.std.proofs.Math.Bool.{and-true, and-false}
use Rattle.std.proofs.Math.Logic.{⊎_map}
use Rattle.std.proofs.Math.Option.{Option, none, some}
use Rattle.std.proofs.lemmas.List.{length-reverse}
use Rattle.model.specs.Types.{Dim, unknown, Shape, shape}
use Rattle.rules.specs.Sizes.{compatible}
use Rattle.rules.specs.Shapes.{is_any, rank, merge_from}
use Rattle.validation.specs.CheckShape.{Side, unsided, left, right, agree, equal_dim, last_sizes, sizes_agree, count_test, names_all, clash, mismatch, shape_mismatch, sided_shape, refused_by, check_shape}
use Rattle.validation.proofs.OutcomeLaws.{both_true}
use Rattle.validation.proofs.Claims.{any_fails, equal_dims, rust_count, rust_sizes, rust_mismatch, DiffersAt, SizeDiffers, FewerAlike, ByTheRust}

-- ---- the Rust's list tests

any-fails : (test : Dim → Dim → Bool) (p o : List Dim) → any_fails test p o ≡ not (agree test p o)
unfolding any_fails agree
any-fails test [] o = refl
any-fails test (d ∷ p) [] = refl
any-fails test (d ∷ p) (e ∷ o) = go (test d e) (any-fails test p o)
  where
    go : (b : Bool) → any_fails test p o ≡ not (agree test p o) → (not b || any_fails test p o) ≡ not (b && agree test p o)
    go true h = h
    go false h = refl

equal_even : (o p : List Dim) → length o ≡ length p → equal_dims o p ≡ agree equal_dim o p
unfolding equal_dims agree
equal_even [] [] h = refl
equal_even [] (e ∷ p) h = absurd (omega (arith, h))
equal_even (d ∷ o) [] h = absurd (omega (arith, h))
equal_even (d ∷ o) (e ∷ p) h = ap (λ b. equal_dim d e && b) (equal_even o p (omega (arith, h)))

equal_uneven : (o p : List Dim) → (length o ≡ length p → ⊥) → equal_dims o p ≡ false
unfolding equal_dims
equal_uneven [] [] h = absurd (h refl)
equal_uneven [] (e ∷ p) h = refl
equal_uneven (d ∷ o) [] h = refl
equal_uneven (d ∷ o) (e ∷ p) h = ap (λ b. equal_dim d e && b) (equal_uneven o p (λ q. h (ap suc q))) ∙ and-false (equal_dim d e)

agree-take : (o p : List Dim) → agree equal_dim o (take (length o) p) ≡ agree equal_dim o p
unfolding agree
agree-take [] p = refl
agree-take (d ∷ o) [] = refl
agree-take (d ∷ o) (e ∷ p) = ap (λ b. equal_dim d e && b) (agree-take o p)

-- ---- its first test is the count test

not-leb : (m n : ℕ) → not (leb m n) ≡ ltb n m
not-leb m n = go (leb m n) refl
  where
    go : (b : Bool) → leb m n ≡ b → not b ≡ ltb n m
    go true h = sym (le-ltb n m (leb-true m n h))
    go false h = sym (lt-ltb n m (leb-false m n h))

first-test : (side : Side) (o : List Dim) (t : Shape) → rust_count side o t ≡ not (count_test side o t)
unfolding rust_count count_test
first-test unsided o (shape p none) = refl
first-test unsided o (shape p (some d)) = sym (not-leb (length p + length d) (length o))
first-test left o (shape p none) = and-true (ltb (length p) (length o)) ∙ sym (not-leb (length o) (length p))
first-test left o (shape p (some d)) = and-false (ltb (length p) (length o))
first-test right o t = sym (not-leb (length o) (rank t))

-- ---- the others are of sizes and, for an open type without a side, of fewer

module _ (o p d : List Dim) where
  abbrev front : Bool
  front = agree equal_dim p o

  abbrev end : Bool
  end = agree equal_dim (reverse d) (reverse (drop (length p) o))

  abbrev all : Bool
  all = leb (length o) (length p + length d)

  module _ (h : length p + length d ≤ length o) where
    equal-front : equal_dims p (take (length p) o) ≡ front
    equal-front = equal_even p (take (length p) o) (sym (length-take-le (length p) o (omega (arith, h)))) ∙ agree-take p o

    equal-end : equal_dims (reverse d) (reverse (drop (length p) o)) ≡ (all && end)
    equal-end = go all refl
      where
        go : (b : Bool) → all ≡ b → equal_dims (reverse d) (reverse (drop (length p) o)) ≡ (b && end)
        go true e = equal_even (reverse d) (reverse (drop (length p) o)) (omega (arith, h, leb-true (length o) (length p + length d) e, length-reverse d, length-reverse (drop (length p) o), length-drop (length p) o))
        go false e = equal_uneven (reverse d) (reverse (drop (length p) o)) λ q.
            omega (arith, q, leb-false (length o) (length p + length d) e, length-reverse d, length-reverse (drop (length p) o), length-drop (length p) o)

  by_parts : (a f e : Bool) → (not f || not (a && e)) ≡ not ((f && e) && a)
  by_parts true true e = ap not (sym (and-true e))
  by_parts true false e = refl
  by_parts false true e = ap not (sym (and-false e))
  by_parts false false e = refl

  open_tests : length p + length d ≤ length o → rust_sizes unsided o (shape p (some d)) ≡ not ((front && end) && all)
  unfolding rust_sizes
  open_tests h = rw (equal-front h, equal-end h) (by_parts all front end)

other-tests : (side : Side) (o : List Dim) (t : Shape) → count_test side o t ≡ true → rust_sizes side o t ≡ not (sizes_agree side o t && names_all side o t)
unfolding rust_sizes count_test sizes_agree names_all
other-tests unsided o (shape p none) h = any-fails compatible p o ∙ ap not (sym (and-true (agree compatible p o)))
other-tests unsided o (shape p (some d)) h = open_tests o p d (leb-true (length p + length d) (length o) h)
other-tests left o (shape p c) h = any-fails compatible p o ∙ ap not (sym (and-true (agree compatible p o)))
other-tests right o (shape p none) h = any-fails compatible (reverse p) (reverse o) ∙ ap not (sym (and-true (agree compatible (reverse p) (reverse o))))
other-tests right o (shape p (some d)) h = any-fails compatible (reverse d) (reverse o) ∙ ap not (sym (and-true (agree compatible (reverse d) (reverse o))))

-- ---- a size that differs

-- lists that do not agree differ at an index
differs : (test : Dim → Dim → Bool) (p o : List Dim) → agree test p o ≡ false → DiffersAt test p o
unfolding agree
differs test [] o h = let z : ◌≡◌ {A = ℕ} 0 1 = cc in absurd (omega arith)
differs test (d ∷ p) [] h = let z : ◌≡◌ {A = ℕ} 0 1 = cc in absurd (omega arith)
differs test (d ∷ p) (e ∷ o) h = go (test d e) refl (differs test p o) h
  where
    later : DiffersAt test p o → DiffersAt test (d ∷ p) (e ∷ o)
    later r = record { index = suc r.index; in_first = omega (arith, r.in_first); in_second = omega (arith, r.in_second); differ = r.differ }

    go : (b : Bool) → test d e ≡ b → (agree test p o ≡ false → DiffersAt test p o) → (b && agree test p o) ≡ false → DiffersAt test (d ∷ p) (e ∷ o)
    go true x f y = later (f y)
    go false x f y = record { index = 0; in_first = omega arith; in_second = omega arith; differ = x }

-- and those that agree at none
none-differs : (test : Dim → Dim → Bool) (p o : List Dim) → agree test p o ≡ true → (i : ℕ) → i < length p → i < length o → test (get_or p i unknown) (get_or o i unknown) ≡ true
unfolding agree
none-differs test [] o h i j k = absurd (omega arith)
none-differs test (d ∷ p) [] h i j k = absurd (omega arith)
none-differs test (d ∷ p) (e ∷ o) h i j k = go (test d e) refl h i j k (none-differs test p o)
  where
    go : (b : Bool) → test d e ≡ b → (b && agree test p o) ≡ true → (i : ℕ) → i < suc (length p) → i < suc (length o)
        → (agree test p o ≡ true → (i : ℕ) → i < length p → i < length o → test (get_or p i unknown) (get_or o i unknown) ≡ true) → test (get_or (d ∷ p) i unknown) (get_or (e ∷ o) i unknown) ≡ true
    go true x h zero j k f = x
    go true x h (suc i) j k f = f h i (omega (arith, j)) (omega (arith, k))
    go false x h i j k f = let z : ◌≡◌ {A = ℕ} 0 1 = cc in absurd (omega arith)

no_difference : (test : Dim → Dim → Bool) (p o : List Dim) → agree test p o ≡ true → DiffersAt test p o → ⊥
no_difference test p o h r =
    let same = none-differs test p o h r.index r.in_first r.in_second in
    let q : true ≡ false = sym same ∙ r.differ in
    let z : ◌≡◌ {A = ℕ} 0 1 = cc in absurd (omega arith)

one-false : (a b : Bool) → (a && b) ≡ false → (a ≡ false) ⊎ (b ≡ false)
one-false true b h = inr h
one-false false b h = inl refl

disagree : (side : Side) (o : List Dim) (t : Shape) → sizes_agree side o t ≡ false → SizeDiffers side o t
unfolding sizes_agree
disagree unsided o (shape p none) h = differs compatible p o h
disagree unsided o (shape p (some d)) h =
    let left_over : List Dim = reverse (drop (length p) o) in
    ⊎_map (differs equal_dim p o) (differs equal_dim (reverse d) left_over) (one-false (agree equal_dim p o) (agree equal_dim (reverse d) left_over) h)
disagree left o (shape p c) h = differs compatible p o h
disagree right o t h = differs compatible (reverse (last_sizes t)) (reverse o) h

-- fewer, and none differs
fewer-alike : (side : Side) (o : List Dim) (t : Shape) → sizes_agree side o t ≡ true → names_all side o t ≡ false → FewerAlike side o t
unfolding sizes_agree names_all
fewer-alike unsided o (shape p none) h k = let z : ◌≡◌ {A = ℕ} 0 1 = cc in absurd (omega arith)
fewer-alike unsided o (shape p (some d)) h k =
    let left_over : List Dim = reverse (drop (length p) o) in
    let r = both_true (agree equal_dim p o) (agree equal_dim (reverse d) left_over) h in
    (leb-false (length o) (length p + length d) k, λ s. ⊎_elim (no_difference equal_dim p o r.0) (no_difference equal_dim (reverse d) left_over r.1) s)
fewer-alike left o t h k = let z : ◌≡◌ {A = ℕ} 0 1 = cc in absurd (omega arith)
fewer-alike right o t h k = let z : ◌≡◌ {A = ℕ} 0 1 = cc in absurd (omega arith)

-- ---- the answer

module _ (side : Side) (o : List Dim) (t u : Shape) where
  answer-of : (count sizes all : Bool) → count_test side o t ≡ count → sizes_agree side o t ≡ sizes → names_all side o t ≡ all
      → ByTheRust side o t (rust_count side o t || rust_sizes side o t) (refused_by (clash count sizes all) u)
  answer-of false sizes all e f g = rw (first-test side o t, e) (inr (refl, refl, inl (rw e at (first-test side o t))))
  answer-of true false all e f g = rw (first-test side o t, other-tests side o t e, e, f) (inl (refl, refl, disagree side o t f, rw e at (first-test side o t)))
  answer-of true true false e f g = rw (first-test side o t, other-tests side o t e, e, f, g) (inr (refl, refl, inr (fewer-alike side o t f g)))
  answer-of true true true e f g = rw (first-test side o t, other-tests side o t e, e, f, g) tt

-- "The Rust's one mismatch corresponds to either number."
pub one-mismatch : (side : Side) (o : List Dim) (c : Option (List Dim)) (t : Shape) → ByTheRust side o t (rust_mismatch side (shape o c) t) (check_shape side (shape o c) t)
unfolding check_shape shape_mismatch mismatch rust_mismatch
one-mismatch side o c t = go (is_any (shape o c)) (is_any t)
  where
    u : Shape
    u = merge_from t (sided_shape side (shape o c))

    go : (a b : Bool) → ByTheRust side o t ((not b && (rust_count side o t || rust_sizes side o t)) && not a) (refused_by (cond (a || b) none (clash (count_test side o t) (sizes_agree side o t) (names_all side o t))) u)
    go true true = tt
    go true false = rw (and-false (rust_count side o t || rust_sizes side o t)) tt
    go false true = tt
    go false false = rw (and-true (rust_count side o t || rust_sizes side o t)) (answer-of side o t u (count_test side o t) (sizes_agree side o t) (names_all side o t) refl refl refl)
