-- Fitting as a predicate, by the structure of the two lists: the test `fits` says the same. Shapes that name no closing size are
-- closed or open and no more, which is all that the first half of demand 3 asks of a shape.
use Rattle.std.specs.Prelude.{ℕ, suc, ◌+◌, ◌-◌, ◌≤◌, true, ◌&&◌, List, [], ◌∷◌, ◌++◌, ◌≡◌, refl, length, take, drop, leb}
use Rattle.std.proofs.Common.{arith, sym, ◌∙◌, ap, length-append, take-append-drop, drop_at, eqb-true, eq-eqb, leb-true, le-leb}
use Rattle.std.proofs.Math.Option.{Option, none, some}
use Rattle.model.specs.Types.{Dim, static, unknown, shape}
use Rattle.validation.proofs.OutcomeLaws.{both_true}
use Rattle.machine.specs.Real.{RealShape, fits_dim, fits_dims, starts, ends, fits}

-- ---- the predicate

abbrev pub Fit : Dim → ℕ → Type 0
Fit (static m) n = m ≡ n
Fit unknown n = Unit {0}

abbrev pub FitAll : List Dim → RealShape → Type 0
FitAll [] [] = Unit {0}
FitAll [] (n ∷ r) = ⊥
FitAll (d ∷ o) [] = ⊥
FitAll (d ∷ o) (n ∷ r) = Fit d n × FitAll o r

-- what may follow the opening sizes
abbrev pub Follows : Option (List Dim) → RealShape → Type 0
Follows none r = r ≡ []
Follows (some c) r = (a : RealShape) × (b : RealShape) × (r ≡ a ++ b) × FitAll c b

abbrev pub Fits : List Dim → Option (List Dim) → RealShape → Type 0
Fits [] c r = Follows c r
Fits (d ∷ o) c [] = ⊥
Fits (d ∷ o) c (n ∷ r) = Fit d n × Fits o c r

-- ---- from the test

fit_of : (d : Dim) (n : ℕ) → fits_dim d n ≡ true → Fit d n
fit_of (static m) n h = eqb-true m n h
fit_of unknown n h = tt

fit_all_of : (o : List Dim) (r : RealShape) → fits_dims o r ≡ true → FitAll o r
fit_all_of [] [] h = tt
fit_all_of [] (n ∷ r) h = let z : ◌≡◌ {A = ℕ} 0 1 = cc in absurd (omega arith)
fit_all_of (d ∷ o) [] h = let z : ◌≡◌ {A = ℕ} 0 1 = cc in absurd (omega arith)
fit_all_of (d ∷ o) (n ∷ r) h = let (a, b) = both_true (fits_dim d n) (fits_dims o r) h in (fit_of d n a, fit_all_of o r b)

closed_of : (o : List Dim) (r : RealShape) → FitAll o r → Fits o none r
closed_of [] [] h = refl
closed_of [] (n ∷ r) h = absurd h
closed_of (d ∷ o) [] h = absurd h
closed_of (d ∷ o) (n ∷ r) h = (h.0, closed_of o r h.1)

open_of : (o c : List Dim) (r : RealShape) → FitAll o (take (length o) r) → FitAll c (drop (length r - length c) r) → length o + length c ≤ length r → Fits o (some c) r
open_of [] c r h k l = (take (length r - length c) r, drop (length r - length c) r, sym (take-append-drop (length r - length c) r), k)
open_of (d ∷ o) c [] h k l = absurd h
open_of (d ∷ o) c (n ∷ r) h k l =
    let e : suc (length r) - length c ≡ suc (length r - length c) = omega arith in
    (h.0, open_of o c r h.1 (rw e at k) (omega arith))

pub fits-of : (o : List Dim) (c : Option (List Dim)) (r : RealShape) → fits (shape o c) r ≡ true → Fits o c r
unfolding fits
fits-of o none r h = closed_of o r (fit_all_of o r h)
fits-of o (some c) r h =
    let (a, l) = both_true (starts o r && ends c r) (leb (length o + length c) (length r)) h in
    let (x, y) = both_true (starts o r) (ends c r) a in
    open_of o c r (fit_all_of o (take (length o) r) x) (fit_all_of c (drop (length r - length c) r) y) (leb-true (length o + length c) (length r) l)

-- ---- to the test

of-fit : (d : Dim) (n : ℕ) → Fit d n → fits_dim d n ≡ true
of-fit (static m) n h = eq-eqb m n h
of-fit unknown n h = refl

of_fit_all : (o : List Dim) (r : RealShape) → FitAll o r → fits_dims o r ≡ true
of_fit_all [] [] h = refl
of_fit_all [] (n ∷ r) h = absurd h
of_fit_all (d ∷ o) [] h = absurd h
of_fit_all (d ∷ o) (n ∷ r) h = rw (of-fit d n h.0) (of_fit_all o r h.1)

fit_all_length : (o : List Dim) (r : RealShape) → FitAll o r → length r ≡ length o
fit_all_length [] [] h = refl
fit_all_length [] (n ∷ r) h = absurd h
fit_all_length (d ∷ o) [] h = absurd h
fit_all_length (d ∷ o) (n ∷ r) h = ap suc (fit_all_length o r h.1)

of-closed : (o : List Dim) (r : RealShape) → Fits o none r → FitAll o r
of-closed [] r h = rw h tt
of-closed (d ∷ o) [] h = absurd h
of-closed (d ∷ o) (n ∷ r) h = (h.0, of-closed o r h.1)

-- the three parts of the test, of an open shape
record Parts (o c : List Dim) (r : RealShape) : Type 0 where
  start : FitAll o (take (length o) r)
  end : FitAll c (drop (length r - length c) r)
  apart : length o + length c ≤ length r

of_open : (o c : List Dim) (r : RealShape) → Fits o (some c) r → Parts o c r
of_open [] c r (a, b, e, h) =
    let l = fit_all_length c b h in
    let k : length r ≡ length a + length b = ap length e ∙ length-append a b in
    let m : length a ≡ length r - length c = omega arith in
    let w : drop (length r - length c) r ≡ b = ap (drop (length r - length c)) e ∙ drop_at a b (length r - length c) m in
    record { start = tt; end = rw w h; apart = omega arith }
of_open (d ∷ o) c [] h = absurd h
of_open (d ∷ o) c (n ∷ r) h =
    let p = of_open o c r h.1 in
    let l = p.apart in
    let e : suc (length r) - length c ≡ suc (length r - length c) = omega arith in
    record { start = (h.0, p.start); end = rw e p.end; apart = omega arith }

pub of-fits : (o : List Dim) (c : Option (List Dim)) (r : RealShape) → Fits o c r → fits (shape o c) r ≡ true
unfolding fits
of-fits o none r h = of_fit_all o r (of-closed o r h)
of-fits o (some c) r h =
    let p = of_open o c r h in
    rw (of_fit_all o (take (length o) r) p.start, of_fit_all c (drop (length r - length c) r) p.end) (le-leb (length o + length c) (length r) p.apart)
