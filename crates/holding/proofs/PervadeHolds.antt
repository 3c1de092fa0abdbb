-- What two shapes that name no closing sizes say of real shapes, their pervading in sheets says of the real pervading, filled alike.
use Rattle.std.specs.Prelude.{ℕ, Bool, true, false, not, ◌&&◌, ◌||◌, cond, List, [], ◌∷◌, ◌≡◌, refl, eqb, ltb}
use Rattle.std.proofs.Common.{arith, sym, ◌∙◌, ap, eqb-true, ltb-true, ltb-false}
use Rattle.std.proofs.Math.Bool.{or_comm}
use Rattle.std.proofs.Math.Option.{Option, none, some}
use Rattle.std.proofs.lemmas.Bool.{eqb-false}
use Rattle.model.specs.Types.{Dim, static, unknown, Shape, shape}
use Rattle.rules.specs.Shapes.{is_open}
use Rattle.rules.specs.Pervade.{against_absent, filled, together, Pervaded, sizes, clash, walk, pervade_closing, closed_by}
use Rattle.rules.specs.PervadeInSheets.{may_grow, in_sheets_at, pervade_in_sheets}
use Rattle.rules.proofs.PervadeLaws.{together-unknown, together-statics, then_rest-sizes, walk-comm}
use Rattle.rules.proofs.PervadeInSheetsLaws.{in_sheets_at-comm}
use Rattle.machine.specs.Real.{RealShape, fits, grown, real_dim, real_pervade}
use Rattle.machine.proofs.RealLaws.{cons_both-some}
use Rattle.holding.specs.Fitting.{Fit}
use Rattle.holding.specs.Bare.{BareClosing, Bare, Rest, StartsWith, begins_of, of_begins}
use Rattle.holding.specs.FitAgainst.{fit_against}

-- ---- real pervading

real_dim-comm : (f g : Bool) (m n : ℕ) → real_dim f g m n ≡ real_dim g f n m
real_dim-comm f g m n = go (eqb m 1) (eqb n 1) refl refl (order (eqb m n) (eqb n m) (ltb m n) (ltb n m) refl refl refl refl)
  where
    order : (r t u v : Bool) → eqb m n ≡ r → eqb n m ≡ t → ltb m n ≡ u → ltb n m ≡ v
        → cond r (some m) (cond u (grown f n) (grown g m)) ≡ cond t (some n) (cond v (grown g m) (grown f n))
    order true true u v hr ht hu hv = ap some (eqb-true m n hr)
    order true false u v hr ht hu hv = absurd (eqb-false n m ht (sym (eqb-true m n hr)))
    order false true u v hr ht hu hv = absurd (eqb-false m n hr (sym (eqb-true n m ht)))
    order false false true true hr ht hu hv = let x = ltb-true m n hu in let y = ltb-true n m hv in absurd (omega arith)
    order false false true false hr ht hu hv = refl
    order false false false true hr ht hu hv = refl
    order false false false false hr ht hu hv = let x = ltb-false m n hu in let y = ltb-false n m hv in absurd (eqb-false m n hr (omega arith))

    go : (p q : Bool) → eqb m 1 ≡ p → eqb n 1 ≡ q → {x y : Option ℕ} → x ≡ y → cond p (some n) (cond q (some m) x) ≡ cond q (some m) (cond p (some n) y)
    go true true hp hq e = ap some (eqb-true n 1 hq ∙ sym (eqb-true m 1 hp))
    go true false hp hq e = refl
    go false true hp hq e = refl
    go false false hp hq e = e

pub real_pervade-comm : (f g : Bool) (r q : RealShape) → real_pervade f g r q ≡ real_pervade g f q r
unfolding real_pervade
real_pervade-comm f g [] [] = refl
real_pervade-comm f g [] (n ∷ q) = refl
real_pervade-comm f g (m ∷ r) [] = refl
real_pervade-comm f g (m ∷ r) (n ∷ q) = rw (real_dim-comm f g m n, real_pervade-comm f g r q)

-- ---- one index

-- ? fits; so only a size that does not grow has to be looked at
fit_unless : (t : Bool) (c : Option Dim) (x : Dim) (z : ℕ) → cond t (some unknown) c ≡ some x → (t ≡ false → c ≡ some x → Fit x z) → Fit x z
fit_unless true c x z e k = let w : unknown ≡ x = cc in rw (← w) tt
fit_unless false c x z e k = k refl e

or_false-second : (t u : Bool) → t || u ≡ false → u ≡ false
or_false-second true u h = let w : ◌≡◌ {A = ℕ} 0 1 = cc in absurd (omega arith)
or_false-second false u h = h

-- against no real one
fit-alone : (e : Dim) (n : ℕ) → Fit e n → Fit (against_absent e) n
unfolding against_absent
fit-alone unknown n h = tt
fit-alone (static b) n h = go (eqb b 1)
  where
    go : (t : Bool) → Fit (cond t unknown (static b)) n
    go true = tt
    go false = h

-- what an index gives where the first shape, which is open, has no size
absent-gives : (f g b : Bool) (d x : Dim) (m n z : ℕ) → Fit d n → in_sheets_at f g true b none (some d) ≡ some x → real_dim f g m n ≡ some z → Fit x z
unfolding in_sheets_at
absent-gives f g b d x m n z k h y =
    fit_unless (may_grow f b none (some d) || may_grow g true (some d) none) (some (against_absent d)) x z h λ s i.
    let w : against_absent d ≡ x = cc in
    rw (← w) (fit_against f g d m n z (or_false-second (may_grow f b none (some d)) (may_grow g true (some d) none) s) k y)

-- and where the real shape has none there either
absent-alone : (f g a b : Bool) (d x : Dim) (n : ℕ) → Fit d n → in_sheets_at f g a b none (some d) ≡ some x → Fit x n
unfolding in_sheets_at
absent-alone f g a b d x n k h =
    fit_unless (may_grow f b none (some d) || may_grow g a (some d) none) (some (against_absent d)) x n h λ s i.
    let w : against_absent d ≡ x = cc in
    rw (← w) (fit-alone d n k)

-- what an index gives where the first shape has ?
unknown-gives : (f g a b : Bool) (e x : Dim) (m n z : ℕ) → Fit e n → in_sheets_at f g a b (some unknown) (some e) ≡ some x → real_dim f g m n ≡ some z → Fit x z
unfolding in_sheets_at
unknown-gives f g a b e x m n z k h y =
    fit_unless (may_grow f b (some unknown) (some e) || may_grow g a (some e) (some unknown)) (together f g unknown e) x z h λ s i.
    let w : against_absent e ≡ x = let v = together-unknown f g e in cc in
    rw (← w) (fit_against f g e m n z (or_false-second (may_grow f b (some unknown) (some e)) (may_grow g a (some e) (some unknown)) s) k y)

statics-give : (f g a b : Bool) (m n z : ℕ) (x : Dim) → in_sheets_at f g a b (some (static m)) (some (static n)) ≡ some x → real_dim f g m n ≡ some z → Fit x z
unfolding in_sheets_at
statics-give f g a b m n z x h y =
    fit_unless (may_grow f b (some (static m)) (some (static n)) || may_grow g a (some (static n)) (some (static m))) (together f g (static m) (static n)) x z h λ s i.
    go f g (eqb m 1) (eqb n 1) (eqb m n) (ltb m n) (sym (together-statics f g m n) ∙ i) y
  where
    go : (f g p q r l : Bool) → cond p (some (static n)) (cond q (some (static m)) (cond r (some (static m)) (cond l (filled f (static n)) (filled g (static m))))) ≡ some x
        → cond p (some n) (cond q (some m) (cond r (some m) (cond l (grown f n) (grown g m)))) ≡ some z → Fit x z
    go f g true q r l h y = let w : static n ≡ x = cc in rw (← w) (cc)
    go f g false true r l h y = let w : static m ≡ x = cc in rw (← w) (cc)
    go f g false false true l h y = let w : static m ≡ x = cc in rw (← w) (cc)
    go true g false false false true h y = let w : static n ≡ x = cc in rw (← w) (cc)
    go false g false false false true h y = let w : ◌≡◌ {A = ℕ} 0 1 = cc in absurd (omega arith)
    go f true false false false false h y = let w : static m ≡ x = cc in rw (← w) (cc)
    go f false false false false false h y = let w : ◌≡◌ {A = ℕ} 0 1 = cc in absurd (omega arith)

both-give : (f g a b : Bool) (d e x : Dim) (m n z : ℕ) → Fit d m → Fit e n → in_sheets_at f g a b (some d) (some e) ≡ some x → real_dim f g m n ≡ some z → Fit x z
both-give f g a b unknown e x m n z h k i y = unknown-gives f g a b e x m n z k i y
both-give f g a b (static c) unknown x m n z h k i y =
    unknown-gives g f b a (static c) x n m z h (in_sheets_at-comm g f b a (some unknown) (some (static c)) ∙ i) (real_dim-comm g f n m ∙ y)
both-give f g a b (static c) (static d) x m n z h k i y = statics-give f g a b c d z x i (rw (← h, ← k) at y)

-- ---- all indices

rests : (f g a b : Bool) (r q z : RealShape) → Rest a r → Rest b q → real_pervade f g r q ≡ some z → Rest (a || b) z
unfolding real_pervade
rests f g true b r q z h k y = tt
rests f g false true r q z h k y = tt
rests f g false false [] [] z h k y = let w : [] ≡ z = cc in rw (← w) tt
rests f g false false [] (n ∷ q) z h k y = absurd k
rests f g false false (m ∷ r) q z h k y = absurd h

-- where the first shape has no more opening sizes
begins_right : (f g a b : Bool) (p x : List Dim) (r q z : RealShape) → Rest a r → StartsWith b p q → walk (in_sheets_at f g a b) [] p ≡ sizes x → real_pervade f g r q ≡ some z → StartsWith (a || b) x z
unfolding real_pervade walk
begins_right f g a b [] x r q z h k e y = let w : [] ≡ x = cc in rw (← w) (rests f g a b r q z h k y)
begins_right f g a b (d ∷ p) x r [] z h k e y = absurd k
begins_right f g a b (d ∷ p) x [] (n ∷ q) z h k e y =
    then_rest-sizes (in_sheets_at f g a b none (some d)) (walk (in_sheets_at f g a b) [] p) e λ x₀ x₁ e₀ e₁ v.
    let w : n ∷ q ≡ z = cc in
    rw (← v, ← w) (absent-alone f g a b d x₀ n k.0 e₀, begins_right f g a b p x₁ [] q q h k.1 e₁ refl)
begins_right f g true b (d ∷ p) x (m ∷ r) (n ∷ q) z h k e y =
    then_rest-sizes (in_sheets_at f g true b none (some d)) (walk (in_sheets_at f g true b) [] p) e λ x₀ x₁ e₀ e₁ v.
    cons_both-some (real_dim f g m n) (real_pervade f g r q) y λ z₀ z₁ y₀ y₁ w.
    rw (← v, ← w) (absent-gives f g b d x₀ m n z₀ k.0 e₀ y₀, begins_right f g true b p x₁ r q z₁ tt k.1 e₁ y₁)
begins_right f g false b (d ∷ p) x (m ∷ r) (n ∷ q) z h k e y = absurd h

begins_pervade : (f g a b : Bool) (o p x : List Dim) (r q z : RealShape)
    → StartsWith a o r → StartsWith b p q → walk (in_sheets_at f g a b) o p ≡ sizes x → real_pervade f g r q ≡ some z → StartsWith (a || b) x z
unfolding real_pervade walk
begins_pervade f g a b [] p x r q z h k e y = begins_right f g a b p x r q z h k e y
begins_pervade f g a b (d ∷ o) [] x r q z h k e y =
    rw (or_comm a b)
    (begins_right g f b a (d ∷ o) x q r z k h (walk-comm (in_sheets_at g f b a) (in_sheets_at f g a b) (in_sheets_at-comm g f b a) [] (d ∷ o) ∙ e) (real_pervade-comm g f q r ∙ y))
begins_pervade f g a b (d ∷ o) (c ∷ p) x [] q z h k e y = absurd h
begins_pervade f g a b (d ∷ o) (c ∷ p) x (m ∷ r) [] z h k e y = absurd k
begins_pervade f g a b (d ∷ o) (c ∷ p) x (m ∷ r) (n ∷ q) z h k e y =
    then_rest-sizes (in_sheets_at f g a b (some d) (some c)) (walk (in_sheets_at f g a b) o p) e λ x₀ x₁ e₀ e₁ v.
    cons_both-some (real_dim f g m n) (real_pervade f g r q) y λ z₀ z₁ y₀ y₁ w.
    rw (← v, ← w) (both-give f g a b d c x₀ m n z₀ h.0 k.0 e₀ y₀, begins_pervade f g a b o p x₁ r q z₁ h.1 k.1 e₁ y₁)

-- ---- shapes

closing-bare : (c d : Option (List Dim)) → BareClosing c → BareClosing d → BareClosing (pervade_closing c d) × (is_open (pervade_closing c d) ≡ is_open c || is_open d)
unfolding pervade_closing
closing-bare none none u v = (tt, refl)
closing-bare none (some d) u v = (v, refl)
closing-bare (some c) none u v = (u, refl)
closing-bare (some []) (some d) u v = (v, refl)
closing-bare (some (x ∷ c)) (some d) u v = absurd u

pub closed_by-some : {C : Type 0} (c : Option (List Dim)) (r : Pervaded) {x : Shape} → closed_by c r ≡ some x → ((l : List Dim) → r ≡ sizes l → shape l c ≡ x → C) → C
closed_by-some c (clash i) e k = let z : ◌≡◌ {A = ℕ} 0 1 = cc in absurd (omega arith)
closed_by-some c (sizes l) e k = k l refl (cc)

pub pervade_holds : (f g : Bool) (s t x : Shape) (r q z : RealShape) → Bare s → Bare t → fits s r ≡ true → fits t q ≡ true
    → pervade_in_sheets f g s t ≡ some x → real_pervade f g r q ≡ some z → (fits x z ≡ true) × Bare x
unfolding pervade_in_sheets
pervade_holds f g (shape o c) (shape p d) x r q z u v h k e y =
    closed_by-some (pervade_closing c d) (walk (in_sheets_at f g (is_open c) (is_open d)) o p) e λ l e₀ w.
    let (bare, same) = closing-bare c d u v in
    let i = begins_pervade f g (is_open c) (is_open d) o p l r q z (begins_of o c r h) (begins_of p d q k) e₀ y in
    rw (← w) (of_begins l (pervade_closing c d) z bare (rw same i), bare)
