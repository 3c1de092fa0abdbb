-- What two sizes give unfilled; and what a real pervading, a real step and a real run that go on say of their parts, by continuation.
use Rattle.std.specs.Prelude.{ℕ, Bool, true, false, cond, List, ◌∷◌, ◌≡◌, refl, eqb, ltb}
use Rattle.std.proofs.Common.{arith}
use Rattle.std.proofs.Math.Option.{Option, none, some}
use Rattle.machine.specs.Real.{RealShape, grown, real_dim, cons_both, onto_real, goes_on}

-- Unfilled, two sizes that differ stop.
pub real_dim-unfilled : (m n : ℕ) → real_dim false false m n ≡ cond (eqb m 1) (some n) (cond (eqb n 1) (some m) (cond (eqb m n) (some m) none))
real_dim-unfilled m n = rw (go (ltb m n))
  where
    go : (t : Bool) → cond t (grown false n) (grown false m) ≡ none
    go true = refl
    go false = refl

pub cons_both-some : {A C : Type 0} (x : Option A) (r : Option (List A)) {z : List A} → cons_both x r ≡ some z → ((a : A) (l : List A) → x ≡ some a → r ≡ some l → a ∷ l ≡ z → C) → C
cons_both-some none r e k = let z : ◌≡◌ {A = ℕ} 0 1 = cc in absurd (omega arith)
cons_both-some (some a) none e k = let z : ◌≡◌ {A = ℕ} 0 1 = cc in absurd (omega arith)
cons_both-some (some a) (some l) e k = k a l refl refl (cc)

pub cond-some : {A C : Type 0} (t : Bool) {a b : A} → cond t (some a) none ≡ some b → (t ≡ true → a ≡ b → C) → C
cond-some true e k = k refl (cc)
cond-some false e k = let z : ◌≡◌ {A = ℕ} 0 1 = cc in absurd (omega arith)

pub onto_real-some : {C : Type 0} (rs : List RealShape) (o : Option RealShape) {out : List RealShape} → onto_real rs o ≡ some out → ((r : RealShape) → o ≡ some r → r ∷ rs ≡ out → C) → C
onto_real-some rs none e k = let z : ◌≡◌ {A = ℕ} 0 1 = cc in absurd (omega arith)
onto_real-some rs (some r) e k = k r refl (cc)

pub goes_on-some : {C : Type 0} (o : Option (List RealShape)) {f : List RealShape → Option (List RealShape)} {out : List RealShape}
    → goes_on o f ≡ some out → ((rs : List RealShape) → o ≡ some rs → f rs ≡ some out → C) → C
goes_on-some none e k = let z : ◌≡◌ {A = ℕ} 0 1 = cc in absurd (omega arith)
goes_on-some (some rs) e k = k rs refl e
