-- A stack of values of any kind that are laid down, and mixed two by two by a rule that may refuse. What is on the stack and
-- still to be laid, gathered in a commutative monoid, stays the same along the moves; and where the rule refuses, it holds what
-- refuses.
use Prim.Native.Nat.{ℕ, suc, ◌-◌, ◌≤◌}
use native.Mathlib.Omega.{arith}
use mathlib.Core.List.{List, [], ◌∷◌}
use Rattle.std.proofs.Math.Option.{Option, none, some}
use Rattle.std.proofs.Math.Path.{◌≡◌, refl, sym, ap}
use Rattle.std.proofs.Common.{◌∙◌}
use Rattle.std.specs.Prelude.{length}

pub data Move (A : Type 0) : Type 0 where
  lay : A → Move A
  mix : Move A

abbrev pub laid_down : {A : Type 0} → List (Move A) → List A
laid_down [] = []
laid_down (lay a ∷ ms) = a ∷ laid_down ms
laid_down (mix ∷ ms) = laid_down ms

-- the height is enough for each move, and the height left
abbrev pub Enough : {A : Type 0} → List (Move A) → ℕ → Type 0
Enough [] h = Unit {0}
Enough (lay a ∷ ms) h = Enough ms (suc h)
Enough (mix ∷ ms) h = (2 ≤ h) × Enough ms (h - 1)

abbrev pub height_left : {A : Type 0} → List (Move A) → ℕ → ℕ
height_left [] h = h
height_left (lay a ∷ ms) h = height_left ms (suc h)
height_left (mix ∷ ms) h = height_left ms (h - 1)

module _ {A : Type 0} (rule : A → A → Option A) where
  abbrev pub mixed : Option A → (A → Option (List A)) → Option (List A)
  mixed none k = none
  mixed (some c) k = k c

  unfoldable pub play : List (Move A) → List A → Option (List A)
  play [] st = some st
  play (lay a ∷ ms) st = play ms (a ∷ st)
  play (mix ∷ ms) [] = none
  play (mix ∷ ms) (a ∷ []) = none
  play (mix ∷ ms) (a ∷ b ∷ st) = mixed (rule a b) λ c. play ms (c ∷ st)

  pub mixed-some : {C : Type 0} (r : Option A) {k : A → Option (List A)} {z : List A} → mixed r k ≡ some z → ((c : A) → r ≡ some c → k c ≡ some z → C) → C
  mixed-some none e f = let z : ◌≡◌ {A = ℕ} 0 1 = cc in absurd (omega arith)
  mixed-some (some c) e f = f c refl e

  pub play-length : (ms : List (Move A)) (st z : List A) → play ms st ≡ some z → length z ≡ height_left ms (length st)
  unfolding play
  play-length [] st z e = let w : st ≡ z = cc in rw (← w)
  play-length (lay a ∷ ms) st z e = play-length ms (a ∷ st) z e
  play-length (mix ∷ ms) [] z e = let z : ◌≡◌ {A = ℕ} 0 1 = cc in absurd (omega arith)
  play-length (mix ∷ ms) (a ∷ []) z e = let z : ◌≡◌ {A = ℕ} 0 1 = cc in absurd (omega arith)
  play-length (mix ∷ ms) (a ∷ b ∷ st) z e = mixed-some (rule a b) e λ c e₁ e₂. let n : suc (suc (length st)) - 1 ≡ suc (length st) = omega arith in rw n (play-length ms (c ∷ st) z e₂)

-- what is gathered from each element of a list
abbrev pub gather : {A M : Type 0} → M → (M → M → M) → (A → M) → List A → M
gather unit plus value [] = unit
gather unit plus value (a ∷ l) = plus (value a) (gather unit plus value l)

-- A commutative monoid.
pub record Commutes {M : Type 0} (unit : M) (plus : M → M → M) : Type 0 where
  pub unital : (x : M) → plus unit x ≡ x
  pub comm : (x y : M) → plus x y ≡ plus y x
  pub assoc : (x y z : M) → plus (plus x y) z ≡ plus x (plus y z)

module _ {A M : Type 0} {unit : M} {plus : M → M → M} (laws : Commutes unit plus) (value : A → M) where
  abbrev all : List A → M
  all l = gather unit plus value l

  pub past_first : (x y z : M) → plus (plus x y) z ≡ plus y (plus x z)
  past_first x y z = ap (λ w. plus w z) (laws.comm x y) ∙ laws.assoc y x z

  pub gather-play : (rule : A → A → Option A) → ((a b c : A) → rule a b ≡ some c → value c ≡ plus (value a) (value b)) → (ms : List (Move A)) (st z : List A)
      → play rule ms st ≡ some z → all z ≡ plus (all st) (all (laid_down ms))
  unfolding play
  gather-play rule joins [] st z e = let w : st ≡ z = cc in rw (← w) (sym (laws.comm (all st) unit ∙ laws.unital (all st)))
  gather-play rule joins (lay a ∷ ms) st z e = gather-play rule joins ms (a ∷ st) z e ∙ past_first (value a) (all st) (all (laid_down ms))
  gather-play rule joins (mix ∷ ms) [] z e = let z : ◌≡◌ {A = ℕ} 0 1 = cc in absurd (omega arith)
  gather-play rule joins (mix ∷ ms) (a ∷ []) z e = let z : ◌≡◌ {A = ℕ} 0 1 = cc in absurd (omega arith)
  gather-play rule joins (mix ∷ ms) (a ∷ b ∷ st) z e =
      mixed-some rule (rule a b) e λ c e₁ e₂.
      gather-play rule joins ms (c ∷ st) z e₂ ∙ ap (λ w. plus w (all (laid_down ms))) (rw (joins a b c e₁) (laws.assoc (value a) (value b) (all st)))

-- A rule whose value at each index is gathered from the two, and that refuses only where they gather to what absorbs all.
pub record Joins {A M : Type 0} (plus : M → M → M) (value : ℕ → A → M) (bad : M) (rule : A → A → Option A) : Type 0 where
  pub absorbs : (x : M) → plus bad x ≡ bad
  pub joins : (i : ℕ) (a b c : A) → rule a b ≡ some c → value i c ≡ plus (value i a) (value i b)
  pub refuses : (a b : A) → rule a b ≡ none → (i : ℕ) × (plus (value i a) (value i b) ≡ bad)

module _ {A M : Type 0} {unit : M} {plus : M → M → M} (laws : Commutes unit plus) {value : ℕ → A → M} {bad : M} (rule : A → A → Option A) (r : Joins plus value bad rule) where
  abbrev at-index : ℕ → List A → M
  at-index i l = gather unit plus (value i) l

  pub play-none : (ms : List (Move A)) (st : List A) → Enough ms (length st) → play rule ms st ≡ none → (i : ℕ) × (plus (at-index i st) (at-index i (laid_down ms)) ≡ bad)
  unfolding play
  play-none [] st h e = let z : ◌≡◌ {A = ℕ} 0 1 = cc in absurd (omega arith)
  play-none (lay a ∷ ms) st h e =
      let (i, w) = play-none ms (a ∷ st) h e in
      (i, sym (past_first laws (value i) (value i a) (at-index i st) (at-index i (laid_down ms))) ∙ w)
  play-none (mix ∷ ms) [] h e = absurd (omega (arith, h.0))
  play-none (mix ∷ ms) (a ∷ []) h e = absurd (omega (arith, h.0))
  play-none (mix ∷ ms) (a ∷ b ∷ st) h e = go (rule a b) refl e (λ c k. play-none ms (c ∷ st) k)
    where
      -- gathered from these on top
      Spoilt : M → ℕ → Type 0
      Spoilt x i = plus x (at-index i (laid_down ms)) ≡ bad

      regroup : (i : ℕ) → plus (value i a) (plus (value i b) (at-index i st)) ≡ plus (plus (value i a) (value i b)) (at-index i st)
      regroup i = sym (laws.assoc (value i a) (value i b) (at-index i st))

      go : (o : Option A) → rule a b ≡ o → mixed rule o (λ c. play rule ms (c ∷ st)) ≡ none
          → ((c : A) → Enough ms (suc (length st)) → play rule ms (c ∷ st) ≡ none → (i : ℕ) × Spoilt (plus (value i c) (at-index i st)) i)
          → (i : ℕ) × Spoilt (plus (value i a) (plus (value i b) (at-index i st))) i
      go none o e k =
          let (i, w) = r.refuses a b o in
          (i, rw (regroup i, w, r.absorbs (at-index i st)) (r.absorbs (at-index i (laid_down ms))))
      go (some c) o e k = onward (k c (rw n at h.1) e)
        where
          n : suc (suc (length st)) - 1 ≡ suc (length st)
          n = omega arith

          onward : (i : ℕ) × Spoilt (plus (value i c) (at-index i st)) i → (i : ℕ) × Spoilt (plus (value i a) (plus (value i b) (at-index i st))) i
          onward (i, w) = (i, rw (regroup i, ← r.joins i a b c o) w)

  -- Moves that leave one value: refused, and what absorbs all was gathered somewhere; or that value is what was gathered.
  pub play-one : {C : Type 0} (ms : List (Move A)) → Enough ms 0 → height_left ms 0 ≡ 1
      → (play rule ms [] ≡ none → (i : ℕ) × (at-index i (laid_down ms) ≡ bad) → C)
      → ((a : A) → play rule ms [] ≡ some (a ∷ []) → ((i : ℕ) → value i a ≡ at-index i (laid_down ms)) → C) → C
  play-one {C = C} ms h n k l = go (play rule ms []) refl
    where
      left : (z : List A) → length z ≡ 1 → play rule ms [] ≡ some z → C
      left [] n e = absurd (omega arith)
      left (a ∷ b ∷ z) n e = absurd (omega arith)
      left (a ∷ []) n e = l a e (λ i. sym (laws.comm (value i a) unit ∙ laws.unital (value i a)) ∙ gather-play laws (value i) rule (r.joins i) ms [] (a ∷ []) e ∙ laws.unital (at-index i (laid_down ms)))

      go : (o : Option (List A)) → play rule ms [] ≡ o → C
      go none e = let (i, w) = play-none ms [] h e in k e (i, sym (laws.unital (at-index i (laid_down ms))) ∙ w)
      go (some z) e = left z (play-length rule ms [] z e ∙ n) e
