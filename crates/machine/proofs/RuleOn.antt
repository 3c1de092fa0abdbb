-- What a rule makes of a stack, whichever step's it is: the height, what it lacks and what it has no room for, and what is kept by it.
-- So a fact about all steps follows from one about each step's rule, without looking at the stack again.
use Rattle.std.specs.Prelude.{ℕ, suc, ◌+◌, ◌-◌, ◌≤◌, ◌<◌, Bool, true, false, cond, List, [], ◌∷◌, ◌≡◌, refl, length, ltb}
use Rattle.std.proofs.Common.{arith, le-ltb}
use Rattle.std.proofs.Math.Option.{Option, none, some}
use Rattle.model.specs.Refusals.{underflow, overflow}
use Rattle.model.specs.Types.{Ty}
use Rattle.model.specs.Within.{All}
use Rattle.machine.specs.SheetLimits.{max_stack}
use Rattle.machine.specs.Steps.{Step, put, row, pervading, join, validating, opcode_of, takes, lays, Rule, of_none, of_one, of_two}
use Rattle.machine.specs.Run.{Ruling, gives, refuses, Stack, onto, rule_of, rule_on}
use Rattle.machine.specs.Real.{RealShape, Feed, onto_real, real_rule, real_rule_on}
use Rattle.machine.proofs.RunLaws.{following-gives}

-- ---- how many it takes

abbrev pub arity : {A R : Type 0} → Rule A R → ℕ
arity (of_none r) = 0
arity (of_one f) = 1
arity (of_two f) = 2

pub rule_takes : (x : Step) → takes (opcode_of x) ≡ arity (rule_of x)
rule_takes (put t) = refl
rule_takes row = refl
rule_takes (pervading f g) = refl
rule_takes join = refl
rule_takes (validating spec) = refl

pub real_takes : (x : Step) (f : Feed x) → takes (opcode_of x) ≡ arity (real_rule x f)
real_takes (put t) f = refl
real_takes row f = refl
real_takes (pervading a b) f = refl
real_takes join f = refl
real_takes (validating spec) f = refl

-- Each that is worked lays one down.
pub lays_one : (x : Step) → lays (opcode_of x) ≡ 1
lays_one (put t) = refl
lays_one row = refl
lays_one (pervading f g) = refl
lays_one join = refl
lays_one (validating spec) = refl

-- ---- types

onto_height : (st : Stack) (a : Ruling Ty) {st₁ : Stack} → onto st a ≡ gives st₁ → length st₁ ≡ suc (length st)
onto_height st a {st₁} e = following-gives a e λ t e₁ e₂. let w : t ∷ st ≡ st₁ = cc in rw (← w)

-- where there is room
pub room-gives : {C : Type 0} (b : Bool) (st : Stack) (a : Ruling Ty) {st₁ : Stack} → cond b (onto st a) (refuses overflow) ≡ gives st₁ → (onto st a ≡ gives st₁ → C) → C
room-gives true st a e k = k e
room-gives false st a e k = let z : ◌≡◌ {A = ℕ} 0 1 = cc in absurd (omega arith)

pub rule_on_height : (r : Rule Ty (Ruling Ty)) (st st₁ : Stack) → rule_on r st ≡ gives st₁ → (arity r ≤ length st) × (length st₁ ≡ length st - arity r + 1)
rule_on_height (of_none a) st st₁ e = room-gives (ltb (length st) max_stack) st a e λ e₁. (omega arith, omega (arith, onto_height st a e₁))
rule_on_height (of_one f) [] st₁ e = let z : ◌≡◌ {A = ℕ} 0 1 = cc in absurd (omega arith)
rule_on_height (of_one f) (t ∷ st) st₁ e = (omega arith, omega (arith, onto_height st (f t) e))
rule_on_height (of_two f) [] st₁ e = let z : ◌≡◌ {A = ℕ} 0 1 = cc in absurd (omega arith)
rule_on_height (of_two f) (t ∷ []) st₁ e = let z : ◌≡◌ {A = ℕ} 0 1 = cc in absurd (omega arith)
rule_on_height (of_two f) (t ∷ u ∷ st) st₁ e = (omega arith, omega (arith, onto_height st (f t u) e))

pub rule_on-lacks : (r : Rule Ty (Ruling Ty)) (st : Stack) → length st < arity r → rule_on r st ≡ refuses underflow
rule_on-lacks (of_none a) st h = absurd (omega arith)
rule_on-lacks (of_one f) [] h = refl
rule_on-lacks (of_one f) (t ∷ st) h = absurd (omega arith)
rule_on-lacks (of_two f) [] h = refl
rule_on-lacks (of_two f) (t ∷ []) h = refl
rule_on-lacks (of_two f) (t ∷ u ∷ st) h = absurd (omega arith)

pub rule_on-full : (r : Rule Ty (Ruling Ty)) (st : Stack) → length st ≤ max_stack → arity r ≤ length st → max_stack < length st - arity r + 1 → rule_on r st ≡ refuses overflow
rule_on-full (of_none a) st h k l = rw (le-ltb (length st) max_stack (omega arith))
rule_on-full (of_one f) st h k l = absurd (omega arith)
rule_on-full (of_two f) st h k l = absurd (omega arith)

-- What is so of the types that a rule takes is so of the one that it makes.
abbrev pub Makes : (Ty → Type 0) → Rule Ty (Ruling Ty) → Type 0
Makes P (of_none a) = (x : Ty) → a ≡ gives x → P x
Makes P (of_one f) = (t x : Ty) → P t → f t ≡ gives x → P x
Makes P (of_two f) = (t u x : Ty) → P t → P u → f t u ≡ gives x → P x

module _ (P : Ty → Type 0) where
  onto-makes : (st : Stack) (a : Ruling Ty) {st₁ : Stack} → All P st → ((x : Ty) → a ≡ gives x → P x) → onto st a ≡ gives st₁ → All P st₁
  onto-makes st a {st₁} h k e = following-gives a e λ t e₁ e₂. let w : t ∷ st ≡ st₁ = cc in rw (← w) (k t e₁, h)

  pub rule_on-makes : (r : Rule Ty (Ruling Ty)) (st st₁ : Stack) → Makes P r → All P st → rule_on r st ≡ gives st₁ → All P st₁
  rule_on-makes (of_none a) st st₁ m h e = room-gives (ltb (length st) max_stack) st a e λ e₁. onto-makes st a h m e₁
  rule_on-makes (of_one f) [] st₁ m h e = let z : ◌≡◌ {A = ℕ} 0 1 = cc in absurd (omega arith)
  rule_on-makes (of_one f) (t ∷ st) st₁ m h e = onto-makes st (f t) h.1 (λ x k. m t x h.0 k) e
  rule_on-makes (of_two f) [] st₁ m h e = let z : ◌≡◌ {A = ℕ} 0 1 = cc in absurd (omega arith)
  rule_on-makes (of_two f) (t ∷ []) st₁ m h e = let z : ◌≡◌ {A = ℕ} 0 1 = cc in absurd (omega arith)
  rule_on-makes (of_two f) (t ∷ u ∷ st) st₁ m h e = onto-makes st (f t u) h.1.1 (λ x k. m t u x h.0 h.1.0 k) e

-- ---- real shapes

onto-many : (rs : List RealShape) (o : Option RealShape) (rs₁ : List RealShape) → onto_real rs o ≡ some rs₁ → length rs₁ ≡ suc (length rs)
onto-many rs none rs₁ e = let z : ◌≡◌ {A = ℕ} 0 1 = cc in absurd (omega arith)
onto-many rs (some r) rs₁ e = let w : r ∷ rs ≡ rs₁ = cc in rw (← w)

pub real_rule_on_height : (r : Rule RealShape (Option RealShape)) (rs rs₁ : List RealShape) → real_rule_on r rs ≡ some rs₁ → length rs₁ ≡ length rs - arity r + 1
real_rule_on_height (of_none o) rs rs₁ e = omega (arith, onto-many rs o rs₁ e)
real_rule_on_height (of_one f) [] rs₁ e = let z : ◌≡◌ {A = ℕ} 0 1 = cc in absurd (omega arith)
real_rule_on_height (of_one f) (r ∷ rs) rs₁ e = omega (arith, onto-many rs (f r) rs₁ e)
real_rule_on_height (of_two f) [] rs₁ e = let z : ◌≡◌ {A = ℕ} 0 1 = cc in absurd (omega arith)
real_rule_on_height (of_two f) (r ∷ []) rs₁ e = let z : ◌≡◌ {A = ℕ} 0 1 = cc in absurd (omega arith)
real_rule_on_height (of_two f) (r ∷ q ∷ rs) rs₁ e = omega (arith, onto-many rs (f r q) rs₁ e)
