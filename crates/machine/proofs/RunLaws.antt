-- What put, pervade and join make of the stack, the top first (document 01, "The sheet, added"); and what an answer that gives something
-- says of its parts, by continuation.
use Rattle.std.specs.Prelude.{ℕ, ◌<◌, Bool, true, false, cond, List, [], ◌∷◌, ◌++◌, ◌≡◌, refl, length}
use Rattle.std.proofs.Common.{arith, ap, lt-ltb}
use Rattle.std.proofs.Math.Option.{Option, none, some}
use Rattle.model.specs.Refusals.{unpervaded, overflow}
use Rattle.model.specs.Types.{Shape, Scalar, Ty, ty}
use Rattle.format.specs.Outcome.{Outcome, accepted, refused}
use Rattle.rules.specs.PervadeInSheets.{pervade_in_sheets}
use Rattle.rules.specs.Scalars.{union}
use Rattle.rules.specs.Types.{join_types}
use Rattle.machine.specs.SheetLimits.{max_stack}
use Rattle.machine.specs.Steps.{Step, put, pervading, join, flag_byte}
use Rattle.machine.specs.Run.{Ruling, gives, refuses, following, or_refuses, aside, Stack, onto, pervade_types, step, steps}

-- ---- flags

-- a flag byte 0 fills neither side
pub unfilled : (f g : Bool) → flag_byte f g ≡ 0 → (f ≡ false) × (g ≡ false)
unfilled false false h = (refl, refl)
unfilled true g h = absurd (omega arith)
unfilled false true h = absurd (omega arith)

-- ---- the top is the first

-- A put has room below `max_stack` types.
pub step-put : (t : Ty) (st : Stack) → length st < max_stack → step (put t) st ≡ gives (t ∷ st)
unfolding step
step-put t st h = ap (λ b. cond b (gives (t ∷ st)) (refuses overflow)) (lt-ltb (length st) max_stack h)

-- Of two types it is the pervading of their shapes, or refusal 8, with the union of their scalars.
pub pervade_types-is : (f g : Bool) (s t : Shape) (k l : Scalar) → pervade_types f g (ty s k) (ty t l) ≡ following (or_refuses (pervade_in_sheets f g s t) unpervaded) (λ x. gives (ty x (union k l)))
unfolding pervade_types
pervade_types-is f g s t k l = refl

-- The first fill is the top's, the second that of the one below.
pub step-pervading : (fills_top fills_below : Bool) (top below : Ty) (st : Stack) → step (pervading fills_top fills_below) (top ∷ below ∷ st) ≡ onto st (pervade_types fills_top fills_below top below)
unfolding step
step-pervading f g t u st = refl

pub step-join : (top below : Ty) (st : Stack) → step join (top ∷ below ∷ st) ≡ gives (join_types top below ∷ st)
unfolding step
step-join t u st = refl

-- ---- lists of steps

-- Steps and then others are worked as the others from what the first leave.
pub steps_append : (xs ys : List Step) (st : Stack) → steps (xs ++ ys) st ≡ following (steps xs st) (λ st₁. steps ys st₁)
unfolding steps
steps_append [] ys st = refl
steps_append (x ∷ xs) ys st = go (step x st) (λ st₁. steps_append xs ys st₁)
  where
    go : (a : Ruling Stack) → ((st₁ : Stack) → steps (xs ++ ys) st₁ ≡ following (steps xs st₁) (λ st₂. steps ys st₂))
        → following a (λ st₁. steps (xs ++ ys) st₁) ≡ following (following a (λ st₁. steps xs st₁)) (λ st₂. steps ys st₂)
    go (gives st₁) h = h st₁
    go (refuses k) h = refl

-- ---- answers

pub following-gives : {A B C : Type 0} (a : Ruling A) {f : A → Ruling B} {b : B} → following a f ≡ gives b → ((x : A) → a ≡ gives x → f x ≡ gives b → C) → C
following-gives (gives x) e k = k x refl e
following-gives (refuses n) e k = let z : ◌≡◌ {A = ℕ} 0 1 = cc in absurd (omega arith)

pub or_refuses-gives : {A C : Type 0} (o : Option A) (n : ℕ) {a : A} → or_refuses o n ≡ gives a → (o ≡ some a → C) → C
or_refuses-gives none n e k = let z : ◌≡◌ {A = ℕ} 0 1 = cc in absurd (omega arith)
or_refuses-gives (some x) n e k = k (cc)

pub aside-gives : {A C : Type 0} (o : Outcome A) {a : A} → aside o ≡ gives a → (o ≡ accepted a → C) → C
aside-gives (accepted x) e k = k (cc)
aside-gives (refused n p) e k = let z : ◌≡◌ {A = ℕ} 0 1 = cc in absurd (omega arith)

pub cond-gives : {A C : Type 0} (t : Bool) (n : ℕ) {a b : A} → cond t (gives a) (refuses n) ≡ gives b → (a ≡ b → C) → C
cond-gives true n e k = k (cc)
cond-gives false n e k = let z : ◌≡◌ {A = ℕ} 0 1 = cc in absurd (omega arith)
