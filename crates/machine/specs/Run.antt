-- The run of a sheet's steps on a stack of types, top first (document 01, "The sheet, added"): what each step's rule makes of the
-- stack, or the number of its refusal. The top is the Rust's first.
use Rattle.std.specs.Prelude.{ℕ, Bool, cond, List, [], ◌∷◌, reverse, length, ltb}
use Rattle.std.proofs.Math.Option.{Option, none, some}
use Rattle.model.specs.Refusals.{unpervaded, underflow, overflow}
use Rattle.model.specs.Types.{Ty, ty}
use Rattle.format.specs.Outcome.{Outcome, accepted, refused}
use Rattle.rules.specs.PervadeInSheets.{pervade_in_sheets}
use Rattle.rules.specs.Scalars.{union}
use Rattle.rules.specs.Types.{join_types, into_row}
use Rattle.validation.specs.CheckShape.{unsided}
use Rattle.validation.specs.Validate.{validate}
use Rattle.machine.specs.SheetLimits.{max_stack}
use Rattle.machine.specs.Steps.{Step, put, row, pervading, join, validating, Rule, of_none, of_one, of_two}

-- What a rule answers, the place aside: a value, or the number of a refusal.
pub data Ruling (A : Type 0) : Type 0 where
  gives : A → Ruling A
  refuses : ℕ → Ruling A

abbrev pub following : {A B : Type 0} → Ruling A → (A → Ruling B) → Ruling B
following (gives a) f = f a
following (refuses k) f = refuses k

abbrev pub or_refuses : {A : Type 0} → Option A → ℕ → Ruling A
or_refuses none k = refuses k
or_refuses (some a) k = gives a

-- an outcome, its place aside
abbrev pub aside : {A : Type 0} → Outcome A → Ruling A
aside (accepted a) = gives a
aside (refused k p) = refuses k

abbrev pub Stack : Type 0
Stack = List Ty

-- ---- the rules

abbrev pub onto : Stack → Ruling Ty → Ruling Stack
onto st a = following a λ t. gives (t ∷ st)

-- A pervading's shape is that of sheets (document 02, 2026-01), its scalar the union, top first.
unfoldable pub pervade_types : Bool → Bool → Ty → Ty → Ruling Ty
pervade_types f g (ty s k) (ty t l) = following (or_refuses (pervade_in_sheets f g s t) unpervaded) λ x. gives (ty x (union k l))

-- What each step makes of the types that it takes.
abbrev pub rule_of : Step → Rule Ty (Ruling Ty)
rule_of (put t) = of_none (gives t)
rule_of row = of_one λ t. gives (into_row t)
rule_of (pervading f g) = of_two λ t u. pervade_types f g t u
rule_of join = of_two λ t u. gives (join_types t u)
rule_of (validating spec) = of_one λ t. aside (validate unsided spec t)

-- What it makes is laid on top. What the stack lacks or has no room for is refused here as in the reading of a sheet, where it comes
-- before the step's bytes (`lacks`, `overfull` in StepsReads).
abbrev pub rule_on : Rule Ty (Ruling Ty) → Stack → Ruling Stack
rule_on (of_none a) st = cond (ltb (length st) max_stack) (onto st a) (refuses overflow)
rule_on (of_one f) [] = refuses underflow
rule_on (of_one f) (t ∷ st) = onto st (f t)
rule_on (of_two f) [] = refuses underflow
rule_on (of_two f) (t ∷ []) = refuses underflow
rule_on (of_two f) (t ∷ u ∷ st) = onto st (f t u)

unfoldable pub step : Step → Stack → Ruling Stack
step x st = rule_on (rule_of x) st

-- ---- a list of steps

-- Each step takes what the one before left; the first refusal is the answer. How many were taken is no matter of the rules.
unfoldable pub steps : List Step → Stack → Ruling Stack
steps [] st = gives st
steps (x ∷ xs) st = following (step x st) λ st₁. steps xs st₁

-- The types left, bottom first.
abbrev pub bottom_first : Ruling Stack → Ruling (List Ty)
bottom_first (gives st) = gives (reverse st)
bottom_first (refuses k) = refuses k
