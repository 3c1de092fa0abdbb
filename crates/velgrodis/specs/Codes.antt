-- Numbers by which a host says what it means: a flag, a side, what value it hands in. They are judged before anything is read: one that
-- stands for nothing is refusal 3, at place 0.
use Rattle.std.specs.Prelude.{ℕ, cond, List, [], ◌∷◌, leb, Float, get_or}
use Rattle.model.specs.Refusals.{out_of_range}
use Rattle.model.specs.Types.{Ty}
use Rattle.format.specs.Outcome.{Outcome, accepted, refused, mapped, lone, delivery}
use Rattle.machine.specs.Steps.{max_flag, fills_top, fills_below}
use Rattle.validation.specs.CheckShape.{Side, unsided, left, right}
use Rattle.validation.specs.Separate.{neither, Separate, separate, separately}
use Rattle.shape_calls.specs.Calls.{pervade_call}
use Rattle.val.specs.Values.{Value, number, numbers, typed}

abbrev pub unsaid : {A : Type 0} → Outcome A
unsaid = refused out_of_range 0

-- A flag byte as in a sheet: bit 0 fills the first, bit 1 the second.
abbrev pub pervade_flagged : ℕ → List ℕ → List ℕ → Outcome (List ℕ)
pervade_flagged flag a b = cond (leb flag max_flag) (pervade_call (fills_top flag) (fills_below flag) a b) unsaid

-- 0 none, 1 left, 2 right
abbrev pub side_for : ℕ → Outcome Side
side_for n = get_or (accepted unsided ∷ accepted left ∷ accepted right ∷ []) n unsaid

-- What is answered for a side; one that stands for nothing is refused while neither input is read.
abbrev pub for_side : (Side → Separate) → List ℕ → Outcome Side → Separate
for_side f buffer (accepted side) = f side
for_side f buffer (refused k p) = separate (delivery (refused k p) buffer) neither

-- a rule for a side, of a spec's bytes, a type's and a result buffer
abbrev pub sided : (Side → Ty → Ty → Outcome Ty) → ℕ → List ℕ → List ℕ → List ℕ → Separate
sided f n s t buffer = for_side (λ side. separately (f side) s t buffer) buffer (side_for n)

-- 0 the number, 1 the list, 2 the type whose bytes they are; what is lent for another is not looked at
abbrev pub handed_in : ℕ → Float → List Float → List ℕ → Outcome Value
handed_in n x list bytes = get_or (accepted (number x) ∷ accepted (numbers list) ∷ mapped typed (lone bytes) ∷ []) n unsaid
