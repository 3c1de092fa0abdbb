-- The numbers by which a host says what it means and is answered, as numerals, in the order of include/velgrodis.h.
use Rattle.std.specs.Prelude.{ℕ, true, false, List, ◌≡◌, refl, Float}
use Rattle.std.proofs.Math.Option.{none, some}
use Rattle.model.specs.Types.{unknown}
use Rattle.format.specs.Outcome.{accepted, refused, mapped, lone}
use Rattle.rules.specs.Sizes.{less, same, more}
use Rattle.rules.specs.Shapes.{says_yes, says_no}
use Rattle.validation.specs.CheckShape.{unsided, left, right}
use Rattle.validation.specs.Separate.{neither, spec, checked_type}
use Rattle.machine.specs.Steps.{a_pervading}
use Rattle.places.specs.Places.{told_step}
use Rattle.shape_calls.specs.Calls.{pervade_call}
use Rattle.val.specs.Values.{number, numbers, typed}
use Rattle.velgrodis.specs.declared.Answer.{Answer}
use Rattle.velgrodis.specs.Answers.{counted, tested, shapes_tested, sized, compared, sized_or_none, located, while_reading}
use Rattle.velgrodis.specs.Codes.{pervade_flagged, side_for, handed_in}

-- ---- what an answer is: 0 refused, 1 a value, 2 none

abbrev answer : ℕ → ℕ → ℕ → ℕ → ℕ → Answer
answer k n p a b = record { kind = k; number = n; place = p; first = a; second = b }

pub a-refusal : counted (refused 7 34) ≡ answer 0 7 34 0 0
a-refusal = refl

pub a-value : counted (accepted 15) ≡ answer 1 0 0 15 0
a-value = refl

pub a-none : sized_or_none (accepted none) ≡ answer 2 0 0 0 0
a-none = refl

pub no-is_0 : tested (accepted false) ≡ answer 1 0 0 0 0
no-is_0 = refl

pub yes-is_1 : tested (accepted true) ≡ answer 1 0 0 1 0
yes-is_1 = refl

-- a no of the test of two shapes has its index behind it, 18446744073709551615 for none; a yes has 0
pub yes-alone : shapes_tested (accepted says_yes) ≡ answer 1 0 0 1 0
yes-alone = refl

pub no-at_2 : shapes_tested (accepted (says_no (some 2))) ≡ answer 1 0 0 0 2
no-at_2 = refl

pub no-at-none : shapes_tested (accepted (says_no none)) ≡ answer 1 0 0 0 18446744073709551615
no-at-none = refl

-- ? is all ones
pub unknown-is-ones : sized (accepted unknown) ≡ answer 1 0 0 18446744073709551615 0
unknown-is-ones = refl

pub less-is_0 : compared (accepted less) ≡ answer 1 0 0 0 0
less-is_0 = refl

pub same-is_1 : compared (accepted same) ≡ answer 1 0 0 1 0
same-is_1 = refl

pub more-is_2 : compared (accepted more) ≡ answer 1 0 0 2 0
more-is_2 = refl

-- a step's number and its mark, 50 56 for a pervading; 0 for no mark
pub third_pervades : located (some (told_step 3 (some a_pervading))) ≡ answer 1 0 0 3 0x5056
third_pervades = refl

pub second-unmarked : located (some (told_step 2 none)) ≡ answer 1 0 0 2 0
second-unmarked = refl

pub no_step : located none ≡ answer 2 0 0 0 0
no_step = refl

-- ---- the input that a validation was reading: 0 neither, 1 the spec, 2 the checked type

pub neither_0 : while_reading neither (answer 0 14 0 0 0) ≡ record { answer = answer 0 14 0 0 0; reading = 0 }
neither_0 = refl

pub spec_1 : while_reading spec (answer 0 1 4 0 0) ≡ record { answer = answer 0 1 4 0 0; reading = 1 }
spec_1 = refl

pub type_2 : while_reading checked_type (answer 0 6 15 0 0) ≡ record { answer = answer 0 6 15 0 0; reading = 2 }
type_2 = refl

-- ---- a side: 0 none, 1 left, 2 right; 3 is none of them, and refused 3 at place 0

pub side_0 : side_for 0 ≡ accepted unsided
side_0 = refl

pub side_1 : side_for 1 ≡ accepted left
side_1 = refl

pub side_2 : side_for 2 ≡ accepted right
side_2 = refl

pub side_3 : side_for 3 ≡ refused 3 0
side_3 = refl

-- ---- a flag: 1 fills the first, 2 the second, 3 both; 4 is none

module _ (a b : List ℕ) where
  pub flag_0 : pervade_flagged 0 a b ≡ pervade_call false false a b
  flag_0 = refl

  pub flag_1 : pervade_flagged 1 a b ≡ pervade_call true false a b
  flag_1 = refl

  pub flag_2 : pervade_flagged 2 a b ≡ pervade_call false true a b
  flag_2 = refl

  pub flag_3 : pervade_flagged 3 a b ≡ pervade_call true true a b
  flag_3 = refl

  pub flag_4 : pervade_flagged 4 a b ≡ refused 3 0
  flag_4 = refl

-- ---- a value handed in: 0 the number, 1 the list, 2 the type; 3 is none of them

module _ (x : Float) (list : List Float) (bytes : List ℕ) where
  pub value_0 : handed_in 0 x list bytes ≡ accepted (number x)
  value_0 = refl

  pub value_1 : handed_in 1 x list bytes ≡ accepted (numbers list)
  value_1 = refl

  pub value_2 : handed_in 2 x list bytes ≡ mapped typed (lone bytes)
  value_2 = refl

  pub value_3 : handed_in 3 x list bytes ≡ refused 3 0
  value_3 = refl
