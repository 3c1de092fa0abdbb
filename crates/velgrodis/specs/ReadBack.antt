-- An answer says its outcome and no other: what a host reads from it, and from the buffers beside it, is the outcome that it was
-- made of. A law for each form that the exports answer.
use Rattle.std.specs.Prelude.{ℕ, ◌<◌, Bool, true, false, cond, List, ◌≡◌, refl, eqb, Float}
use Rattle.std.proofs.Common.{arith, ap, ne_eqb}
use Rattle.std.proofs.Math.Option.{Option, none, some}
use Rattle.model.specs.Limits.{max_sizes}
use Rattle.model.specs.Types.{Shape, shape, Ty, ty, shape_of}
use Rattle.model.specs.Within.{ShapeWithin}
use Rattle.format.specs.Reader.{Bytes}
use Rattle.format.specs.Records.{dim_of}
use Rattle.format.specs.Outcome.{Outcome, accepted, refused, mapped, both, lone, Delivery, delivery}
use Rattle.rules.specs.Sizes.{Order, less, same, more}
use Rattle.rules.specs.Shapes.{Compatibility, says_yes, says_no, compatible_with}
use Rattle.rules.proofs.CompatibleLaws.{GreatestFailing, is_so}
use Rattle.rules.specs.Types.{Stretch, stretch}
use Rattle.validation.specs.Separate.{Input, neither, spec, checked_type, Separate, separate}
use Rattle.shape_calls.specs.Calls.{compatible_shapes_call}
use Rattle.ty.specs.Calls.{Given, given}
use Rattle.val.specs.Values.{RowDelivery, handed as row_number, written as row_written}
use Rattle.machine.specs.Steps.{Opcode, a_put, a_row, a_pervading, a_join, a_validating, a_declaration, a_use}
use Rattle.machine.specs.Call.{tally, Called, called}
use Rattle.places.specs.Places.{ToldStep, told_step}
use Rattle.velgrodis.specs.Answers.{counted, tested, no_index, yes_or_no, shapes_tested, sized, sized_or_none, compared, found, opcode_number, located}
use Rattle.velgrodis.specs.Answers.{Handed, handed, written, listed, RowHanded, row_handed, rowed, input_number, ValidationHanded, validation_handed, validation_of, Returned, returned, checked}
use Rattle.format.specs.ReadWrite.{dim-number, lone_write}
use Rattle.velgrodis.specs.declared.Answer.{Answer}

-- ---- answers alone

-- by its kind a refusal, or what the two numbers say
abbrev pub outcome_by : {A : Type 0} → (Answer → A) → Answer → Outcome A
outcome_by f r = cond (eqb r.kind 0) (refused r.number r.place) (accepted (f r))

-- by its kind none
abbrev pub option_by : {A : Type 0} → (ℕ → ℕ → A) → Answer → Option A
option_by f r = cond (eqb r.kind 2) none (some (f r.first r.second))

abbrev pub order_by : ℕ → Order
order_by n = cond (eqb n 0) less (cond (eqb n 1) same more)

pub counted_back : (o : Outcome ℕ) → outcome_by (λ r. r.first) (counted o) ≡ o
counted_back (accepted n) = refl
counted_back (refused k p) = refl

pub tested-back : (o : Outcome Bool) → outcome_by (λ r. eqb r.first 1) (tested o) ≡ o
tested-back (accepted true) = refl
tested-back (accepted false) = refl
tested-back (refused k p) = refl

-- by its first number a yes, by its second the index, or that there is none
abbrev pub compatibility_by : Answer → Compatibility
compatibility_by r = cond (eqb r.first 1) says_yes (says_no (cond (eqb r.second no_index) none (some r.second)))

yes_or_no-back : (c : Compatibility) → ((i : ℕ) → c ≡ says_no (some i) → i < max_sizes) → outcome_by compatibility_by (yes_or_no c) ≡ accepted c
yes_or_no-back says_yes small = refl
yes_or_no-back (says_no (some i)) small = let h = small i refl in rw (ne_eqb i no_index λ e. absurd (omega arith))
yes_or_no-back (says_no none) small = refl

index-small : (s t : Shape) → ShapeWithin s → (i : ℕ) → compatible_with s t ≡ says_no (some i) → i < max_sizes
unfolding compatible_with
index-small (shape o c) (shape p d) h i e = let named : GreatestFailing o p i = rw e at (is_so o p) in omega (arith, h.0.0, named.inside)

-- of any two inputs: an index that is named is below eight, so that it is not taken for none
pub compatible_shapes-back : (a b : List ℕ) → Bytes a → outcome_by compatibility_by (shapes_tested (compatible_shapes_call a b)) ≡ compatible_shapes_call a b
compatible_shapes-back a b bytes = go (lone a) refl (lone b)
  where
    test : Outcome Ty → Outcome Ty → Outcome Compatibility
    test x y = both (λ t u. accepted (compatible_with (shape_of t) (shape_of u))) x y

    go : (x : Outcome Ty) → lone a ≡ x → (y : Outcome Ty) → outcome_by compatibility_by (shapes_tested (test x y)) ≡ test x y
    go (refused k p) e y = refl
    go (accepted t) e (refused k p) = refl
    go (accepted (ty s k)) e (accepted u) = yes_or_no-back (compatible_with s (shape_of u)) (index-small s (shape_of u) (lone_write a bytes (ty s k) e).1.records.0)

-- of a number that is a size, all ones for ?
pub sized-back : (o : Outcome ℕ) → outcome_by (λ r. dim_of r.first) (sized (mapped dim_of o)) ≡ mapped dim_of o
sized-back (accepted n) = rw (dim-number n)
sized-back (refused k p) = refl

pub compared-back : (o : Outcome Order) → outcome_by (λ r. order_by r.first) (compared o) ≡ o
compared-back (accepted less) = refl
compared-back (accepted same) = refl
compared-back (accepted more) = refl
compared-back (refused k p) = refl

pub found_back : (o : Outcome (Option Stretch)) → outcome_by (option_by stretch) (found o) ≡ o
found_back (accepted none) = refl
found_back (accepted (some (stretch s n))) = refl
found_back (refused k p) = refl

-- by the number of its mark which step it is
abbrev pub opcode_by : ℕ → Option Opcode
opcode_by m =
    cond (eqb m 0x5055) (some a_put)
    (cond (eqb m 0x5257) (some a_row)
    (cond (eqb m 0x5056) (some a_pervading)
    (cond (eqb m 0x4A4E) (some a_join)
    (cond (eqb m 0x5641) (some a_validating)
    (cond (eqb m 0x4E4D) (some a_declaration)
    (cond (eqb m 0x5553) (some a_use) none))))))

opcode-back : (c : Option Opcode) → opcode_by (opcode_number c) ≡ c
opcode-back none = refl
opcode-back (some a_put) = refl
opcode-back (some a_row) = refl
opcode-back (some a_pervading) = refl
opcode-back (some a_join) = refl
opcode-back (some a_validating) = refl
opcode-back (some a_declaration) = refl
opcode-back (some a_use) = refl

pub located-back : (o : Option ToldStep) → option_by (λ n m. told_step n (opcode_by m)) (located o) ≡ o
located-back none = refl
located-back (some (told_step n c)) = ap (λ d. some (told_step n d)) (opcode-back c)

-- as `mapped`, of what may be none
abbrev sizes : {A B : Type 0} → (A → B) → Option A → Option B
sizes f none = none
sizes f (some a) = some (f a)

pub sized_or_none-back : (o : Outcome (Option ℕ)) → outcome_by (option_by λ m n. dim_of m) (sized_or_none (mapped (sizes dim_of) o)) ≡ mapped (sizes dim_of) o
sized_or_none-back (accepted none) = refl
sized_or_none-back (accepted (some n)) = rw (dim-number n)
sized_or_none-back (refused k p) = refl

-- ---- answers beside a result buffer

abbrev pub delivery_by : Handed → Delivery
delivery_by (handed r buffer) = delivery (outcome_by (λ a. a.first) r) buffer

pub written_back : (d : Delivery) → delivery_by (written d) ≡ d
written_back (delivery (accepted n) buffer) = refl
written_back (delivery (refused k p) buffer) = refl

abbrev pub given_by : Handed → Given
given_by (handed r buffer) = given (outcome_by (option_by λ m n. m) r) buffer

pub listed_back : (g : Given) → given_by (listed g) ≡ g
listed_back (given (accepted none) buffer) = refl
listed_back (given (accepted (some n)) buffer) = refl
listed_back (given (refused k p) buffer) = refl

-- ---- a value's row, beside the number and the result that are lent for it

-- `second` tells a row that is a number
abbrev pub row_from : RowHanded → RowDelivery
row_from (row_handed r x buffer) = cond (eqb r.second 1) (row_number x buffer) (row_written (delivery_by (handed r buffer)))

pub rowed-back : (before : Float) (d : RowDelivery) → row_from (rowed before d) ≡ d
rowed-back before (row_number x buffer) = refl
rowed-back before (row_written (delivery (accepted n) buffer)) = refl
rowed-back before (row_written (delivery (refused k p) buffer)) = refl

-- ---- a validation, beside its result

abbrev pub input_by : ℕ → Input
input_by n = cond (eqb n 0) neither (cond (eqb n 1) spec checked_type)

abbrev pub separate_by : ValidationHanded → Separate
separate_by (validation_handed v buffer) = separate (delivery_by (handed v.answer buffer)) (input_by v.reading)

input_back : (i : Input) → input_by (input_number i) ≡ i
input_back neither = refl
input_back spec = refl
input_back checked_type = refl

pub validation-back : (s : Separate) → separate_by (validation_of s) ≡ s
validation-back (separate (delivery (accepted n) buffer) i) = ap (separate (delivery (accepted n) buffer)) (input_back i)
validation-back (separate (delivery (refused k p) buffer) i) = ap (separate (delivery (refused k p) buffer)) (input_back i)

-- ---- the sheet check, beside the result and the scratch

abbrev pub called_by : Returned → Called
called_by (returned r result scratch) = called (outcome_by (λ a. tally a.first a.second) r) result scratch

pub checked-back : (c : Called) → called_by (checked c) ≡ c
checked-back (called (accepted (tally t b)) result scratch) = refl
checked-back (called (refused k p) result scratch) = refl
