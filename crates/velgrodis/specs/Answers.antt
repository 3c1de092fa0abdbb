-- What crosses to a host: for each outcome of a call the one answer that says it, field by field, with what the lent buffers hold.
use Rattle.std.specs.Prelude.{ℕ, ◌+◌, ◌*◌, Bool, cond, List, map, Float}
use Rattle.std.proofs.Math.Option.{Option, none, some}
use Rattle.model.specs.Limits.{ones}
use Rattle.model.specs.Types.{Dim}
use Rattle.format.specs.Records.{Mark, mark, dim_number}
use Rattle.format.specs.Outcome.{Outcome, accepted, refused, Delivery, delivery, deliver}
use Rattle.rules.specs.Sizes.{Order, less, same, more}
use Rattle.rules.specs.Shapes.{Compatibility, says_yes, says_no}
use Rattle.rules.specs.Types.{Stretch, stretch}
use Rattle.validation.specs.Separate.{Input, neither, spec, checked_type, Separate, separate}
use Rattle.ty.specs.Calls.{Given, given, offered}
use Rattle.val.specs.Values.{RowDelivery, handed as row_number, written as row_written}
use Rattle.machine.specs.Steps.{Opcode, mark_of}
use Rattle.places.specs.Places.{ToldStep, told_step}
use Rattle.machine.specs.Call.{Tally, tally, Called, called}
use Rattle.velgrodis.specs.declared.Answer.{Answer}
use Rattle.velgrodis.specs.declared.Validation.{Validation}

-- ---- the version

-- the library's number, which is no answer; `limits` has it for all code, and says when it grows
abbrev pub version : ℕ
version = 9

-- ---- the three kinds of an answer

-- 0: refused, with the refusal's number and place
abbrev pub no : ℕ → ℕ → Answer
no k p = record { kind = 0; number = k; place = p; first = 0; second = 0 }

-- 1: a value of one number or two
abbrev pub value : ℕ → ℕ → Answer
value a b = record { kind = 1; number = 0; place = 0; first = a; second = b }

-- 2: none
abbrev pub none_answer : Answer
none_answer = record { kind = 2; number = 0; place = 0; first = 0; second = 0 }

abbrev pub answered : {A : Type 0} → (A → Answer) → Outcome A → Answer
answered f (accepted a) = f a
answered f (refused k p) = no k p

abbrev pub or_nothing : {A : Type 0} → (A → Answer) → Option A → Answer
or_nothing f none = none_answer
or_nothing f (some a) = f a

-- ---- answers alone

abbrev pub numbered : ℕ → Answer
numbered n = value n 0

-- a number
abbrev pub counted : Outcome ℕ → Answer
counted o = answered numbered o

-- 1 where it holds, 0 where not
abbrev pub told : Bool → Answer
told t = value (cond t 1 0) 0

abbrev pub tested : Outcome Bool → Answer
tested o = answered told o

-- no index: the number of all ones, which stands for an unknown size elsewhere
abbrev pub no_index : ℕ
no_index = ones

-- 1 for a yes; 0 for a no, and the index that it names
abbrev pub yes_or_no : Compatibility → Answer
yes_or_no says_yes = value 1 0
yes_or_no (says_no (some i)) = value 0 i
yes_or_no (says_no none) = value 0 no_index

abbrev pub shapes_tested : Outcome Compatibility → Answer
shapes_tested o = answered yes_or_no o

-- a size, all ones for ?
abbrev pub dimmed : Dim → Answer
dimmed d = value (dim_number d) 0

abbrev pub sized : Outcome Dim → Answer
sized o = answered dimmed o

abbrev pub sized_or_none : Outcome (Option Dim) → Answer
sized_or_none o = answered (or_nothing dimmed) o

-- 0 less, 1 the same, 2 more
abbrev pub ordered : Order → Answer
ordered less = value 0 0
ordered same = value 1 0
ordered more = value 2 0

abbrev pub compared : Outcome Order → Answer
compared o = answered ordered o

-- a stretch of the bytes handed in: where it starts and how long it is
abbrev pub stretched : Stretch → Answer
stretched (stretch start length) = value start length

abbrev pub found : Outcome (Option Stretch) → Answer
found o = answered (or_nothing stretched) o

-- a mark's two bytes as one number: the first times 256, and the second; 0, which is no mark's, for none
abbrev pub mark_number : Mark → ℕ
mark_number (mark a b) = a * 256 + b

abbrev pub opcode_number : Option Opcode → ℕ
opcode_number none = 0
opcode_number (some c) = mark_number (mark_of c)

-- a step's number, counted from 1, and its mark
abbrev pub step_told : ToldStep → Answer
step_told (told_step n c) = value n (opcode_number c)

abbrev pub located : Option ToldStep → Answer
located o = or_nothing step_told o

-- ---- answers beside a result buffer

pub data Handed : Type 0 where
  handed : Answer → List ℕ → Handed

-- how many bytes were written
abbrev pub written : Delivery → Handed
written (delivery o buffer) = handed (counted o) buffer

abbrev pub listed : Given → Handed
listed (given o buffer) = handed (answered (or_nothing numbered) o) buffer

-- Sizes go to the front of numbers that are lent for them, as bytes to the front of a result; none needs no room.
unfoldable pub deliver_sizes : Outcome (Option (List Dim)) → List ℕ → Given
deliver_sizes (refused k p) buffer = given (refused k p) buffer
deliver_sizes (accepted none) buffer = given (accepted none) buffer
deliver_sizes (accepted (some ds)) buffer = offered (deliver (accepted (map dim_number ds)) buffer)

-- ---- the answer of a value's row, beside the number and the result buffer that are lent for it

pub data RowHanded : Type 0 where
  row_handed : Answer → Float → List ℕ → RowHanded

-- a row that is a number takes the place of the number lent, and `second` is 1; of a type so many bytes were written
abbrev pub rowed : Float → RowDelivery → RowHanded
rowed before (row_number x buffer) = row_handed (value 0 1) x buffer
rowed before (row_written (delivery o buffer)) = row_handed (counted o) before buffer

-- ---- the answer of a validation, which has one number more, beside a result buffer

-- 0 neither, 1 the spec, 2 the checked type
abbrev pub input_number : Input → ℕ
input_number neither = 0
input_number spec = 1
input_number checked_type = 2

abbrev pub while_reading : Input → Answer → Validation
while_reading i r = record { answer = r; reading = input_number i }

pub data ValidationHanded : Type 0 where
  validation_handed : Validation → List ℕ → ValidationHanded

abbrev pub validation_of : Separate → ValidationHanded
validation_of (separate (delivery o buffer) i) = validation_handed (while_reading i (counted o)) buffer

-- ---- the answer of the sheet check, beside the result and the scratch

pub data Returned : Type 0 where
  returned : Answer → List ℕ → List ℕ → Returned

-- how many types are left, and their bytes in all
abbrev pub tallied : Tally → Answer
tallied (tally types bytes) = value types bytes

abbrev pub checked : Called → Returned
checked (called o result scratch) = returned (answered tallied o) result scratch
