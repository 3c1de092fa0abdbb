-- The steps that are worked (document 01, "The sheet, added"), five kinds of them, and what is said of a step by its mark alone. What is
-- written has two kinds more (document 02, 2026-06); it stands in Written, and Names says which steps it comes to.
use Rattle.std.specs.Prelude.{ℕ, ◌+◌, ◌-◌, ◌/◌, ◌%◌, Bool, true, ◌&&◌, cond, List, [], ◌∷◌, eqb}
use Rattle.std.proofs.Math.Option.{Option, none, some}
use Rattle.model.specs.Types.{Ty}
use Rattle.model.specs.Within.{Within}
use Rattle.format.specs.Records.{Mark, mark, write_ty}

pub data Step : Type 0 where
  put : Ty → Step
  row : Step
  -- fills the top, fills the one below
  pervading : Bool → Bool → Step
  join : Step
  validating : Ty → Step

-- ---- marks

-- Which step it is, without what follows its mark: one that is worked, or one of the two about names.
pub data Opcode : Type 0 where
  a_put a_row a_pervading a_join a_validating a_declaration a_use : Opcode

abbrev pub opcode_of : Step → Opcode
opcode_of (put t) = a_put
opcode_of row = a_row
opcode_of (pervading f g) = a_pervading
opcode_of join = a_join
opcode_of (validating spec) = a_validating

abbrev pub mark_of : Opcode → Mark
mark_of a_put = mark 0x50 0x55
mark_of a_row = mark 0x52 0x57
mark_of a_pervading = mark 0x50 0x56
mark_of a_join = mark 0x4A 0x4E
mark_of a_validating = mark 0x56 0x41
mark_of a_declaration = mark 0x4E 0x4D
mark_of a_use = mark 0x55 0x53

-- The marks of these seven are all the marks of steps.
abbrev pub opcodes : List Opcode
opcodes = a_put ∷ a_row ∷ a_pervading ∷ a_join ∷ a_validating ∷ a_declaration ∷ a_use ∷ []

-- ---- which step it is

abbrev pub same_mark : Mark → Mark → Bool
same_mark (mark a b) (mark x y) = eqb x a && eqb y b

-- A step is of this opcode, which its mark tells.
abbrev pub is_a : Opcode → Step → Bool
is_a c x = same_mark (mark_of c) (mark_of (opcode_of x))

-- The type that a step puts: only a put has one.
abbrev pub put_by : Step → Option Ty
put_by (put t) = some t
put_by row = none
put_by (pervading f g) = none
put_by join = none
put_by (validating spec) = none

-- ---- heights

-- How many types a step takes off the stack, and how many it lays down. A use lays one down, as a put; "a declaration [...] leaves the
-- stack as it is" (document 02, 2026-06).
abbrev pub takes : Opcode → ℕ
takes a_put = 0
takes a_row = 1
takes a_pervading = 2
takes a_join = 2
takes a_validating = 1
takes a_declaration = 0
takes a_use = 0

abbrev pub lays : Opcode → ℕ
lays a_put = 1
lays a_row = 1
lays a_pervading = 1
lays a_join = 1
lays a_validating = 1
lays a_declaration = 0
lays a_use = 1

-- The height that a step leaves of height h.
abbrev pub height_past : Opcode → ℕ → ℕ
height_past c h = h - takes c + lays c

-- ---- rules

-- What a step makes of what it takes off a stack, the top first: of none, of one or of two.
pub data Rule (A R : Type 0) : Type 0 where
  of_none : R → Rule A R
  of_one : (A → R) → Rule A R
  of_two : (A → A → R) → Rule A R

-- ---- writing

-- The flag byte: bit 0 fills the top, bit 1 the one below.
abbrev pub flag_byte : Bool → Bool → ℕ
flag_byte f g = cond f 1 0 + cond g 2 0

abbrev pub max_flag : ℕ
max_flag = flag_byte true true

abbrev pub fills_top : ℕ → Bool
fills_top n = eqb (n % 2) 1

abbrev pub fills_below : ℕ → Bool
fills_below n = eqb (n / 2 % 2) 1

-- what follows the mark
pub data Argument : Type 0 where
  no_argument : Argument
  a_type : Ty → Argument
  flags : Bool → Bool → Argument

abbrev pub argument_of : Step → Argument
argument_of (put t) = a_type t
argument_of row = no_argument
argument_of (pervading f g) = flags f g
argument_of join = no_argument
argument_of (validating spec) = a_type spec

abbrev pub write_argument : Argument → List ℕ
write_argument no_argument = []
write_argument (a_type t) = write_ty t
write_argument (flags f g) = flag_byte f g ∷ []

-- ---- limits

-- A type that follows the mark keeps every limit.
abbrev pub ArgumentWithin : Argument → Type 0
ArgumentWithin no_argument = Unit {0}
ArgumentWithin (a_type t) = Within t
ArgumentWithin (flags f g) = Unit {0}

abbrev pub StepWithin : Step → Type 0
StepWithin x = ArgumentWithin (argument_of x)
