-- The steps as a house writes them, and their bytes (document 01, "The sheet, added"; document 02, 2026-06): two mark bytes, then a type, a
-- flag byte, a name, a name and a type, or nothing. "A record 4E 4D declares: a name length 1 to 16, the name's bytes 32 to 126, a type. A
-- record 55 53 with length and name puts that type."
use Rattle.std.specs.Prelude.{ℕ, ◌≤◌, Bool, ◌&&◌, List, [], ◌∷◌, ◌++◌, map, length, leb}
use Rattle.model.specs.Limits.{max_name}
use Rattle.model.specs.Types.{Ty}
use Rattle.model.specs.Within.{NameWithin, Within}
use Rattle.format.specs.Records.{mark_bytes, is_count, write_ty}
use Rattle.machine.specs.Steps.{Step, Opcode, a_declaration, a_use, opcode_of, mark_of, argument_of, write_argument, StepWithin}

-- The term name, of a table: its bytes and nothing else. The name of a Def is another matter.
abbrev pub TableName : Type 0
TableName = List ℕ

pub data WrittenStep : Type 0 where
  -- one of the five, which is worked as it is written
  working : Step → WrittenStep
  declaring : TableName → Ty → WrittenStep
  using_name : TableName → WrittenStep

abbrev pub written_as : WrittenStep → Opcode
written_as (working x) = opcode_of x
written_as (declaring n t) = a_declaration
written_as (using_name n) = a_use

-- ---- writing

abbrev pub write_name : TableName → List ℕ
write_name n = length n ∷ n

-- what follows the mark
abbrev pub write_rest : WrittenStep → List ℕ
write_rest (working x) = write_argument (argument_of x)
write_rest (declaring n t) = write_name n ++ write_ty t
write_rest (using_name n) = write_name n

abbrev pub write_step : WrittenStep → List ℕ
write_step w = mark_bytes (mark_of (written_as w)) ++ write_rest w

unfoldable pub write_steps : List WrittenStep → List ℕ
write_steps [] = []
write_steps (w ∷ ws) = write_step w ++ write_steps ws

-- Steps written as they are worked: no name is declared or used.
abbrev pub written_out : List Step → List WrittenStep
written_out xs = map working xs

-- ---- limits

-- A length of 1 to 16.
abbrev pub is_name_length : ℕ → Bool
is_name_length n = leb 1 n && is_count max_name n

abbrev pub TableNameWithin : TableName → Type 0
TableNameWithin n = (1 ≤ length n) × NameWithin n

-- Names and types that follow the mark keep every limit.
abbrev pub WrittenWithin : WrittenStep → Type 0
WrittenWithin (working x) = StepWithin x
WrittenWithin (declaring n t) = TableNameWithin n × Within t
WrittenWithin (using_name n) = TableNameWithin n
