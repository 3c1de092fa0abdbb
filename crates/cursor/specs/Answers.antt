-- What is read of a sheet, in the terms of the definitions: for each case of each answer, what the reading of that record gives
-- (document 01, "The sheet, added": the mark, then a type, a flag byte or nothing; document 02, 2026-06: a name, and a type).
use Rattle.std.specs.Prelude.{ℕ, List, ◌≡◌, Result, Ok, Err, Some, None}
use Rattle.std.specs.Prelude as code
use Rattle.std.proofs.Math.Option.{Option, none, some}
use Rattle.model.specs.Types.{Ty}
use Rattle.format.specs.Reader.{Read, got, stopped}
use Rattle.machine.specs.Steps as steps
use Rattle.machine.specs.Steps.{put, row, pervading, join, validating, a_put, a_row, a_pervading, a_join, a_validating, a_declaration, a_use}
use Rattle.machine.specs.Written.{TableName, WrittenStep, working, declaring, using_name}
use Rattle.limits.specs.Answers.{number_of}
use Rattle.limits.specs.declared.refusal.Refusal.{Refusal}
use Rattle.names.specs.Table.{NameStands, past_name, Spans, Declares}
use Rattle.cursor.specs.declared.marks.Operation.{Operation}
use Rattle.cursor.specs.declared.marks.Operation.TheVariants.{Put, Row, Pervading, Join, Validating, Declaration, Use}
use Rattle.cursor.specs.declared.flags.Fills.{Fills}
use Rattle.cursor.specs.declared.Step.{Step}
use Rattle.cursor.specs.declared.Step.TheVariants.{Put as APut, Row as ARow, Pervading as APervading, Join as AJoin, Validating as AValidating, Declaring as ADeclaring, Using as AUsing}

-- ---- a mark and a flag

abbrev pub opcode_for : Operation → steps.Opcode
opcode_for Put = a_put
opcode_for Row = a_row
opcode_for Pervading = a_pervading
opcode_for Join = a_join
opcode_for Validating = a_validating
opcode_for Declaration = a_declaration
opcode_for Use = a_use

abbrev pub opcode_of : code.Option Operation → Option steps.Opcode
opcode_of None = none
opcode_of (Some o) = some (opcode_for o)

abbrev pub marked_of : Result (Operation × ℕ) Refusal → Read steps.Opcode
marked_of (Ok m) = got (opcode_for m.0) m.1
marked_of (Err r) = stopped (number_of r.0) r.1

abbrev pub fills_of : Result Fills Refusal → Read WrittenStep
fills_of (Ok f) = got (working (pervading f.top f.below)) f.next
fills_of (Err r) = stopped (number_of r.0) r.1

-- ---- a type

-- What was read from a place on is the type whose bytes stand there.
abbrev pub TypeIs : Result ℕ Refusal → List ℕ → ℕ → Read Ty → Type 0
TypeIs (Ok next) s at o = (t : Ty) × (o ≡ got t next) × Spans s at next t
TypeIs (Err r) s at o = o ≡ stopped (number_of r.0) r.1

-- ---- a step

-- The step that was read; if it has a type, that is the one whose bytes stand from start to next, and its name is the one that stands there.
abbrev pub StepIs : Result Step Refusal → List ℕ → Read WrittenStep → Type 0
StepIs (Ok (APut start next)) s o = (t : Ty) × (o ≡ got (working (put t)) next) × Spans s start next t
StepIs (Ok (ARow next)) s o = o ≡ got (working row) next
StepIs (Ok (APervading f g next)) s o = o ≡ got (working (pervading f g)) next
StepIs (Ok (AJoin next)) s o = o ≡ got (working join) next
StepIs (Ok (AValidating start next)) s o = (t : Ty) × (o ≡ got (working (validating t)) next) × Spans s start next t
StepIs (Ok (ADeclaring name next)) s o = (n : TableName) × (t : Ty) × (o ≡ got (declaring n t) next) × Declares s name next n t
StepIs (Ok (AUsing name next)) s o = (n : TableName) × (o ≡ got (using_name n) next) × NameStands s name n × (next ≡ past_name name n)
StepIs (Err r) s o = o ≡ stopped (number_of r.0) r.1
