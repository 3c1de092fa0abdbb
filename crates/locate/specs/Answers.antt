-- What the answers of this crate say, in the terms of the definitions.
use Rattle.std.specs.Prelude.{ℕ, Some, None}
use Rattle.std.specs.Prelude as code
use Rattle.std.proofs.Math.Option.{Option, none, some}
use Rattle.format.specs.Reader.{Read, got, stopped}
use Rattle.places.specs.Places.{ToldStep, told_step}
use Rattle.cursor.specs.Answers.{opcode_of}
use Rattle.locate.specs.declared.Located.{Located}

abbrev pub located_of : code.Option Located → Option ToldStep
located_of None = none
located_of (Some l) = some (told_step l.number (opcode_of l.operation))

-- up to where a reading went, if it went to its end
abbrev pub end_of : {A : Type 0} → Read A → code.Option ℕ
end_of (got a n) = Some n
end_of (stopped k p) = None
