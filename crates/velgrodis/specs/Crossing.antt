-- What crosses to a host of each value that a call answers.
use Rattle.std.specs.Prelude.{ℕ, Some, None}
use Rattle.std.specs.Prelude as code
use Rattle.std.specs.declared.cmp.Ordering.{Ordering}
use Rattle.limits.specs.Answers.{number_of}
use Rattle.limits.specs.declared.refusal.Refusal.{Refusal}
use Rattle.shape.specs.Answers.{order_of, compatibility_of}
use Rattle.shape.specs.declared.Compatibility.{Compatibility}
use Rattle.ty.specs.declared.parts.Part.{Part}
use Rattle.cursor.specs.Answers.{opcode_of}
use Rattle.cursor.specs.declared.marks.Operation.{Operation}
use Rattle.locate.specs.declared.Located.{Located}
use Rattle.places.specs.Places.{told_step}
use Rattle.run.specs.declared.Left.{Left}
use Rattle.velgrodis.specs.Answers.{no, value, none_answer, ordered, yes_or_no, step_told, opcode_number}
use Rattle.velgrodis.specs.declared.Answer.{Answer}

abbrev pub refused_as : Refusal → Answer
refused_as r = no (number_of r.0) r.1

abbrev pub order_crossed : Ordering → Answer
order_crossed o = ordered (order_of o)

abbrev pub compatibility_crossed : Compatibility → Answer
compatibility_crossed c = yes_or_no (compatibility_of c)

abbrev pub part_crossed : Part → Answer
part_crossed p = value p.start p.length

abbrev pub left_crossed : Left → Answer
left_crossed l = value l.types l.bytes

abbrev pub operation_number : code.Option Operation → ℕ
operation_number o = opcode_number (opcode_of o)

abbrev pub located_crossed : Located → Answer
located_crossed l = step_told (told_step l.number (opcode_of l.operation))

abbrev pub option_crossed : {A : Type 0} → (A → Answer) → code.Option A → Answer
option_crossed f (Some a) = f a
option_crossed f None = none_answer
