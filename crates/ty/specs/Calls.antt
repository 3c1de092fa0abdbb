-- What the calls of this crate answer, in the terms of the definitions: for each case of an answer, the paper's number and values.
use Rattle.std.specs.Prelude.{ℕ, List, Result, Some, None}
use Rattle.std.specs.Prelude as code
use Rattle.std.proofs.Math.Option.{Option, none, some}
use Rattle.format.specs.Outcome.{Outcome, accepted, refused, mapped, Delivery, delivery, deliver}
use Rattle.rules.specs.Types as rules
use Rattle.rules.specs.Types.{write_boxes}
use Rattle.limits.specs.Answers.{told}
use Rattle.limits.specs.declared.refusal.Refusal.{Refusal}

-- `as_boxes`: how many bytes were written, or none.
abbrev pub count_of : code.Option ℕ → Option ℕ
count_of None = none
count_of (Some n) = some n

abbrev pub boxes_of : Result (code.Option ℕ) Refusal → Outcome (Option ℕ)
boxes_of r = mapped count_of (told r)

-- such an answer beside what the result buffer then holds
pub data Given : Type 0 where
  given : Outcome (Option ℕ) → List ℕ → Given

abbrev pub offered : Delivery → Given
offered (delivery o buffer) = given (mapped some o) buffer

-- None needs no buffer; else name, count and types in Def's layout are delivered.
unfoldable pub deliver_boxes : Outcome (Option rules.Boxes) → List ℕ → Given
deliver_boxes (refused k p) buffer = given (refused k p) buffer
deliver_boxes (accepted none) buffer = given (accepted none) buffer
deliver_boxes (accepted (some b)) buffer = offered (deliver (accepted (write_boxes b)) buffer)
