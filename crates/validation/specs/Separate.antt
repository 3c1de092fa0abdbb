-- What a separate validation answers (document 02, 2026-03): it tells "whether the spec or the checked type was being read when refused (1
-- to 6 while reading), or neither".
use Rattle.std.specs.Prelude.{ℕ, List}
use Rattle.model.specs.Types.{Ty}
use Rattle.format.specs.Records.{write_ty}
use Rattle.format.specs.Outcome.{Outcome, mapped, both, Refusal, unrefused, first, second, refusal_of, lone, Delivery, deliver}

pub data Input : Type 0 where
  spec checked_type neither : Input

-- Of the two inputs the spec is the first.
abbrev pub being_read : Refusal → Input
being_read unrefused = neither
being_read (first k p) = spec
being_read (second k p) = checked_type

-- What is answered and what the result buffer then holds, with the input that was being read; neither, if it was accepted.
pub data Separate : Type 0 where
  separate : Delivery → Input → Separate

-- A rule of validation, of a spec's bytes, a type's and a result buffer.
abbrev pub separately : (Ty → Ty → Outcome Ty) → List ℕ → List ℕ → List ℕ → Separate
separately f s t buffer = separate (deliver (both (λ a b. mapped write_ty (f a b)) (lone s) (lone t)) buffer) (being_read (refusal_of (lone s) (lone t)))
