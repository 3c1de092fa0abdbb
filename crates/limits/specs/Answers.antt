-- What an answer says, in the terms of the definitions: the paper's number of each reason, and what was accepted or refused.
use Rattle.std.specs.Prelude.{ℕ, Result, Ok, Err}
use Rattle.model.specs.Refusals as refusals
use Rattle.format.specs.Outcome.{Outcome, accepted, refused}
use Rattle.limits.specs.declared.refusal.Reason.{Reason}
use Rattle.limits.specs.declared.refusal.Reason.TheVariants.{Ended, Unmarked, OutOfRange, Oversized, TooMany, Trailing, TooShort, Unpervaded, WrongScalar, WrongShape, Underflow, Overflow, NotASize, WrongCount, Undeclared, TooManyNames}
use Rattle.limits.specs.declared.refusal.Refusal.{Refusal}

abbrev pub number_of : Reason → ℕ
number_of Ended = refusals.ended
number_of Unmarked = refusals.unmarked
number_of OutOfRange = refusals.out_of_range
number_of Oversized = refusals.oversized
number_of TooMany = refusals.too_many
number_of Trailing = refusals.trailing
number_of TooShort = refusals.too_short
number_of Unpervaded = refusals.unpervaded
number_of WrongScalar = refusals.wrong_scalar
number_of WrongShape = refusals.wrong_shape
number_of Underflow = refusals.underflow
number_of Overflow = refusals.overflow
number_of NotASize = refusals.not_a_size
number_of WrongCount = refusals.wrong_count
number_of Undeclared = refusals.undeclared
number_of TooManyNames = refusals.too_many_names

-- an answer, or the refusal
abbrev pub told : {A : Type 0} → Result A Refusal → Outcome A
told (Ok a) = accepted a
told (Err r) = refused (number_of r.0) r.1

-- the same where the place is another's to say
abbrev pub told_at : {A : Type 0} → ℕ → Result A Reason → Outcome A
told_at p (Ok a) = accepted a
told_at p (Err r) = refused (number_of r) p
