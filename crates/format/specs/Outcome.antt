-- What a call answers, and what it leaves in a result buffer that it was lent (document 01, "Thirteen ways of saying no").
use Rattle.std.specs.Prelude.{ℕ, cond, List, ◌++◌, length, drop, leb, ltb}
use Rattle.model.specs.Refusals.{trailing, too_short}
use Rattle.model.specs.Types.{Ty, ty}
use Rattle.format.specs.Reader.{Read, got, stopped}
use Rattle.format.specs.Records.{write_shape, write_scalar, read_type}

-- Accepted with a value, or refused with a number and a place.
pub data Outcome (A : Type 0) : Type 0 where
  accepted : A → Outcome A
  refused : ℕ → ℕ → Outcome A

abbrev pub mapped : {A B : Type 0} → (A → B) → Outcome A → Outcome B
mapped f (accepted a) = accepted (f a)
mapped f (refused k p) = refused k p

-- What an accepted value goes on to.
abbrev pub bound : {A B : Type 0} → (A → Outcome B) → Outcome A → Outcome B
bound f (accepted a) = f a
bound f (refused k p) = refused k p

-- Of two inputs the first is read whole before the other.
abbrev pub both : {A B C : Type 0} → (A → B → Outcome C) → Outcome A → Outcome B → Outcome C
both f (accepted a) y = bound (f a) y
both f (refused k p) y = refused k p

-- Which of two inputs was refused, and how; the other is not read if the first is refused.
pub data Refusal : Type 0 where
  unrefused : Refusal
  first second : ℕ → ℕ → Refusal

abbrev pub refusal_of : {A B : Type 0} → Outcome A → Outcome B → Refusal
refusal_of (accepted a) (accepted b) = unrefused
refusal_of (accepted a) (refused k p) = second k p
refusal_of (refused k p) y = first k p

-- A lone type: nothing may stand after it.
abbrev pub alone : {A : Type 0} → ℕ → Read A → Outcome A
alone size (got a next) = cond (ltb next size) (refused trailing next) (accepted a)
alone size (stopped k p) = refused k p

unfoldable pub lone : List ℕ → Outcome Ty
lone s = alone (length s) (read_type s 0)

-- The place after what was read.
abbrev pub place_after : {A : Type 0} → Read A → Outcome ℕ
place_after (got a next) = accepted next
place_after (stopped k p) = refused k p

-- The length of the type that begins some bytes, whatever follows it.
unfoldable pub type_length : List ℕ → Outcome ℕ
type_length s = place_after (read_type s 0)

-- An answer that counts the bytes written, beside what the result buffer then holds.
pub data Delivery : Type 0 where
  delivery : Outcome ℕ → List ℕ → Delivery

-- Bytes go to the front of the result buffer and all after them stays; a refusal leaves the buffer as lent, and so does
-- a buffer that is too short, which is found last.
unfoldable pub deliver : Outcome (List ℕ) → List ℕ → Delivery
deliver (refused k p) buffer = delivery (refused k p) buffer
deliver (accepted w) buffer = cond (leb (length w) (length buffer)) (delivery (accepted (length w)) (w ++ drop (length w) buffer)) (delivery (refused too_short 0) buffer)

-- The record of a type's shape, and of its scalar.
abbrev pub shape_record : Ty → List ℕ
shape_record (ty s k) = write_shape s

abbrev pub scalar_record : Ty → List ℕ
scalar_record (ty s k) = write_scalar k
