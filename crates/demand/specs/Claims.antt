-- The words of demand 3 about the call: the answers that it speaks of, the conditions of its two halves and what the second says,
-- and why a real run stops.
use Rattle.std.specs.Prelude.{ℕ, false, List, [], ◌∷◌, ◌⊎◌, ◌≡◌, length}
use Rattle.std.proofs.Math.Option.{none, some}
use Rattle.std.proofs.Math.ListN.{get_elem?}
use Rattle.model.specs.Refusals.{unpervaded}
use Rattle.model.specs.Types.{Ty, shape_of}
use Rattle.model.specs.Within.{All, Within}
use Rattle.format.specs.Reader.{Bytes}
use Rattle.format.specs.Outcome.{accepted, refused}
use Rattle.machine.specs.Steps.{Step, a_pervading, a_validating, is_a, Argument, no_argument, a_type, flags, argument_of}
use Rattle.machine.specs.Run.{Ruling, gives, refuses}
use Rattle.machine.specs.Names.{SheetOf}
use Rattle.machine.specs.Call.{Tally, Called, called, zeroed, left_with, sheet_call}
use Rattle.machine.specs.WellFormed.{WellFormed, types_left}
use Rattle.machine.specs.Real.{RealShape, fits, Holds, real_pervade, Feeds, real_step, Through}
use Rattle.machine.specs.Conditions.{NamesNoClosing, RowsNoOpenDef, JoinsAlike, Along, Only, PutOrPervade, SamePuts}

-- ---- what the call answers

-- One call of the sheet check: the bytes that are handed in, and the two buffers as they are lent.
pub record Check : Type 0 where
  pub sheet : List ℕ
  pub result : List ℕ
  pub scratch : List ℕ

abbrev pub check_of : List ℕ → List ℕ → List ℕ → Check
check_of s result scratch = record { sheet = s; result = result; scratch = scratch }

-- its answer, with both buffers as they are then
abbrev pub answer_to : Check → Called
answer_to c = sheet_call c.sheet c.result c.scratch

-- "an accepted sheet", whatever it leaves.
pub record IsAccepted (c : Check) : Type 0 where
  pub left : Tally
  pub result-after : List ℕ
  pub scratch_after : List ℕ
  pub outcome : answer_to c ≡ called (accepted left) result-after scratch_after

-- "an accepted sheet", and the types left, bottom first: the answer is their number and the number of their bytes, their bytes stand
-- at the front of the result, and the scratch is zero.
pub record Leaves (c : Check) (ts : List Ty) : Type 0 where
  pub within : All Within ts
  pub outcome : answer_to c ≡ left_with ts c.result (zeroed c.scratch)

-- "mismatch, refusal 8, is answered", at some place.
pub record Mismatched (c : Check) : Type 0 where
  pub place : ℕ
  pub outcome : answer_to c ≡ called (refused unpervaded place) c.result (zeroed c.scratch)

-- The term verdict: accepted, or the number of a refusal, the place aside. Under the conditions below that number is 8, mismatch.
abbrev pub verdict_of : Called → Ruling (Unit {0})
verdict_of (called (accepted n) result scratch) = gives tt
verdict_of (called (refused k p) result scratch) = refuses k

-- ---- the first half

-- "makes an accepted sheet": the sheet handed in is the bytes of a written list that comes to these steps, and the call accepts it and leaves
-- these types. A use in it is a put of the type then in force, and a declaration may stand anywhere (document 02, 2026-06).
pub record MakesAccepted (c : Check) (xs : List Step) (ts : List Ty) : Type 0 where
  pub bytes : SheetOf c.sheet xs
  pub leaves : Leaves c ts

-- All conditions of the first half on the steps, a list that is worked in order from an empty stack: "names no closing sizes, [...] takes
-- no row of an open Def, and joins only closed shapes of equal count or two open ones". That it fills nothing is not asked any more: "the
-- holding of real shapes then covers filled steps" (document 02, 2026-01). The proof does without the second.
pub record FirstConditions (xs : List Step) : Type 0 where
  pub names-no-closing : All NamesNoClosing xs
  pub rows-no_open_def : Along RowsNoOpenDef xs []
  pub joins-alike : Along JoinsAlike xs []

-- "each type left holds the shape of the real array there": the n-th type from the bottom the n-th real shape from the bottom,
-- and there are equally many.
pub record EachHolds (ts : List Ty) (rs : List RealShape) : Type 0 where
  pub equally-many : length ts ≡ length rs
  pub nth : (n : ℕ) (t : Ty) (r : RealShape) → get_elem? ts n ≡ some t → get_elem? rs n ≡ some r → Holds t r

-- ---- the second half

-- All conditions of the second half: "puts and unfilled pervadings", "a well-formed sheet", "leaving one type". The sheet is of bytes,
-- as every slice of u8 is.
pub record SecondConditions (c : Check) (xs : List Step) : Type 0 where
  pub bytes : Bytes c.sheet
  pub well_formed : WellFormed c.sheet c.result c.scratch xs
  pub puts-and-pervadings : All PutOrPervade xs
  pub one_left : types_left xs ≡ 1

-- "no real arrays that fit the puts get through".
abbrev pub NoneThrough : List Step → Type 0
NoneThrough xs = (f : Feeds xs) (left : List RealShape) → Through xs f left → ⊥

-- "Mismatch, refusal 8, is answered exactly when no real arrays that fit the puts get through, and otherwise the sheet is accepted":
-- one of these two, and no third.
pub data SecondHalf (c : Check) (xs : List Step) : Type 0 where
  accepts : (t : Ty) → Leaves c (t ∷ []) → (f : Feeds xs) (left : List RealShape) → Through xs f left → SecondHalf c xs
  mismatches : Mismatched c → NoneThrough xs → SecondHalf c xs

-- "every other order or grouping of the same puts within" six "places", which "rearranged puts must manage with" (document 02, 2026-04):
-- another sheet with the same conditions, so within six places, that puts the same types, each as often, uses of names counted as puts. Its
-- buffers may be others too.
pub record Regrouped (c d : Check) (xs ys : List Step) : Type 0 where
  pub one : SecondConditions c xs
  pub other : SecondConditions d ys
  pub same-puts : SamePuts xs ys

-- ---- the real run

-- the real pervading of the two on top, filled as the flag byte after the mark says, stops
abbrev pub TopsStop : Argument → List RealShape → Type 0
TopsStop no_argument rs = ⊥
TopsStop (a_type spec) rs = ⊥
TopsStop (flags f g) [] = ⊥
TopsStop (flags f g) (r ∷ []) = ⊥
TopsStop (flags f g) (r ∷ q ∷ rs) = real_pervade f g r q ≡ none

-- the one on top does not fit the spec that follows the mark
abbrev pub TopUnfit : Argument → List RealShape → Type 0
TopUnfit no_argument rs = ⊥
TopUnfit (flags f g) rs = ⊥
TopUnfit (a_type spec) [] = ⊥
TopUnfit (a_type spec) (r ∷ rs) = fits (shape_of spec) r ≡ false

-- Why a step of it stops, of the real shapes that it takes: a pervading of two real shapes whose real pervading stops, or a validation
-- of one that does not fit. There is no third reason, and so none that a shape is lacking.
abbrev pub StopsBecause : Step → List RealShape → Type 0
StopsBecause x rs = Only (is_a a_pervading x) (TopsStop (argument_of x) rs) ⊎ Only (is_a a_validating x) (TopUnfit (argument_of x) rs)

-- Why a run stops: its first step stops for one of the two reasons, or it goes on and the run stops later.
abbrev pub RunStopsBecause : (xs : List Step) → Feeds xs → List RealShape → Type 0
RunStopsBecause [] u rs = ⊥
RunStopsBecause (x ∷ xs) f rs = StopsBecause x rs ⊎ ((rs₁ : List RealShape) × (real_step x f.0 rs ≡ some rs₁) × RunStopsBecause xs f.1 rs₁)
