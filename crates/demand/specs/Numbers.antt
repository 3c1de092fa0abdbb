-- Demand 1, "gets its result or one of" sixteen "numbered refusals" (its count grows with document 02): which of them a record, a lone
-- type, a sheet's reading, its rules, a sheet and the sheet call can have, as lists of their names.
use Rattle.std.specs.Prelude.{ℕ, List, [], ◌∷◌, ◌≡◌}
use Rattle.model.specs.Refusals.{ended, unmarked, out_of_range, oversized, too_many, trailing, too_short, unpervaded, wrong_scalar, wrong_shape, underflow, overflow, wrong_count, undeclared, too_many_names, Among}
use Rattle.format.specs.Outcome.{Outcome, refused}
use Rattle.machine.specs.Call.{Tally, Called, called}

-- "for 1 to 5 while reading": those of a record or a type
abbrev pub of_records : List ℕ
of_records = ended ∷ unmarked ∷ out_of_range ∷ oversized ∷ too_many ∷ []

-- those of a lone type: also "bytes after a lone type"
abbrev pub of_lone : List ℕ
of_lone = ended ∷ unmarked ∷ out_of_range ∷ oversized ∷ too_many ∷ trailing ∷ []

-- "meets none of 1 to 5, 11 and 12", and "neither 15 nor 16": those of a sheet's reading, the rules passed over
abbrev pub of_reading : List ℕ
of_reading = ended ∷ unmarked ∷ out_of_range ∷ oversized ∷ too_many ∷ underflow ∷ overflow ∷ undeclared ∷ too_many_names ∷ []

-- "rule refusals": those of the steps' rules, which are passed over in that reading. 5 is a validation's.
abbrev pub of_rules : List ℕ
of_rules = too_many ∷ unpervaded ∷ wrong_scalar ∷ wrong_shape ∷ wrong_count ∷ []

-- those of a sheet, worked: all but 6, which is a lone type's, 7, which is the buffers', and 13, which is a number's
abbrev pub of_sheet : List ℕ
of_sheet = ended ∷ unmarked ∷ out_of_range ∷ oversized ∷ too_many ∷ unpervaded ∷ wrong_scalar ∷ wrong_shape ∷ underflow ∷ overflow ∷ wrong_count ∷ undeclared ∷ too_many_names ∷ []

-- those of the sheet call
abbrev pub of_sheet_call : List ℕ
of_sheet_call = ended ∷ unmarked ∷ out_of_range ∷ oversized ∷ too_many ∷ too_short ∷ unpervaded ∷ wrong_scalar ∷ wrong_shape ∷ underflow ∷ overflow ∷ wrong_count ∷ undeclared ∷ too_many_names ∷ []

-- An outcome that is refused is refused with one of these. A record, so that the outcome can be read off a goal.
pub record RefusedWith {A : Type 0} (ns : List ℕ) (o : Outcome A) : Type 0 where
  pub number_is : (k p : ℕ) → o ≡ refused k p → Among ns k

-- the answer of the sheet call, its buffers aside
abbrev pub answer_in : Called → Outcome Tally
answer_in (called o result scratch) = o
