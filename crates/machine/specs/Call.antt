-- The sheet check as one call (document 01, "Thirteen ways of saying no"): its answer, and what it leaves in the two buffers that
-- it was lent, as one function of the sheet's bytes and of both buffers at entry.
use Rattle.std.specs.Prelude.{ℕ, cond, List, [], ◌∷◌, ◌++◌, length, drop, replicate, leb, ltb}
use Rattle.model.specs.Refusals.{too_short}
use Rattle.model.specs.Types.{Ty}
use Rattle.format.specs.Records.{write_ty}
use Rattle.format.specs.Outcome.{Outcome, accepted, refused}
use Rattle.machine.specs.SheetLimits.{scratch_bytes}
use Rattle.machine.specs.Sheet.{sheet_run}

-- How many types are left, and their bytes in all.
pub data Tally : Type 0 where
  tally : ℕ → ℕ → Tally

-- The answer, the result at exit, the scratch at exit.
pub data Called : Type 0 where
  called : Outcome Tally → List ℕ → List ℕ → Called

unfoldable pub write_types : List Ty → List ℕ
write_types [] = []
write_types (t ∷ ts) = write_ty t ++ write_types ts

-- the first n bytes zero, later ones as lent
unfoldable pub first_zero : ℕ → List ℕ → List ℕ
first_zero n buffer = replicate n 0 ++ drop n buffer

-- The bytes that a call asks for are zero, later ones stay; it is said only of a scratch that has as many.
unfoldable pub zeroed : List ℕ → List ℕ
zeroed scratch = first_zero scratch_bytes scratch

-- bytes at the front of a buffer, all after them as lent
abbrev pub at_front : List ℕ → List ℕ → List ℕ
at_front w buffer = w ++ drop (length w) buffer

-- With these types left: how many and their bytes in all, which stand at the front of the result.
abbrev pub left_with : List Ty → List ℕ → List ℕ → Called
left_with ts result scratch = called (accepted (tally (length ts) (length (write_types ts)))) (at_front (write_types ts) result) scratch

-- The types left are written bottom first; a result too short for them is found last, at the sheet's length.
unfoldable pub hand_over : ℕ → Outcome (List Ty) → List ℕ → List ℕ → Called
hand_over size (refused k p) result scratch = called (refused k p) result scratch
hand_over size (accepted ts) result scratch =
    cond (leb (length (write_types ts)) (length result))
    (left_with ts result scratch)
    (called (refused too_short size) result scratch)

-- A scratch that is too short is found first and stays as lent.
unfoldable pub sheet_call : List ℕ → List ℕ → List ℕ → Called
sheet_call s result scratch =
    cond (ltb (length scratch) scratch_bytes)
    (called (refused too_short 0) result scratch)
    (hand_over (length s) (sheet_run s) result (zeroed scratch))
