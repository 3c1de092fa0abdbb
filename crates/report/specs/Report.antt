-- What the sheet program prints (document 01, "The sheet, added"), as a function of the outcome. A text is the list of its ASCII
-- codes. `between` is what stands between two lines; nothing stands after the last.
use Rattle.std.specs.Prelude.{ℕ, suc, cond, List, [], ◌∷◌, ◌++◌, length, leb, ltb}
use Rattle.model.specs.Refusals.{too_short}
use Rattle.model.specs.Types.{Ty}
use Rattle.format.specs.Records.{write_ty}
use Rattle.format.specs.Outcome.{Outcome, accepted, refused}
use Rattle.machine.specs.SheetLimits.{scratch_bytes, program_bytes}
use Rattle.machine.specs.Sheet.{sheet_run}
use Rattle.machine.specs.Call.{write_types, zeroed, Called, called, sheet_call}
use Rattle.text.specs.Digits.{hex_of, decimal_of}

abbrev pub space : List ℕ
space = 32 ∷ []

abbrev pub line_feed : List ℕ
line_feed = 10 ∷ []

-- "ok " and "no "
abbrev pub ok_word : List ℕ
ok_word = 111 ∷ 107 ∷ 32 ∷ []

abbrev pub no_word : List ℕ
no_word = 110 ∷ 111 ∷ 32 ∷ []

-- Two numbers after a word.
unfoldable pub headed : List ℕ → ℕ → ℕ → List ℕ
headed word m n = word ++ (decimal_of m ++ (space ++ decimal_of n))

-- A type's place from the bottom, and its bytes.
unfoldable pub type_line : List ℕ → ℕ → List ℕ → List ℕ
type_line between i w = between ++ (decimal_of i ++ (space ++ hex_of w))

-- The types from the i-th on.
unfoldable pub type_lines : List ℕ → ℕ → List Ty → List ℕ
type_lines between i [] = []
type_lines between i (t ∷ ts) = type_line between i (write_ty t) ++ type_lines between (suc i) ts

-- How many types are left and their bytes in all, then each of them; or the refusal's number and place.
unfoldable pub reported : List ℕ → Outcome (List Ty) → List ℕ
reported between (accepted ts) = headed ok_word (length ts) (length (write_types ts)) ++ type_lines between 0 ts
reported between (refused k p) = headed no_word k p

-- What a call answers that was lent so many bytes for its result and its scratch: the types left, if they have room.
abbrev pub if_room : ℕ → ℕ → Outcome (List Ty) → Outcome (List Ty)
if_room size room (accepted ts) = cond (leb (length (write_types ts)) room) (accepted ts) (refused too_short size)
if_room size room (refused k p) = refused k p

unfoldable pub call_outcome : List ℕ → ℕ → ℕ → Outcome (List Ty)
call_outcome s result scratch = cond (ltb scratch scratch_bytes) (refused too_short 0) (if_room (length s) result (sheet_run s))

-- What the program answers: more bytes than it reads are refused first.
unfoldable pub program_outcome : List ℕ → Outcome (List Ty)
program_outcome s = cond (ltb program_bytes (length s)) (refused too_short 0) (sheet_run s)

-- What it prints: every line ends in a line feed, the last too.
unfoldable pub printed : List ℕ → List ℕ
printed s = reported line_feed (program_outcome s) ++ line_feed

-- What a call leaves in the two buffers that it was lent: the result and the scratch.
pub data Buffers : Type 0 where
  buffers : List ℕ → List ℕ → Buffers

abbrev pub buffers_of : Called → Buffers
buffers_of (called o result scratch) = buffers result scratch

-- The program's check as a call, with the buffers that it lends, a scratch that is long enough among them: a sheet of more bytes than it
-- reads is a refusal like any other, which writes nothing to the result and after which the scratch is zero.
unfoldable pub program_call : List ℕ → List ℕ → List ℕ → Called
program_call s result scratch =
    cond (ltb program_bytes (length s)) (called (refused too_short 0) result (zeroed scratch)) (sheet_call s result scratch)
