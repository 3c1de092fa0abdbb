-- Well-formed sheets (document 01, "The sheet, added"): read to the end, rule refusals passed over, a sheet meets none of 1 to 5,
-- 11 and 12, and "neither 15 nor 16" (document 02, 2026-06). "A well-formed sheet has the scratch asked for and 4,992 result bytes for each
-- type left" (2026-04). The types left are counted on that reading.
use Rattle.std.specs.Prelude.{ℕ, ◌≤◌, List, [], ◌∷◌, ◌≡◌, length}
use Rattle.format.specs.Outcome.{accepted}
use Rattle.machine.specs.SheetLimits.{max_stack, scratch_bytes, result_bytes}
use Rattle.machine.specs.Steps.{Step, opcode_of, takes, height_past}
use Rattle.machine.specs.Written.{WrittenStep}
use Rattle.machine.specs.Names.{unfolded}
use Rattle.machine.specs.Sheet.{skim}

-- The height that steps leave of height h; from the empty stack, the number of types left.
abbrev pub height_after : List Step → ℕ → ℕ
height_after [] h = h
height_after (x ∷ xs) h = height_after xs (height_past (opcode_of x) h)

abbrev pub types_left : List Step → ℕ
types_left xs = height_after xs 0

-- The term well-formed, of a sheet's bytes and of the two buffers, with the steps that what was read comes to: the reading's own
-- refusals are 1 to 5, 11, 12, 15 and 16 (`demand`: `skim-numbered`), so that it meets none of them if it is accepted.
pub record WellFormed (s result scratch : List ℕ) (xs : List Step) : Type 0 where
  pub written : List WrittenStep
  pub read : skim s ≡ accepted written
  pub comes_to : unfolded [] written ≡ xs
  pub scratch_holds : scratch_bytes ≤ length scratch
  pub result_holds : result_bytes (types_left xs) ≤ length result

-- No step lacks types or lays down one too many, from height h on.
abbrev pub Heights : List Step → ℕ → Type 0
Heights [] h = Unit {0}
Heights (x ∷ xs) h = (takes (opcode_of x) ≤ h) × (height_past (opcode_of x) h ≤ max_stack) × Heights xs (height_past (opcode_of x) h)
