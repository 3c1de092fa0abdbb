-- What names change of a call's answer (document 02, 2026-06): the place of a refusal, and nothing else. A sheet whose uses are written out as
-- puts and whose declarations are dropped gets the same types left, in the same bytes, or the same number; and so does one without a
-- declaration whose name is not used after it.
use Rattle.std.specs.Prelude.{ℕ, Bool, cond, length, leb, ltb}
use Rattle.std.proofs.Common.{arith}
use Rattle.std.proofs.Math.Bool.{true, false}
use mathlib.Core.List.{List, ◌∷◌, ◌++◌}
use Rattle.std.proofs.Math.Path.{◌≡◌, refl}
use Rattle.model.specs.Refusals.{too_short}
use Rattle.model.specs.Types.{Ty}
use Rattle.format.specs.Outcome.{Outcome, accepted, refused}
use Rattle.machine.specs.SheetLimits.{scratch_bytes}
use Rattle.machine.specs.Steps.{Step}
use Rattle.machine.specs.Run.{aside}
use Rattle.machine.specs.Written.{TableName, WrittenStep, declaring, write_steps, written_out}
use Rattle.machine.specs.Names.{SheetOf}
use Rattle.machine.specs.Sheet.{sheet_run}
use Rattle.machine.specs.Call.{Called, called, write_types, zeroed, left_with, hand_over, sheet_call}
use Rattle.machine.proofs.WrittenOut.{same-steps, write_out_reads, Unused, declaration_dropped}

-- An answer with both buffers, the place of a refusal aside.
abbrev pub place_aside : Called → Called
place_aside (called (accepted n) result scratch) = called (accepted n) result scratch
place_aside (called (refused k p) result scratch) = called (refused k 0) result scratch

module _ (result scratch : List ℕ) where
  handed-alike : (m n : ℕ) (a b : Outcome (List Ty)) → aside a ≡ aside b → place_aside (hand_over m a result scratch) ≡ place_aside (hand_over n b result scratch)
  unfolding hand_over
  handed-alike m n (accepted ts) (accepted us) e =
      let same : ts ≡ us = cc in
      rw same (go us (leb (length (write_types us)) (length result)))
    where
      go : (us : List Ty) (b : Bool) → place_aside (cond b (left_with us result scratch) (called (refused too_short m) result scratch))
          ≡ place_aside (cond b (left_with us result scratch) (called (refused too_short n) result scratch))
      go us true = refl
      go us false = refl
  handed-alike m n (accepted ts) (refused k p) e = let z : ◌≡◌ {A = ℕ} 0 1 = cc in absurd (omega arith)
  handed-alike m n (refused k p) (accepted us) e = let z : ◌≡◌ {A = ℕ} 0 1 = cc in absurd (omega arith)
  handed-alike m n (refused k p) (refused j q) e = let same : k ≡ j = cc in rw same

-- Two sheets whose runs answer the same, the place aside, get the same from calls that are lent the same.
calls_alike : (s r result scratch : List ℕ) → aside (sheet_run s) ≡ aside (sheet_run r) → place_aside (sheet_call s result scratch) ≡ place_aside (sheet_call r result scratch)
unfolding sheet_call
calls_alike s r result scratch e = go (ltb (length scratch) scratch_bytes)
  where
    go : (b : Bool) → place_aside (cond b (called (refused too_short 0) result scratch) (hand_over (length s) (sheet_run s) result (zeroed scratch)))
        ≡ place_aside (cond b (called (refused too_short 0) result scratch) (hand_over (length r) (sheet_run r) result (zeroed scratch)))
    go true = refl
    go false = handed-alike result (zeroed scratch) (length s) (length r) (sheet_run s) (sheet_run r) e

-- Two sheets that come to the same steps get the same answer.
pub same-steps-call : (s r result scratch : List ℕ) (xs : List Step) → SheetOf s xs → SheetOf r xs → place_aside (sheet_call s result scratch) ≡ place_aside (sheet_call r result scratch)
same-steps-call s r result scratch xs h k = calls_alike s r result scratch (same-steps s r xs h k)

-- "Each use written as a put of the type then in force", and no declarations.
pub written_out-call : (s result scratch : List ℕ) (xs : List Step) → SheetOf s xs → place_aside (sheet_call s result scratch) ≡ place_aside (sheet_call (write_steps (written_out xs)) result scratch)
written_out-call s result scratch xs h = same-steps-call s (write_steps (written_out xs)) result scratch xs h (write_out_reads s xs h)

-- A declaration changes no later answer but through uses.
pub declaration_call : (s result scratch : List ℕ) (xs : List Step) (h : SheetOf s xs) (before : List WrittenStep) (n : TableName) (t : Ty) (after : List WrittenStep)
    → h.written ≡ before ++ (declaring n t ∷ after) → Unused n after → place_aside (sheet_call s result scratch) ≡ place_aside (sheet_call (write_steps (before ++ after)) result scratch)
declaration_call s result scratch xs h before n t after is u =
    same-steps-call s (write_steps (before ++ after)) result scratch xs h (declaration_dropped s xs h before n t after is u)
