-- What an answer of the sheet call says of the sheet's run: the types left and their bytes in the result, or the refusal. `result_bytes`
-- of the types left suffice for them, and no more are left than the stack has places.
use Rattle.std.specs.Prelude.{ℕ, ◌≤◌, ◌<◌, Bool, ◌≡◌, take, drop, ltb}
use Rattle.std.proofs.Common.{arith, ◌∙◌}
use Rattle.std.proofs.Math.Bool.{true, false}
use mathlib.Core.List.{List, [], reverse}
use Rattle.std.proofs.Math.Path.{refl}
use Rattle.std.proofs.Math.ListN.{length}
use Rattle.std.proofs.lemmas.List.{length-reverse}
use Rattle.std.proofs.Math.Seq.{take-append_seam}
use Rattle.std.proofs.Math.Dec.{leb}
use borrow.Author.Tests.{le-leb, lt-leb, le-ltb, leb-true, leb-false, ltb-true, ltb-false}
use Rattle.model.specs.Refusals.{too_short}
use Rattle.model.specs.Types.{Ty}
use Rattle.model.specs.Within.{All, Within}
use Rattle.format.specs.Reader.{Bytes}
use Rattle.format.specs.Outcome.{Outcome, accepted, refused}
use Rattle.machine.specs.SheetLimits.{max_stack, scratch_bytes, result_bytes}
use Rattle.machine.specs.Steps.{Step}
use Rattle.machine.specs.Names.{SheetOf}
use Rattle.machine.specs.Sheet.{sheet_run}
use Rattle.machine.specs.Call.{tally, called, write_types, zeroed, at_front, left_with, hand_over, sheet_call}
use Rattle.machine.specs.WellFormed.{types_left}
use Rattle.machine.proofs.StepsWithin.{write_types-suffices}
use Rattle.machine.proofs.StepsReads.{steps-room}
use Rattle.machine.proofs.Sheets.{accepted-steps, left-within, left-many}

-- ---- the ways out of the call

module _ (s result scratch : List ℕ) where
  -- A scratch that is too short; the refusal of the run; a result that is too short for the types left; the types left. There is no fifth.
  pub data Ways : Type 0 where
    short_scratch : length scratch < scratch_bytes
        → sheet_call s result scratch ≡ called (refused too_short 0) result scratch → Ways
    run_refused : scratch_bytes ≤ length scratch → (k p : ℕ) → sheet_run s ≡ refused k p
        → sheet_call s result scratch ≡ called (refused k p) result (zeroed scratch) → Ways
    short_result : scratch_bytes ≤ length scratch → (ts : List Ty) → sheet_run s ≡ accepted ts → length result < length (write_types ts)
        → sheet_call s result scratch ≡ called (refused too_short (length s)) result (zeroed scratch) → Ways
    types_written : scratch_bytes ≤ length scratch → (ts : List Ty) → sheet_run s ≡ accepted ts → length (write_types ts) ≤ length result
        → sheet_call s result scratch ≡ left_with ts result (zeroed scratch) → Ways

  -- With enough scratch the call hands the run over.
  pub call_hands_over : scratch_bytes ≤ length scratch → sheet_call s result scratch ≡ hand_over (length s) (sheet_run s) result (zeroed scratch)
  unfolding sheet_call
  call_hands_over enough = rw (le-ltb (length scratch) scratch_bytes enough)

  -- How many types are left is what is answered, and their bytes are in front in the result.
  pub call_writes : scratch_bytes ≤ length scratch → (ts : List Ty) → sheet_run s ≡ accepted ts → length (write_types ts) ≤ length result
      → sheet_call s result scratch ≡ called (accepted (tally (length ts) (length (write_types ts)))) (at_front (write_types ts) result) (zeroed scratch)
  unfolding hand_over
  call_writes enough ts run room = call_hands_over enough ∙ rw (run, le-leb (length (write_types ts)) (length result) room)

  pub call-refuses : scratch_bytes ≤ length scratch → (k p : ℕ) → sheet_run s ≡ refused k p → sheet_call s result scratch ≡ called (refused k p) result (zeroed scratch)
  unfolding hand_over
  call-refuses enough k p run = call_hands_over enough ∙ rw run

  pub call-lacks : scratch_bytes ≤ length scratch → (ts : List Ty) → sheet_run s ≡ accepted ts → length result < length (write_types ts)
      → sheet_call s result scratch ≡ called (refused too_short (length s)) result (zeroed scratch)
  unfolding hand_over
  call-lacks enough ts run short = call_hands_over enough ∙ rw (run, lt-leb (length (write_types ts)) (length result) short)

  pub call_ways : Ways
  unfolding sheet_call hand_over
  call_ways = go (ltb (length scratch) scratch_bytes) refl
    where
      left : scratch_bytes ≤ length scratch → (ts : List Ty) → sheet_run s ≡ accepted ts → (b : Bool) → leb (length (write_types ts)) (length result) ≡ b → Ways
      left enough ts run true e = let room = leb-true (length (write_types ts)) (length result) e in types_written enough ts run room (call_writes enough ts run room)
      left enough ts run false e = let short = leb-false (length (write_types ts)) (length result) e in short_result enough ts run short (call-lacks enough ts run short)

      ran : scratch_bytes ≤ length scratch → (o : Outcome (List Ty)) → sheet_run s ≡ o → Ways
      ran enough (refused k p) run = run_refused enough k p run (call-refuses enough k p run)
      ran enough (accepted ts) run = left enough ts run (leb (length (write_types ts)) (length result)) refl

      go : (b : Bool) → ltb (length scratch) scratch_bytes ≡ b → Ways
      go true e = short_scratch (ltb-true (length scratch) scratch_bytes e) (rw e)
      go false e = ran (ltb-false (length scratch) scratch_bytes e) (sheet_run s) refl

-- ---- no more types are left than the stack has places

-- What the types left of a sheet keep to.
pub record Few (ts : List Ty) : Type 0 where
  pub within : All Within ts
  pub few : length ts ≤ max_stack
  pub suffices : length (write_types ts) ≤ result_bytes max_stack

pub run-few : (s : List ℕ) → Bytes s → (ts : List Ty) → sheet_run s ≡ accepted ts → Few ts
run-few s small ts e =
    let (xs, h, k) = accepted-steps s small ts e in
    let w : All Within ts = (left-within s xs ts h e).1 in
    let n : length ts ≤ max_stack = omega (arith, steps-room xs [] (reverse ts) (omega arith) k, length-reverse ts) in
    record { within = w; few = n; suffices = omega (arith, write_types-suffices ts w) }

-- `result_bytes` of the types that are counted on the reading suffice.
pub left-fits : (s : List ℕ) (xs : List Step) (ts : List Ty) → SheetOf s xs → sheet_run s ≡ accepted ts → length (write_types ts) ≤ result_bytes (types_left xs)
left-fits s xs ts h e = rw (left-many s xs ts h e) at (write_types-suffices ts (left-within s xs ts h e).1)

-- ---- an answer with types left

-- The types left, how many and how many bytes, and that these stand in front in the result.
pub record LeftBy (s : List ℕ) (n b : ℕ) (out : List ℕ) (ts : List Ty) : Type 0 where
  pub run : sheet_run s ≡ accepted ts
  pub count : n ≡ length ts
  pub bytes : b ≡ length (write_types ts)
  pub front : take b out ≡ write_types ts
  pub kept : Few ts

module _ (s result scratch : List ℕ) where
  pub call-left : {C : Type 0} {n b : ℕ} {out after : List ℕ} → Bytes s → called (accepted (tally n b)) out after ≡ sheet_call s result scratch
      → ((ts : List Ty) → LeftBy s n b out ts → C)
      → C
  call-left {C} {n} {b} {out} {after} small e f = go (call_ways s result scratch)
    where
      go : Ways s result scratch → C
      go (short_scratch l w) = let z : ◌≡◌ {A = ℕ} 0 1 = cc in absurd (omega arith)
      go (run_refused l k p r w) = let z : ◌≡◌ {A = ℕ} 0 1 = cc in absurd (omega arith)
      go (short_result l ts r m w) = let z : ◌≡◌ {A = ℕ} 0 1 = cc in absurd (omega arith)
      go (types_written l ts r room w) =
          let c : n ≡ length ts = cc in
          let d : b ≡ length (write_types ts) = cc in
          let o : out ≡ at_front (write_types ts) result = cc in
          let front : take b out ≡ write_types ts = rw (d, o) (take-append_seam (write_types ts) (drop (length (write_types ts)) result)) in
          f ts record { run = r; count = c; bytes = d; front = front; kept = run-few s small ts r }
