-- The program's outcome and what its call leaves: a sheet that is too long, any other, and the text's last line feed.
use Prim.Native.Nat.{ℕ, ◌≤◌, ◌<◌}
use native.Mathlib.Omega.{arith}
use mathlib.Core.Bool.{Bool, true, false}
use mathlib.Core.List.{List}
use mathlib.Core.Path.{◌≡◌, refl, sym, ◌∙◌}
use lib.ListN.{length}
use lib.Dec.{ltb}
use borrow.Author.Tests.{le-ltb, lt-ltb, le-leb, ltb-true, ltb-false}
use Rattle.model.specs.Refusals.{too_short}
use Rattle.model.specs.Types.{Ty}
use Rattle.format.specs.Reader.{Bytes}
use Rattle.format.specs.Outcome.{Outcome, accepted, refused}
use Rattle.machine.specs.SheetLimits.{max_stack, scratch_bytes, result_bytes, program_bytes}
use Rattle.machine.specs.Sheet.{sheet_run}
use Rattle.machine.specs.Call.{called, write_types, zeroed, sheet_call}
use Rattle.machine.proofs.CallLaws.{Few, run-few}
use Rattle.report.specs.Laid.{Laid}
use Rattle.report.specs.Report.{line_feed, reported, if_room, call_outcome, program_outcome, buffers, program_call, printed}
use Rattle.report.specs.Room.{print_room}
use Rattle.report.proofs.LineLaws.{length-refused, length-accepted}
use Rattle.report.proofs.TextLaws.{laid_then}

module _ (s : List ℕ) where
  -- ---- too long

  pub outcome_long : program_bytes < length s → program_outcome s ≡ refused too_short 0
  unfolding program_outcome
  outcome_long h = rw (lt-ltb program_bytes (length s) h)

  pub call_long : (result scratch : List ℕ) → program_bytes < length s → program_call s result scratch ≡ called (refused too_short 0) result (zeroed scratch)
  unfolding program_call
  call_long result scratch h = rw (lt-ltb program_bytes (length s) h)

  -- ---- any other

  outcome-run : length s ≤ program_bytes → program_outcome s ≡ sheet_run s
  unfolding program_outcome
  outcome-run h = rw (le-ltb program_bytes (length s) h)

  pub call_run : (result scratch : List ℕ) → length s ≤ program_bytes → program_call s result scratch ≡ sheet_call s result scratch
  unfolding program_call
  call_run result scratch h = rw (le-ltb program_bytes (length s) h)

  module _ (small : Bytes s) where
    -- With room in both buffers no refusal is for want of it.
    pub call_roomy : (result scratch : ℕ) → length s ≤ program_bytes → result_bytes max_stack ≤ result → scratch_bytes ≤ scratch → call_outcome s result scratch ≡ program_outcome s
    unfolding call_outcome
    call_roomy result scratch h wide enough = rw (le-ltb scratch scratch_bytes enough) (by (sheet_run s) refl ∙ sym (outcome-run h))
      where
        by : (o : Outcome (List Ty)) → sheet_run s ≡ o → if_room (length s) result o ≡ o
        by (accepted ts) e = rw (le-leb (length (write_types ts)) result (omega (arith, (run-few s small ts e).suffices)))
        by (refused k p) e = refl

    pub reported_room : length (reported line_feed (program_outcome s)) < print_room
    reported_room = by-test (ltb program_bytes (length s)) refl
      where
        room : (o : Outcome (List Ty)) → ((ts : List Ty) → o ≡ accepted ts → Few ts) → length (reported line_feed o) < print_room
        room (refused k p) f = omega (arith, length-refused line_feed k p)
        room (accepted ts) f = omega (arith, length-accepted line_feed ts, (f ts refl).few, (f ts refl).suffices)

        by-test : (t : Bool) → ltb program_bytes (length s) ≡ t → length (reported line_feed (program_outcome s)) < print_room
        by-test true h = rw (outcome_long (ltb-true program_bytes (length s) h)) (omega (arith, length-refused line_feed too_short 0))
        by-test false h = rw (outcome-run (ltb-false program_bytes (length s) h)) (room (sheet_run s) (λ ts e. run-few s small ts e))

  -- ---- the last line feed

  module _ (small : Bytes s) (d : List ℕ) (room : print_room ≤ length d) where
    pub line_ended : {m r : ℕ} {d₁ d₂ : List ℕ} → Laid m 0 d d₁ (reported line_feed (program_outcome s)) → Laid r m d₁ d₂ line_feed → Laid r 0 d d₂ (printed s)
    unfolding printed
    line_ended h k = laid_then 0 d (reported line_feed (program_outcome s)) (omega (arith, reported_room small)) h k

pub ruleset outcomes = (outcome_long, call_long, call_run, call_roomy)
