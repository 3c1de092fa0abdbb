-- What the sheet call answers, said in words: a refusal that is not 7 is of the step that its place belongs to, and by sheet and place alone its
-- number and its mark are told. 7 is no step's: at 0 it is the scratch that was too short, and at the sheet's length, which belongs to no
-- step then, the result.
use Rattle.std.specs.Prelude.{ℕ, ◌<◌, List, ◌⊎◌, ◌≡◌, length}
use Rattle.std.proofs.Common.{arith, inl, inr, sym, ◌∙◌, ap}
use Rattle.std.proofs.Math.Option.{none}
use Rattle.model.specs.Refusals.{too_short}
use Rattle.model.specs.Types.{Ty}
use Rattle.format.specs.Outcome.{accepted, refused}
use Rattle.machine.specs.SheetLimits.{scratch_bytes}
use Rattle.places.specs.Places.{step_of}
use Rattle.machine.specs.Sheet.{sheet_run}
use Rattle.machine.specs.Call.{Called, write_types, sheet_call}
use Rattle.machine.proofs.CallLaws.{Ways, short_scratch, run_refused, short_result, types_written, call_ways}
use Rattle.places.proofs.RefusedStep.{RefusedStep, refused-step, accepted-past}
use Rattle.demand.specs.Numbers.{answer_in}
use Rattle.demand.proofs.Numbered.{run-numbered}

module _ (s result scratch : List ℕ) (k p : ℕ) (refusal : answer_in (sheet_call s result scratch) ≡ refused k p) where
  -- What the call said, whichever way it went.
  said : {c : Called} → sheet_call s result scratch ≡ c → answer_in c ≡ refused k p
  said e = sym (ap answer_in e) ∙ refusal

  pub call-refused-step : (k ≡ too_short → ⊥) → RefusedStep s k p
  call-refused-step other = go (call_ways s result scratch)
    where
      go : Ways s result scratch → RefusedStep s k p
      go (short_scratch l w) = let e = said w in let seven : k ≡ too_short = cc in absurd (other seven)
      go (run_refused l j q run w) = let e = said w in let number : j ≡ k = cc in let place : q ≡ p = cc in refused-step s k p (rw (number, place) at run)
      go (short_result l ts run m w) = let e = said w in let seven : k ≡ too_short = cc in absurd (other seven)
      go (types_written l ts run m w) = let e = said w in let z : ◌≡◌ {A = ℕ} 0 1 = cc in absurd (omega arith)

  -- The result has too little room for the types left.
  abbrev ShortResult : Type 0
  ShortResult = (ts : List Ty) × (sheet_run s ≡ accepted ts) × (length result < length (write_types ts))

  pub call_seven : k ≡ too_short → ((p ≡ 0) × (length scratch < scratch_bytes)) ⊎ ((p ≡ length s) × ShortResult × (step_of s p ≡ none))
  call_seven seven = go (call_ways s result scratch)
    where
      go : Ways s result scratch → ((p ≡ 0) × (length scratch < scratch_bytes)) ⊎ ((p ≡ length s) × ShortResult × (step_of s p ≡ none))
      go (short_scratch l w) = let e = said w in let place : p ≡ 0 = cc in inl (place, l)
      go (run_refused l j q run w) =
          let e = said w in
          let number : j ≡ too_short = cc in
          let never = (run-numbered s).number_is j q run in
          let z : ◌≡◌ {A = ℕ} 0 1 = cc in absurd (omega arith)
      go (short_result l ts run m w) =
          let e = said w in
          let place : p ≡ length s = cc in
          inr (place, (ts, run, m), accepted-past s ts run p (omega arith))
      go (types_written l ts run m w) = let e = said w in let z : ◌≡◌ {A = ℕ} 0 1 = cc in absurd (omega arith)
