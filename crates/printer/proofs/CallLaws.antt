-- From what the sheet check answered to the call's outcome, and the types left as their bytes stand in the result.
use Prim.Native.Nat.{ℕ, ◌*◌, ◌≤◌}
use native.Mathlib.Omega.{arith}
use native.Mathlib.Nat.{mul-le-mul_right}
use mathlib.Core.Bool.{Bool, true, false, cond}
use mathlib.Core.List.{List, map}
use mathlib.Core.Path.{◌≡◌, refl, sym, ◌∙◌, ap, subst}
use lib.ListN.{length, take, length-take}
use lib.Seq.{length-take-le}
use lib.Dec.{leb, ltb}
use Rattle.model.specs.Refusals.{too_short}
use Rattle.model.specs.Types.{Ty}
use Rattle.format.specs.Reader.{Bytes}
use Rattle.format.specs.Records.{write_ty}
use Rattle.format.specs.Outcome.{Outcome, accepted, refused, mapped}
use Rattle.machine.specs.SheetLimits.{max_stack, scratch_bytes, result_bytes}
use Rattle.machine.specs.Sheet.{sheet_run}
use Rattle.machine.specs.Call.{Tally, tally, Called, called, write_types, zeroed, at_front, hand_over, sheet_call}
use Rattle.machine.proofs.CallLaws.{LeftBy, call-left}
use Rattle.report.specs.Laid.{Laid}
use Rattle.report.specs.Left.{LeftIs, Left}
use Rattle.report.specs.Report.{reported, if_room, call_outcome}

-- ---- the outcome of a call with buffers of any length

-- an outcome's text at the front of a buffer
abbrev pub Reports : List ℕ → ℕ → List ℕ → List ℕ → Outcome (List Ty) → Type 0
Reports between r d d₁ o = Laid r 0 d d₁ (reported between o)

abbrev tallied : List Ty → Tally
tallied ts = tally (length ts) (length (write_types ts))

abbrev answer_of : Called → Outcome Tally
answer_of (called o result scratch) = o

module _ (s result scratch : List ℕ) where
  -- types that have room in the result, or not
  abbrev offered : List Ty → Bool → Called
  offered ts b = cond b (called (accepted (tallied ts)) (at_front (write_types ts) result) (zeroed scratch)) (called (refused too_short (length s)) result (zeroed scratch))

  call_answers : answer_of (sheet_call s result scratch) ≡ mapped tallied (call_outcome s (length result) (length scratch))
  unfolding sheet_call call_outcome hand_over
  call_answers = by (ltb (length scratch) scratch_bytes) (sheet_run s)
    where
      fits : (ts : List Ty) (b : Bool) → answer_of (offered ts b) ≡ mapped tallied (cond b (accepted ts) (refused too_short (length s)))
      fits ts true = refl
      fits ts false = refl

      by : (b : Bool) (o : Outcome (List Ty)) → answer_of (cond b (called (refused too_short 0) result scratch) (hand_over (length s) o result (zeroed scratch)))
          ≡ mapped tallied (cond b (refused too_short 0) (if_room (length s) (length result) o))
      by true o = refl
      by false (accepted ts) = fits ts (leb (length (write_types ts)) (length result))
      by false (refused k p) = refl

  -- an outcome with types left is that of the run
  accepted-run : {ts us : List Ty} → call_outcome s (length result) (length scratch) ≡ accepted us → sheet_run s ≡ accepted ts → us ≡ ts
  unfolding call_outcome
  accepted-run {ts} {us} e run = by (ltb (length scratch) scratch_bytes) (rw run at e)
    where
      fits : (b : Bool) → cond b (accepted ts) (refused too_short (length s)) ≡ accepted us → us ≡ ts
      fits true e = let x : ts ≡ us = cc in sym x
      fits false e = let z : ◌≡◌ {A = ℕ} 0 1 = cc in absurd (omega arith)

      by : (b : Bool) → cond b (refused too_short 0) (if_room (length s) (length result) (accepted ts)) ≡ accepted us → us ≡ ts
      by true e = let z : ◌≡◌ {A = ℕ} 0 1 = cc in absurd (omega arith)
      by false e = fits (leb (length (write_types ts)) (length result)) e

  abbrev outcome : Outcome (List Ty)
  outcome = call_outcome s (length result) (length scratch)

  module _ (out after : List ℕ) where
    pub refused_outcome : (k p : ℕ) → called (refused k p) out after ≡ sheet_call s result scratch → call_outcome s (length result) (length scratch) ≡ refused k p
    refused_outcome k p e = by outcome (ap answer_of e ∙ call_answers)
      where
        by : (o : Outcome (List Ty)) → refused k p ≡ mapped tallied o → o ≡ refused k p
        by (refused j q) e = let x : j ≡ k = cc in let y : q ≡ p = cc in rw (x, y)
        by (accepted ts) e = let z : ◌≡◌ {A = ℕ} 0 1 = cc in absurd (omega arith)

    left-outcome : {n b : ℕ} {ts : List Ty} → called (accepted (tally n b)) out after ≡ sheet_call s result scratch → LeftBy s n b out ts → outcome ≡ accepted ts
    left-outcome {n} {b} {ts} e l = by outcome refl (ap answer_of e ∙ call_answers)
      where
        by : (o : Outcome (List Ty)) → outcome ≡ o → accepted (tally n b) ≡ mapped tallied o → o ≡ accepted ts
        by (refused j q) is e = let z : ◌≡◌ {A = ℕ} 0 1 = cc in absurd (omega arith)
        by (accepted us) is e = ap accepted (accepted-run is l.run)

    -- ---- what the check answered

    module _ (n b : ℕ) (small : Bytes s) (e : called (accepted (tally n b)) out after ≡ sheet_call s result scratch) where
      -- The bytes of the types left are in the result, and few.
      pub left_front : (called (accepted (tally n b)) out after ≡ sheet_call s result scratch) × (length (take b out) ≡ b) × (b ≤ length out) × ((k : ℕ) → n * k ≤ max_stack * k) × (b ≤ result_bytes max_stack)
      left_front =
          call-left s result scratch small e λ ts l.
          let inside : b ≤ length out = omega (arith, l.bytes, ap length l.front, length-take b out) in
          let few : n ≤ max_stack = omega (arith, l.count, l.kept.few) in
          (e, length-take-le b out inside, inside, λ k. mul-le-mul_right k few, omega (arith, l.bytes, l.kept.suffices))

      module _ (lengths : List ℕ) (measured : (ts : List Ty) → sheet_run s ≡ accepted ts → take n lengths ≡ map (λ t. length (write_ty t)) ts) where
        pub left_there : Left (take b out) lengths n
        left_there =
            call-left s result scratch small e λ ts l.
            record { types = ts; there = record { bytes = l.front; count = l.count; sizes = measured ts l.run } }

        pub left_reported : (between : List ℕ) (r : ℕ) (d d₁ : List ℕ) → ((ts : List Ty) → LeftIs (take b out) lengths n ts → Reports between r d d₁ (accepted ts)) → Reports between r d d₁ outcome
        left_reported between r d d₁ f =
            call-left s result scratch small e λ ts l.
            subst (Reports between r d d₁) (sym (left-outcome e l)) (f ts record { bytes = l.front; count = l.count; sizes = measured ts l.run })

pub ruleset calling = (refused_outcome, left_front, left_there)
