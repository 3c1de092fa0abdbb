-- Document 01, "Thirteen ways of saying no", of each byte of both buffers after the sheet call, whatever the sheet: "Refusals write
-- nothing to the result; scratch bytes 0 to" 25,727, by document 02, 2026-05, "are zero after every call that is lent one, and later ones
-- stay; a short scratch stays as lent. Result bytes past the written length stay." Both are as long as before.
use Rattle.std.specs.Prelude.{ℕ, ◌≤◌, ◌<◌, List, ◌≡◌, length, get_or, drop, replicate}
use Rattle.std.proofs.Common.{arith, sym, ◌∙◌}
use Rattle.std.proofs.lemmas.List.{length-replicate}
use Rattle.std.proofs.Math.ListN.{get_or-replicate, get_or-append}
use Rattle.std.proofs.Math.Seq.{drop_at}
use Rattle.model.specs.Refusals.{too_short}
use Rattle.model.specs.Types.{Ty}
use Rattle.format.specs.Outcome.{Outcome, accepted, refused}
use Rattle.format.specs.DeliverLaws.{front-stays, front_length}
use Rattle.machine.specs.SheetLimits.{scratch_bytes}
use Rattle.machine.proofs.CallLaws.{Ways, short_scratch, run_refused, short_result, types_written, call-refuses, call-lacks, call_writes, call_ways}
use Rattle.machine.specs.Call.{Tally, tally, called, write_types, first_zero, zeroed, at_front, sheet_call}

-- ---- a scratch that was zeroed

module _ (n : ℕ) (d : List ℕ) where
  zeros_length : length (replicate {A = ℕ} n 0) ≡ n
  zeros_length = length-replicate n 0

  zeros_drop : drop n (first_zero n d) ≡ drop n d
  unfolding first_zero
  zeros_drop = drop_at (replicate n 0) (drop n d) n zeros_length

  zeros_front : (i z : ℕ) → i < n → get_or (first_zero n d) i z ≡ 0
  unfolding first_zero
  zeros_front i z h = get_or-append (replicate n 0) (drop n d) z i (rw zeros_length h) ∙ get_or-replicate n i 0 z h

  zeros_behind : (i z : ℕ) → n ≤ i → get_or (first_zero n d) i z ≡ get_or d i z
  unfolding first_zero
  zeros_behind i z h = rw zeros_length at (front-stays (replicate n 0) d i z (rw zeros_length h))

  zeros_same_length : n ≤ length d → length (first_zero n d) ≡ length d
  unfolding first_zero
  zeros_same_length h = rw zeros_length at (front_length (replicate n 0) d (rw zeros_length h))

module _ (d : List ℕ) where
  pub zeroed-drop : drop scratch_bytes (zeroed d) ≡ drop scratch_bytes d
  unfolding zeroed
  zeroed-drop = zeros_drop scratch_bytes d

  -- byte i, with any z for one past the end
  pub zeroed-front : (i z : ℕ) → i < scratch_bytes → get_or (zeroed d) i z ≡ 0
  unfolding zeroed
  zeroed-front i z h = zeros_front scratch_bytes d i z h

  pub zeroed-behind : (i z : ℕ) → scratch_bytes ≤ i → get_or (zeroed d) i z ≡ get_or d i z
  unfolding zeroed
  zeroed-behind i z h = zeros_behind scratch_bytes d i z h

  pub zeroed-length : scratch_bytes ≤ length d → length (zeroed d) ≡ length d
  unfolding zeroed
  zeroed-length h = zeros_same_length scratch_bytes d h

-- ---- the call

-- `NotAccepted`: no acceptance. `AcceptedOf`: no refusal, and an acceptance counts the bytes w.
abbrev NotAccepted : Outcome Tally → Type 0
NotAccepted o = (n b : ℕ) → o ≡ accepted (tally n b) → ⊥

record AcceptedOf (o : Outcome Tally) (w : List ℕ) : Type 0 where
  counts : (n b : ℕ) → o ≡ accepted (tally n b) → length w ≡ b
  accepts : (k p : ℕ) → o ≡ refused k p → ⊥

refused-not : {o : Outcome Tally} (k p : ℕ) → refused k p ≡ o → NotAccepted o
refused-not k p w n b f = let z : ◌≡◌ {A = ℕ} 0 1 = cc in absurd (omega arith)

accepted-of : {o : Outcome Tally} (ts : List Ty) → accepted (tally (length ts) (length (write_types ts))) ≡ o → AcceptedOf o (write_types ts)
accepted-of ts w = record { counts = λ n b g. cc; accepts = λ k p g. let z : ◌≡◌ {A = ℕ} 0 1 = cc in absurd (omega arith) }

module _ (s result scratch : List ℕ) {o : Outcome Tally} {out after : List ℕ} (e : sheet_call s result scratch ≡ called o out after) where
  -- The scratch is short and stays, or is zeroed.
  scratched : {C : Type 0} → (length scratch < scratch_bytes → scratch ≡ after → C) → (scratch_bytes ≤ length scratch → zeroed scratch ≡ after → C) → C
  scratched {C} short long = go (call_ways s result scratch)
    where
      go : Ways s result scratch → C
      go (short_scratch l w) = let h = sym w ∙ e in short l (cc)
      go (run_refused l k p r w) = let h = sym w ∙ e in long l (cc)
      go (short_result l ts r m w) = let h = sym w ∙ e in long l (cc)
      go (types_written l ts r room w) = let h = sym w ∙ e in long l (cc)

  -- The result stays, or bytes stand at its front, which has room for them.
  resulted : {C : Type 0} → (result ≡ out → NotAccepted o → C) → ((w : List ℕ) → length w ≤ length result → at_front w result ≡ out → AcceptedOf o w → C) → C
  resulted {C} stays fills = go (call_ways s result scratch)
    where
      go : Ways s result scratch → C
      go (short_scratch l w) = let h = sym w ∙ e in stays (cc) (refused-not too_short 0 (cc))
      go (run_refused l k p r w) = let h = sym w ∙ e in stays (cc) (refused-not k p (cc))
      go (short_result l ts r m w) = let h = sym w ∙ e in stays (cc) (refused-not too_short (length s) (cc))
      go (types_written l ts r room w) = let h = sym w ∙ e in fills (write_types ts) room (cc) (accepted-of ts (cc))

  -- Of each byte of a scratch that is long enough: zero as far as it is asked for, as lent from there on.
  pub scratch-zero : scratch_bytes ≤ length scratch → (i z : ℕ) → i < scratch_bytes → get_or after i z ≡ 0
  scratch-zero enough i z h = scratched (λ short same. absurd (omega arith)) (λ _ same. rw (← same) (zeroed-front scratch i z h))

  pub scratch-later : scratch_bytes ≤ length scratch → (i z : ℕ) → scratch_bytes ≤ i → get_or after i z ≡ get_or scratch i z
  scratch-later enough i z h = scratched (λ short same. absurd (omega arith)) (λ _ same. rw (← same) (zeroed-behind scratch i z h))

  -- Of a short one: all of it as lent.
  pub scratch-short : length scratch < scratch_bytes → after ≡ scratch
  scratch-short less = scratched (λ _ same. sym same) (λ enough same. absurd (omega arith))

  pub scratch-length : length after ≡ length scratch
  scratch-length = scratched (λ short same. rw (← same)) (λ enough same. rw (← same) (zeroed-length scratch enough))

  -- Of the result, after a refusal: all of it as lent.
  pub result-refused : {k p : ℕ} → o ≡ refused k p → out ≡ result
  result-refused {k} {p} r = resulted (λ same u. sym same) (λ w room fills u. absurd (u.accepts k p r))

  -- Of each byte past the b that were written: as lent.
  pub result-past : {n b : ℕ} → o ≡ accepted (tally n b) → (i z : ℕ) → b ≤ i → get_or out i z ≡ get_or result i z
  result-past {n} {b} r i z h = resulted (λ same u. absurd (u n b r)) (λ w room fills u. rw (← fills) (front-stays w result i z (omega (arith, u.counts n b r))))

  pub result-length : length out ≡ length result
  result-length = resulted (λ same u. rw (← same)) (λ w room fills u. rw (← fills) (front_length w result room))

-- ---- whatever scratch

-- "Every answer is as with the larger one" (document 02, 2026-05): lent as many bytes of scratch as are asked for, a call answers the same and
-- leaves the same in the result, however many more there are and whatever they held.
pub scratch-alike : (s result a b : List ℕ) {o : Outcome Tally} {out after : List ℕ} → scratch_bytes ≤ length a → scratch_bytes ≤ length b
    → sheet_call s result a ≡ called o out after → sheet_call s result b ≡ called o out (zeroed b)
scratch-alike s result a b {o} {out} {after} enough-a enough-b e = go (call_ways s result a)
  where
    go : Ways s result a → sheet_call s result b ≡ called o out (zeroed b)
    go (short_scratch l w) = absurd (omega arith)
    go (run_refused l k p r w) = let h = sym w ∙ e in call-refuses s result b enough-b k p r ∙ cc
    go (short_result l ts r m w) = let h = sym w ∙ e in call-lacks s result b enough-b ts r m ∙ cc
    go (types_written l ts r room w) = let h = sym w ∙ e in call_writes s result b enough-b ts r room ∙ cc
