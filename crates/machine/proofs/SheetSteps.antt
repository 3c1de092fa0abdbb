-- What a loop over a sheet's steps needs of its reading: where the bytes end, a step past the last one allowed, one step and then
-- the steps after it; and of one step, what each part of its reading answers in turn, and then its rule.
use Prim.Native.Nat.{ℕ, zero, suc, ◌-◌, ◌≤◌, ◌<◌}
use native.Mathlib.Omega.{arith}
use Rattle.std.specs.Prelude.{true, false, List, ◌≡◌, length}
use borrow.Author.Tests.{lt-ltb, le-ltb, le-leb, lt-leb}
use Rattle.model.specs.Refusals.{underflow, overflow, undeclared, too_many_names}
use Rattle.format.specs.Reader.{got, stopped, Reader}
use Rattle.format.specs.ReaderLaws.{split, needed, gave}
use Rattle.machine.specs.SheetLimits.{max_steps, max_stack}
use Rattle.machine.specs.Steps.{Opcode, takes, height_past}
use Rattle.machine.specs.Run.{Ruling, gives, refuses, Stack, steps}
use Rattle.machine.specs.Written.{WrittenStep}
use Rattle.machine.specs.Names.{Names, is_known, has_room, unfolded_step}
use Rattle.machine.specs.Sheet.{State, after_step, steps_left, work, placed, opcode_from, argument_from, step_from, written_from, work_from, to_the_end, sheet_more, skim_more, sheet_from}
use Rattle.machine.proofs.RunLaws.{following-gives}

-- ---- a rule's answer

-- What a rule gives is given at the place reached.
pub placed-got : {A C : Type 0} (a : Ruling A) (p at : ℕ) {b : A} {n : ℕ} → placed a p at ≡ got b n → (a ≡ gives b → at ≡ n → C) → C
placed-got (gives x) p at e k = k (cc) (cc)
placed-got (refuses j) p at e k = let z : ◌≡◌ {A = ℕ} 0 1 = cc in absurd (omega arith)

module _ (s : List ℕ) where
  -- ---- all steps

  pub to_end-end : {A : Type 0} (a : A) (more : Reader A) (at : ℕ) → length s ≤ at → to_the_end s a more at ≡ got a at
  to_end-end a more at h = rw (le-ltb at (length s) h)

  pub to_end-more : {A : Type 0} (a : A) (more : Reader A) (at : ℕ) → at < length s → to_the_end s a more at ≡ more at
  to_end-more a more at h = rw (lt-ltb at (length s) h)

  pub work-taken : (st st₁ : State Stack) (p at n : ℕ) → work_from s st p at ≡ got st₁ n → st₁.taken ≡ suc st.taken
  unfolding work_from
  work-taken st st₁ p at n e =
      split (written_from s (length st.stack) st.names p at) e λ w m e₁ e₂.
      placed-got (work w st) p m e₂ λ e₃ _.
      following-gives (steps (unfolded_step st.names w) st.stack) e₃ λ a _ e₄.
      let v : after_step st w a ≡ st₁ = cc in
      rw (← v)

  more-end : (n : ℕ) (st : State Stack) (at : ℕ) → length s ≤ at → sheet_more s n st at ≡ got st at
  unfolding sheet_more
  more-end zero st at h = rw (le-ltb at (length s) h)
  more-end (suc n) st at h = rw (le-ltb at (length s) h)

  module _ (st : State Stack) (at : ℕ) where
    -- the bytes have ended
    pub sheet_from-end : length s ≤ at → sheet_from s st at ≡ got st at
    unfolding sheet_from
    sheet_from-end h = more-end (steps_left st) st at h

    -- a step past the last one allowed
    pub sheet_from-over : max_steps ≤ st.taken → at < length s → sheet_from s st at ≡ stopped overflow at
    unfolding sheet_from sheet_more
    sheet_from-over l h =
        let none_left : steps_left st ≡ 0 = omega arith in
        rw (none_left, lt-ltb at (length s) h)

    -- one step, and then the steps after it; or its refusal
    pub sheet_from-step : (st₁ : State Stack) (next : ℕ) → st.taken < max_steps → at < length s → work_from s st at at ≡ got st₁ next → sheet_from s st at ≡ sheet_from s st₁ next
    unfolding sheet_from sheet_more
    sheet_from-step st₁ next l h e =
        let one_less : steps_left st ≡ suc (steps_left st₁) = omega (arith, work-taken st st₁ at at next e) in
        rw (one_less, lt-ltb at (length s) h, e)

    pub sheet_from-stop : (k p : ℕ) → st.taken < max_steps → at < length s → work_from s st at at ≡ stopped k p → sheet_from s st at ≡ stopped k p
    unfolding sheet_from sheet_more
    sheet_from-stop k p l h e =
        let one_less : steps_left st ≡ suc (max_steps - suc st.taken) = omega arith in
        rw (one_less, lt-ltb at (length s) h, e)

  -- ---- one step

  -- as it is read on a stack of height h
  module _ (h p at : ℕ) where
    -- the mark
    pub step-unmarked : (k q : ℕ) → opcode_from s p at ≡ stopped k q → step_from s h p at ≡ stopped k q
    unfolding step_from
    step-unmarked k q e = rw e

    module _ (c : Opcode) (next : ℕ) (marked : opcode_from s p at ≡ got c next) where
      -- the stack
      pub step-lacks : h < takes c → step_from s h p at ≡ stopped underflow p
      unfolding step_from
      step-lacks l = rw (marked, lt-leb (takes c) h l)

      pub step-overfull : takes c ≤ h → max_stack < height_past c h → step_from s h p at ≡ stopped overflow p
      unfolding step_from
      step-overfull l r = rw (marked, le-leb (takes c) h l, lt-leb (height_past c h) max_stack r)

      -- the step's bytes
      pub step_argument : takes c ≤ h → height_past c h ≤ max_stack → step_from s h p at ≡ argument_from s c p next
      unfolding step_from
      step_argument l r = rw (marked, le-leb (takes c) h l, le-leb (height_past c h) max_stack r)

  -- with the names in force
  module _ (h : ℕ) (names : Names) (p at : ℕ) where
    pub written-unread : (k q : ℕ) → step_from s h p at ≡ stopped k q → written_from s h names p at ≡ stopped k q
    unfolding written_from
    written-unread k q e = rw e

    module _ (w : WrittenStep) (end : ℕ) (e : step_from s h p at ≡ got w end) where
      pub written-unknown : is_known w names ≡ false → written_from s h names p at ≡ stopped undeclared p
      unfolding written_from
      written-unknown u = rw (e, u)

      pub written_crowded : is_known w names ≡ true → has_room w names ≡ false → written_from s h names p at ≡ stopped too_many_names p
      unfolding written_from
      written_crowded u l = rw (e, u, l)

      pub written_read : is_known w names ≡ true → has_room w names ≡ true → written_from s h names p at ≡ got w end
      unfolding written_from
      written_read u l = rw (e, u, l)

    -- what was read is known, and not one too many
    pub written-got : {C : Type 0} {w : WrittenStep} {n : ℕ} → written_from s h names p at ≡ got w n
        → (step_from s h p at ≡ got w n → is_known w names ≡ true → has_room w names ≡ true → C) → C
    unfolding written_from
    written-got {w = w} {n = n} e k =
        split (step_from s h p at) e λ v m e₁ e₂.
        needed (is_known v names) undeclared p m _ e₂ λ a e₃.
        needed (has_room v names) too_many_names p m _ e₃ λ b e₄.
        gave e₄ λ x y.
        k (rw (← x, ← y) e₁) (rw (← x) a) (rw (← x) b)

  -- Read with the rules passed over, a sheet still meets 15 and 16.
  module _ (most : ℕ) (st : State ℕ) (at : ℕ) (w : WrittenStep) (end : ℕ) (more : at < length s) (e : step_from s st.stack at at ≡ got w end) where
    pub skim-unknown : is_known w st.names ≡ false → skim_more s (suc most) st at ≡ stopped undeclared at
    unfolding skim_more
    skim-unknown u = rw (lt-ltb at (length s) more, written-unknown st.stack st.names at at w end e u)

    pub skim_crowded : is_known w st.names ≡ true → has_room w st.names ≡ false → skim_more s (suc most) st at ≡ stopped too_many_names at
    unfolding skim_more
    skim_crowded u l = rw (lt-ltb at (length s) more, written_crowded st.stack st.names at at w end e u l)

  -- as it is worked from a state
  module _ (st : State Stack) (p at : ℕ) where
    pub work-unread : (k q : ℕ) → written_from s (length st.stack) st.names p at ≡ stopped k q → work_from s st p at ≡ stopped k q
    unfolding work_from
    work-unread k q e = rw e

    module _ (w : WrittenStep) (end : ℕ) (e : written_from s (length st.stack) st.names p at ≡ got w end) where
      pub work_rule : work_from s st p at ≡ placed (work w st) p end
      unfolding work_from
      work_rule = rw e
