-- The step that a refusal's place belongs to is the step that was refused. Whatever the bytes: where a sheet's run is refused, its steps up to
-- one of them are worked, that one is what is refused, and by the place alone the bytes tell its number and its mark. An accepted sheet's
-- length is no step's.
use Prim.Native.Nat.{ℕ, zero, suc, ◌+◌, ◌≤◌, ◌<◌}
use native.Mathlib.Omega.{arith}
use Rattle.std.specs.Prelude.{Bool, true, false, cond, List, [], reverse, refl, leb, ltb}
use Rattle.std.proofs.Math.Option.{none, some}
use Rattle.std.proofs.Math.Path.{◌≡◌}
use Rattle.std.proofs.Common.{sym, ◌∙◌, ap, ap₂, ltb-true}
use Rattle.std.proofs.Math.ListN.{length}
use Rattle.model.specs.Refusals.{underflow, overflow, undeclared, too_many_names}
use Rattle.model.specs.Types.{Ty}
use Rattle.format.specs.Reader.{Read, got, stopped, Reader, and_then, ◌>>=◌, give, stop, need, here}
use Rattle.format.specs.ReaderLaws.{split, needed}
use Rattle.format.specs.Outcome.{accepted, refused, mapped}
use Rattle.machine.specs.SheetLimits.{max_steps, max_stack}
use Rattle.machine.specs.Steps.{takes, height_past}
use Rattle.machine.specs.Run.{Ruling, gives, refuses, Stack}
use Rattle.machine.specs.Written.{WrittenStep}
use Rattle.machine.specs.Names.{is_known, has_room}
use Rattle.machine.specs.Sheet.{State, fresh, work, placed, opcode_from, step_from, written_from, work_from}
use Rattle.machine.specs.Sheet.{to_the_end, sheet_more, sheet_from, outcome_of, sheet_run}
use Rattle.places.specs.Places.{told_step, bare_from, mark_at, end_of_read, end_at, step_on, step_of}
use Rattle.machine.proofs.SheetSteps.{placed-got, written-got}
use Rattle.machine.proofs.StepsTook.{ended_or}
use Rattle.places.proofs.ReadersStay.{stays-opcode, stays_argument}
use Rattle.places.proofs.PlacesLaws.{opcode-past, bare-past, end-past, step_on-end, step_on-here, step_on-next}

-- ---- the claim

-- The first n steps of a sheet, each worked from what the one before it left, the first from the empty stack with no name in force.
unfoldable pub worked : List ℕ → ℕ → Reader (State Stack)
worked s zero = give (fresh [])
worked s (suc n) = do
  st ← worked s n
  here (work_from s st)

-- How the step that begins at a place is refused, after n steps: as it is worked, from its mark to its rule; or as one too many.
pub data StepRefused (s : List ℕ) (k p n : ℕ) (st : State Stack) (at : ℕ) : Type 0 where
  in_work : n < max_steps → work_from s st at at ≡ stopped k p → StepRefused s k p n st at
  too_far : n ≡ max_steps → k ≡ overflow → p ≡ at → StepRefused s k p n st at

-- The refusal k at place p is of the step after so many, which begins at `start`; and the place belongs to that step.
pub record RefusedStep (s : List ℕ) (k p : ℕ) : Type 0 where
  pub before : ℕ
  pub state : State Stack
  pub start : ℕ
  pub reached : worked s before 0 ≡ got state start
  pub begun : start < length s
  pub refusal : StepRefused s k p before state start
  pub told : step_of s p ≡ some (told_step (suc before) (mark_at s start))

-- ---- where a reading stops, by continuation

stop-split : {A B C : Type 0} (r : Read A) {f : A → Reader B} {k p : ℕ} → and_then r f ≡ stopped k p
    → (r ≡ stopped k p → C) → ((a : A) (m : ℕ) → r ≡ got a m → f a m ≡ stopped k p → C) → C
stop-split (got a m) e first second = second a m refl e
stop-split (stopped j q) e first second = first (ap₂ stopped (cc) (cc))

stop-need : {B C : Type 0} (t : Bool) (j q at : ℕ) (m : Reader B) {k p : ℕ} → and_then (need t j q at) (λ _. m) ≡ stopped k p
    → (q ≡ p → C) → (m at ≡ stopped k p → C) → C
stop-need true j q at m e first second = second e
stop-need false j q at m e first second = first (cc)

stop-placed : {A : Type 0} (a : Ruling A) (q at k p : ℕ) → placed a q at ≡ stopped k p → q ≡ p
stop-placed (gives a) q at k p e = let z : ◌≡◌ {A = ℕ} 0 1 = cc in absurd (omega arith)
stop-placed (refuses j) q at k p e = cc

stop-to_end : {A C : Type 0} (s : List ℕ) (a : A) (more : Reader A) (at : ℕ) {k p : ℕ} → to_the_end s a more at ≡ stopped k p
    → (at < length s → more at ≡ stopped k p → C) → C
stop-to_end {A = A} {C = C} s a more at {k} {p} e c = go (ltb at (length s)) refl e
  where
    go : (t : Bool) → ltb at (length s) ≡ t → cond t (more at) (got a at) ≡ stopped k p → C
    go true h e = c (ltb-true at (length s) h) e
    go false h e = let z : ◌≡◌ {A = ℕ} 0 1 = cc in absurd (omega arith)

-- ---- one step

module _ (s : List ℕ) where
  -- A step that is worked is told by its bytes.
  work-bare : (st st₁ : State Stack) (at next : ℕ) → work_from s st at at ≡ got st₁ next → (w : WrittenStep) × (bare_from s at at ≡ got w next)
  unfolding work_from step_from bare_from
  work-bare st st₁ at next e =
      let h = length st.stack in
      split (written_from s h st.names at at) e λ w m e₁ e₂.
      placed-got (work w st) at m e₂ λ _ same.
      written-got s h st.names at at e₁ λ e₃ _ _.
      split (opcode_from s at at) e₃ λ c m₁ e₄ e₅.
      needed (leb (takes c) h) underflow at m₁ _ e₅ λ _ e₆.
      needed (leb (height_past c h) max_stack) overflow at m₁ _ e₆ λ _ e₇.
      (w, rw (e₄, e₇) (ap (got w) same))

  -- It ends where its bytes do, and not past the end of the sheet.
  work-end : (st st₁ : State Stack) (at next : ℕ) → work_from s st at at ≡ got st₁ next → (end_at s at ≡ next) × (next ≤ length s)
  work-end st st₁ at next e =
      let (w, read) = work-bare st st₁ at next e in
      (ap (end_of_read s) read, (bare-past s at w next read).1)

  -- A place of the step that begins at `at`.
  abbrev OfStep : ℕ → ℕ → Type 0
  OfStep at p = (at ≤ p) × (p < end_at s at)

  module _ (at : ℕ) (more : at < length s) where
    -- its first one
    first-place : (p : ℕ) → at ≡ p → OfStep at p
    first-place p e = let past = end-past s at more in (omega arith, rw (← e) past)

    -- where its bytes cannot be read to their end, all up to the length
    unread-place : (k p : ℕ) → bare_from s at at ≡ stopped k p → (at ≤ p) × (p ≤ length s) → OfStep at p
    unread-place k p e h = (h.0, rw e (omega (arith, h.1)))

    -- A step that is refused is so at a place of its own.
    work-place : (st : State Stack) (k p : ℕ) → work_from s st at at ≡ stopped k p → OfStep at p
    unfolding work_from written_from step_from bare_from
    work-place st k p e =
        let h = length st.stack in
        let low : at ≤ at = omega arith in
        let high : at ≤ length s = omega arith in
        stop-split (written_from s h st.names at at) e
        (λ e₁.
        stop-split (step_from s h at at) e₁
        (λ e₂.
        stop-split (opcode_from s at at) e₂
        (λ e₃. unread-place k p (rw e₃) (rw e₃ at ((stays-opcode s at at low high).kept at low high)))
        (λ c m e₃ e₄.
        stop-need (leb (takes c) h) underflow at m _ e₄ (first-place p) λ e₅.
        stop-need (leb (height_past c h) max_stack) overflow at m _ e₅ (first-place p) λ e₆.
        let (two, there) = opcode-past s at at c m e₃ in
        let from : at ≤ m = omega arith in
        unread-place k p (rw (e₃, e₆)) (rw e₆ at ((stays_argument s at at low high c).kept m from there))))
        (λ w m e₂ e₃.
        stop-need (is_known w st.names) undeclared at m _ e₃ (first-place p) λ e₄.
        stop-need (has_room w st.names) too_many_names at m _ e₄ (first-place p) λ e₅.
        let z : ◌≡◌ {A = ℕ} 0 1 = cc in absurd (omega arith)))
        (λ w m e₁ e₂. first-place p (stop-placed (work w st) at m k p e₂))

  -- ---- all steps

  -- From a state that n steps of the sheet come to, with at most m steps more: up to its place the steps were told from one another.
  run-refused : (m n : ℕ) (st : State Stack) (at : ℕ) → worked s n 0 ≡ got st at → n + m ≡ max_steps
      → ((q : ℕ) → at ≤ q → step_of s q ≡ step_on s (length s) n at q) → (k p : ℕ) → sheet_more s m st at ≡ stopped k p → RefusedStep s k p
  unfolding sheet_more worked
  run-refused zero n st at reached left told k p e =
      stop-to_end s st (here (stop overflow)) at e λ more e₁.
      let same : at ≡ p = cc in
      let number : k ≡ overflow = cc in
      let (from, up) = first-place at more p same in
      record {
        before = n;
        state = st;
        start = at;
        reached = reached;
        begun = more;
        refusal = too_far (omega arith) number (sym same);
        told = told p from ∙ step_on-here s (length s) n at p more (omega arith) up;
      }
  run-refused (suc m) n st at reached left told k p e =
      stop-to_end s st (here (work_from s st) >>= λ st₁. sheet_more s m st₁) at e λ more e₁.
      stop-split (work_from s st at at) e₁
      (λ e₂.
      let (from, up) = work-place at more st k p e₂ in
      record {
        before = n;
        state = st;
        start = at;
        reached = reached;
        begun = more;
        refusal = in_work (omega arith) e₂;
        told = told p from ∙ step_on-here s (length s) n at p more (omega arith) up;
      })
      (λ st₁ next e₂ e₃.
      let (end, _) = work-end st st₁ at next e₂ in
      let past = end-past s at more in
      run-refused m (suc n) st₁ next (rw (reached, e₂)) (omega arith)
      (λ q l. told q (omega arith) ∙ rw end at (step_on-next s (length s) n at q more (omega arith) (length s) (omega arith) (omega arith)))
      k p e₃)

  -- Where none is refused, no step has the place after the last byte, nor one past it.
  run-accepted : (m n : ℕ) (st : State Stack) (at : ℕ) → at ≤ length s → ((q : ℕ) → at ≤ q → step_of s q ≡ step_on s (length s) n at q)
      → (st₁ : State Stack) (next : ℕ) → sheet_more s m st at ≡ got st₁ next → (q : ℕ) → length s ≤ q → step_of s q ≡ none
  unfolding sheet_more
  run-accepted zero n st at inside told st₁ next e q past =
      ended_or s st (here (stop overflow)) at e
      (λ end _ _. told q (omega arith) ∙ step_on-end s (length s) n at q end)
      λ more e₁. let z : ◌≡◌ {A = ℕ} 0 1 = cc in absurd (omega arith)
  run-accepted (suc m) n st at inside told st₁ next e q past =
      ended_or s st (here (work_from s st) >>= λ st₂. sheet_more s m st₂) at e
      (λ end _ _. told q (omega arith) ∙ step_on-end s (length s) n at q end)
      λ more e₁.
      split (work_from s st at at) e₁ λ st₂ then e₂ e₃.
      let (end, before-end) = work-end st st₂ at then e₂ in
      let here-past = end-past s at more in
      run-accepted m (suc n) st₂ then before-end
      (λ r l. told r (omega arith) ∙ rw end at (step_on-next s (length s) n at r more (omega arith) (length s) (omega arith) (omega arith)))
      st₁ next e₃ q past

-- Every refusal of a sheet's run is of one step, and its place belongs to that step.
pub refused-step : (s : List ℕ) (k p : ℕ) → sheet_run s ≡ refused k p → RefusedStep s k p
unfolding sheet_run sheet_from worked step_of
refused-step s k p e = go (sheet_more s max_steps (fresh []) 0) refl e
  where
    go : (r : Read (State Stack)) → sheet_more s max_steps (fresh []) 0 ≡ r → mapped (λ st. reverse st.stack) (outcome_of r) ≡ refused k p → RefusedStep s k p
    go (got st next) h e = let z : ◌≡◌ {A = ℕ} 0 1 = cc in absurd (omega arith)
    go (stopped j q) h e =
        let v : j ≡ k = cc in
        let w : q ≡ p = cc in
        run-refused s max_steps 0 (fresh []) 0 refl refl (λ q l. refl) k p (rw (← v, ← w) h)

-- An accepted sheet's length, which is the place of a result too short for its types, is no step's.
pub accepted-past : (s : List ℕ) (ts : List Ty) → sheet_run s ≡ accepted ts → (q : ℕ) → length s ≤ q → step_of s q ≡ none
unfolding sheet_run sheet_from step_of
accepted-past s ts e q past = go (sheet_more s max_steps (fresh []) 0) refl e
  where
    go : (r : Read (State Stack)) → sheet_more s max_steps (fresh []) 0 ≡ r → mapped (λ st. reverse st.stack) (outcome_of r) ≡ accepted ts → step_of s q ≡ none
    go (got st next) h e = run-accepted s max_steps 0 (fresh []) 0 (omega arith) (λ q l. refl) st next h q past
    go (stopped j p) h e = let z : ◌≡◌ {A = ℕ} 0 1 = cc in absurd (omega arith)
