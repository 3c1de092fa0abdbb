-- A sheet's run against the run of a list of steps: the height that each step leaves, and that an accepted sheet, read to the end
-- with the rules passed over, gives steps that are worked to the same stack.
use Prim.Native.Nat.{ℕ, zero, suc, ◌≤◌}
use Rattle.std.proofs.Common.{arith, ◌∙◌}
use Rattle.std.specs.Prelude.{true, refl}
use mathlib.Core.List.{List, [], ◌∷◌}
use Rattle.std.proofs.Math.Path.{◌≡◌, ap}
use Rattle.std.proofs.Math.ListN.{length}
use Rattle.model.specs.Refusals.{overflow}
use Rattle.format.specs.Reader.{Read, got, stopped, Reader, and_then, ◌>>=◌, stop, here}
use Rattle.format.specs.ReaderLaws.{split}
use Rattle.machine.specs.Steps.{Step, opcode_of, takes, height_past}
use Rattle.machine.specs.Run.{Ruling, gives, refuses, following, Stack, rule_of, step, steps}
use Rattle.machine.specs.Written.{WrittenStep, written_as}
use Rattle.machine.specs.Names.{Names, names_past, is_known, unfolded_step, unfolded}
use Rattle.machine.specs.Sheet.{State, after_step, on_stack, work, placed, written_from, work_from, sheet_more, skim_more}
use Rattle.machine.specs.WellFormed.{height_after}
use Rattle.machine.proofs.SheetSteps.{placed-got, to_end-end, to_end-more, written-got}
use Rattle.machine.proofs.RunLaws.{steps_append, following-gives}
use Rattle.machine.proofs.NamesLaws.{unfold_height}
use Rattle.machine.proofs.RuleOn.{rule_takes, lays_one, rule_on_height}
use Rattle.machine.proofs.StepsTook.{ended_or, step_and_more}

-- ---- heights

pub step_height : (x : Step) (st st₁ : Stack) → step x st ≡ gives st₁ → length st₁ ≡ height_past (opcode_of x) (length st)
unfolding step
step_height x st st₁ e = rw (rule_takes x, lays_one x) (rule_on_height (rule_of x) st st₁ e).1

-- A step that its rule works has all the types that it takes.
pub step-takes : (x : Step) (st st₁ : Stack) → step x st ≡ gives st₁ → takes (opcode_of x) ≤ length st
unfolding step
step-takes x st st₁ e = rw (rule_takes x) (rule_on_height (rule_of x) st st₁ e).0

-- Steps that are worked to their end leave as many types as are counted.
pub steps-many : (xs : List Step) (st st₁ : Stack) → steps xs st ≡ gives st₁ → length st₁ ≡ height_after xs (length st)
unfolding steps
steps-many [] st st₁ e = let w : st ≡ st₁ = cc in rw (← w)
steps-many (x ∷ xs) st st₁ e = following-gives (step x st) e λ st₂ e₁ e₂. rw (step_height x st st₂ e₁) at (steps-many xs st₂ st₁ e₂)

-- So does a written step.
unfolded-many : (ns : Names) (w : WrittenStep) (st st₁ : Stack) → is_known w ns ≡ true → steps (unfolded_step ns w) st ≡ gives st₁ → length st₁ ≡ height_past (written_as w) (length st)
unfolded-many ns w st st₁ known e = steps-many (unfolded_step ns w) st st₁ e ∙ unfold_height ns w (length st) known

-- ---- the same answer

-- The same answer, the place aside.
abbrev pub SameAnswer : Ruling Stack → Read (State Stack) → Type 0
SameAnswer (gives a) r = (st : State Stack) × (n : ℕ) × (r ≡ got st n) × (st.stack ≡ a)
SameAnswer (refuses k) r = (p : ℕ) × (r ≡ stopped k p)

-- the rest of a sheet, after a step's rule has answered
pub same_after : (s : List ℕ) (n : ℕ) (xs : List Step) (st : State Stack) (w : WrittenStep) (a : Ruling Stack) (p at : ℕ)
    → ((b : Stack) → a ≡ gives b → SameAnswer (steps xs b) (sheet_more s n (after_step st w b) at))
    → SameAnswer (following a (λ b. steps xs b)) (and_then (placed (following a (λ b. gives (after_step st w b))) p at) (λ st₁. sheet_more s n st₁))
same_after s n xs st w (gives b) p at k = k b refl
same_after s n xs st w (refuses j) p at k = (p, refl)

module _ (s : List ℕ) where
  abbrev pub work_and_more : ℕ → State Stack → Reader (State Stack)
  work_and_more most st = do
    st₁ ← here (work_from s st)
    sheet_more s most st₁

  -- ---- an accepted sheet is read to the end

  pub accepted_skims : (most : ℕ) (st st₁ : State Stack) (at n : ℕ) → sheet_more s most st at ≡ got st₁ n
      → (ws : List WrittenStep) × (skim_more s most (on_stack length st) at ≡ got ws n) × (steps (unfolded st.names ws) st.stack ≡ gives st₁.stack)
  unfolding skim_more sheet_more work_from steps unfolded
  accepted_skims zero st st₁ at n e =
      ended_or s st (here (stop overflow)) at e
      (λ end x y. ([], to_end-end s [] (here (stop overflow)) at end ∙ ap (got []) y, ap (λ z. gives z.stack) x))
      (λ _ e₁. let z : ◌≡◌ {A = ℕ} 0 1 = cc in absurd (omega arith))
  accepted_skims (suc most) st st₁ at n e =
      ended_or s st (work_and_more most st) at e
      (λ end x y. ([], to_end-end s [] (step_and_more s most (on_stack length st)) at end ∙ ap (got []) y, ap (λ z. gives z.stack) x))
      (λ more e₁.
      split (work_from s st at at) e₁ λ st₂ m₂ e₂ e₃.
      split (written_from s (length st.stack) st.names at at) e₂ λ w m e₄ e₅.
      written-got s (length st.stack) st.names at at e₄ λ _ known _.
      placed-got (work w st) at m e₅ λ k x.
      following-gives (steps (unfolded_step st.names w) st.stack) k λ a k₁ k₂.
      let v : after_step st w a ≡ st₂ = cc in
      let high : length a ≡ height_past (written_as w) (length st.stack) = unfolded-many st.names w st.stack a known k₁ in
      let (ws, e₆, e₇) = accepted_skims most (after_step st w a) st₁ m₂ n (rw v e₃) in
      let rest = unfolded (names_past w st.names) ws in
      (w ∷ ws, to_end-more s [] (step_and_more s most (on_stack length st)) at more ∙ rw (e₄, x, ← high, e₆), steps_append (unfolded_step st.names w) rest st.stack ∙ rw k₁ e₇))
