-- A sheet's bytes and lists of steps: an accepted sheet is the bytes of a written list, worked to the types left, and the bytes of a written
-- list get what the steps that it comes to get.
use Rattle.std.specs.Prelude.{ℕ, ◌≡◌, refl, length}
use Rattle.std.proofs.Common.{arith, sym, ◌∙◌, ap}
use mathlib.Core.List.{List, [], reverse, reverse-reverse}
use Rattle.std.proofs.lemmas.List.{length-reverse}
use Rattle.model.specs.Types.{Ty}
use Rattle.model.specs.Within.{All, Within}
use Rattle.format.specs.Reader.{Bytes, Read, got, stopped}
use Rattle.format.specs.Outcome.{accepted, mapped}
use Rattle.rules.proofs.Lists.{all-reverse}
use Rattle.machine.specs.SheetLimits.{max_steps}
use Rattle.machine.specs.Steps.{Step, StepWithin}
use Rattle.machine.specs.Run.{Ruling, gives, refuses, aside, Stack, steps, bottom_first}
use Rattle.machine.specs.Names.{unfolded, SheetOf}
use Rattle.machine.specs.Sheet.{State, fresh, sheet_more, sheet_from, skim_from, outcome_of, sheet_run, skim}
use Rattle.machine.specs.WellFormed.{types_left, Heights}
use Rattle.machine.proofs.StepsTook.{skim-took}
use Rattle.machine.proofs.SheetWorked.{SameAnswer, steps-many, accepted_skims}
use Rattle.machine.proofs.StepsReads.{written-worked, written_skims}
use Rattle.machine.proofs.StepsWithin.{steps-within}
use Rattle.machine.proofs.NamesLaws.{unfold_within}

same-aside : (a : Ruling Stack) (r : Read (State Stack)) → SameAnswer a r → aside (mapped (λ st. reverse st.stack) (outcome_of r)) ≡ bottom_first a
same-aside (gives b) r (st, n, e, w) = rw (e, w)
same-aside (refuses k) r (p, e) = rw e

-- A sheet gets what the steps that it comes to get, the place aside.
pub sheet-steps : (s : List ℕ) (xs : List Step) → SheetOf s xs → aside (sheet_run s) ≡ bottom_first (steps xs [])
unfolding sheet_run sheet_from
sheet-steps s xs h =
    let same = written-worked s h.written (fresh []) max_steps 0 h.few (omega arith) h.within h.names_hold h.bytes in
    rw (← h.comes_to) (same-aside (steps (unfolded [] h.written) []) (sheet_more s max_steps (fresh []) 0) same)

-- An accepted sheet comes to steps that are worked to the types left.
pub accepted-steps : (s : List ℕ) → Bytes s → (ts : List Ty) → sheet_run s ≡ accepted ts → (xs : List Step) × SheetOf s xs × (steps xs [] ≡ gives (reverse ts))
unfolding sheet_run sheet_from skim skim_from
accepted-steps s small ts e = go (sheet_more s max_steps (fresh []) 0) refl e
  where
    go : (r : Read (State Stack)) → sheet_more s max_steps (fresh []) 0 ≡ r → mapped (λ st. reverse st.stack) (outcome_of r) ≡ accepted ts
        → (xs : List Step) × SheetOf s xs × (steps xs [] ≡ gives (reverse ts))
    go (stopped k p) h e = let z : ◌≡◌ {A = ℕ} 0 1 = cc in absurd (omega arith)
    go (got st n) h e =
        let (ws, e₁, e₂) = accepted_skims s max_steps (fresh []) st 0 n h in
        let w : reverse st.stack ≡ ts = cc in
        (unfolded [] ws, (skim-took s small ws (unfolded [] ws) (rw e₁) refl).0, rw (← w, reverse-reverse st.stack) e₂)

-- Steps that lack no types and lay down none too many are read back to the end.
pub skim-steps : (s : List ℕ) (xs : List Step) (h : SheetOf s xs) → Heights xs 0 → skim s ≡ accepted h.written
unfolding skim skim_from
skim-steps s xs h k =
    let (n, e) = written_skims s h.written (fresh 0) max_steps 0 h.few (omega arith) (rw h.comes_to k) h.within h.names_hold h.bytes in
    rw e

-- The steps of a sheet keep every limit.
pub sheet-within : (s : List ℕ) (xs : List Step) → SheetOf s xs → All StepWithin xs
sheet-within s xs h = rw h.comes_to at (unfold_within [] h.written tt h.within)

-- The types left keep every limit.
pub left-within : (s : List ℕ) (xs : List Step) (ts : List Ty) → SheetOf s xs → sheet_run s ≡ accepted ts → (steps xs [] ≡ gives (reverse ts)) × All Within ts
left-within s xs ts h e = go (steps xs []) refl (sym (sheet-steps s xs h) ∙ ap aside e)
  where
    go : (a : Ruling Stack) → steps xs [] ≡ a → bottom_first a ≡ gives ts → (steps xs [] ≡ gives (reverse ts)) × All Within ts
    go (refuses k) f e = let z : ◌≡◌ {A = ℕ} 0 1 = cc in absurd (omega arith)
    go (gives st) f e =
        let w : reverse st ≡ ts = cc in
        (rw (← w, reverse-reverse st) f, rw (← w) (all-reverse Within st (steps-within xs [] st (sheet-within s xs h) tt f)))

-- There are as many as are counted on the reading.
pub left-many : (s : List ℕ) (xs : List Step) (ts : List Ty) → SheetOf s xs → sheet_run s ≡ accepted ts → length ts ≡ types_left xs
left-many s xs ts h e = sym (length-reverse ts) ∙ steps-many xs [] (reverse ts) (left-within s xs ts h e).0
