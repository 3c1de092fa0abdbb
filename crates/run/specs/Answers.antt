-- What the answers of this crate say, in the terms of the definitions: for each case of each, the paper's number and values.
use Rattle.std.specs.Prelude.{ℕ, ◌≤◌, ◌<◌, List, [], map, ◌⊎◌, ◌≡◌, length, take, Result, Ok, Err}
use Rattle.model.specs.Limits.{max_bytes}
use Rattle.model.specs.Types.{Ty}
use Rattle.format.specs.Reader.{Read, stopped}
use Rattle.format.specs.Outcome.{Outcome, accepted, mapped}
use Rattle.machine.specs.Run.{Stack}
use Rattle.machine.specs.Sheet.{State, sheet_from, sheet_run}
use Rattle.machine.specs.Call.{Called, called, Tally, tally, hand_over}
use Rattle.names.specs.Table.{InForce}
use Rattle.stack.specs.Stack.{Memory, full_trays, size, Stacked}
use Rattle.step.specs.Answers.{NameTable}
use Rattle.limits.specs.Answers.{number_of, told}
use Rattle.limits.specs.declared.refusal.Refusal.{Refusal}
use Rattle.run.specs.declared.Left.{Left}
use Rattle.run.specs.declared.Reached.{Reached}

-- ---- the sheet call

-- How many types are left and their bytes in all, or the refusal, beside both buffers.
abbrev pub tallied : Left → Tally
tallied l = tally l.types l.bytes

abbrev pub called_of : Result Left Refusal → List ℕ → List ℕ → Called
called_of r result scratch = called (mapped tallied (told r)) result scratch

-- These are the lengths of the types left, bottom first.
abbrev pub Measures : Result Left Refusal → List ℕ → Outcome (List Ty) → Type 0
Measures (Ok l) lengths o = (ts : List Ty) → o ≡ accepted ts → take l.types lengths ≡ map size ts
Measures (Err r) lengths o = Unit {0}

-- Both, of a call that hands over what the sheet leaves, beside a scratch that is left open.
pub record Answers (r : Result Left Refusal) (out lengths s result : List ℕ) : Type 0 where
  pub called : called_of r out [] ≡ hand_over (length s) (sheet_run s) result []
  pub measured : Measures r lengths (sheet_run s)

-- ---- all steps

-- The stack and the names are those of a state in which so many steps were taken.
pub record InState (m : Memory) (t : NameTable) (reached : Reached) (st : State Stack) : Type 0 where
  pub stacked : Stacked m reached.count st.stack
  pub in_force : InForce m.sheet t.places t.bounds reached.named st.names
  pub steps : st.taken ≡ reached.taken

-- Some steps: stack and names are those of a state from which the rest of the sheet is read, as far as all of it was to be read.
pub record Going (o : Read (State Stack)) (m : Memory) (t : NameTable) (reached : Reached) : Type 0 where
  pub state : State Stack
  pub here : InState m t reached state
  pub same : o ≡ sheet_from m.sheet state reached.at

-- why steps end at a place: there is none left, or the trays have not room for every type, or the buffer that rules write to has not
abbrev pub Ends : Memory → List ℕ → ℕ → Type 0
Ends m out at = (length m.sheet ≤ at) ⊎ ((length m.trays < full_trays) ⊎ (length out < max_bytes))

-- All steps, as far as trays and buffer go.
pub record ReadOn (m : Memory) (t : NameTable) (reached : Reached) (out : List ℕ) (o : Read (State Stack)) : Type 0 where
  pub going : Going o m t reached
  pub ends : Ends m out reached.at

abbrev pub Runs : Result Reached Refusal → Memory → NameTable → List ℕ → Read (State Stack) → Type 0
Runs (Ok reached) m t out o = ReadOn m t reached out o
Runs (Err r) m t out o = o ≡ stopped (number_of r.0) r.1
