-- What one step comes to, in the terms of the definitions: for each case of each answer, the paper's number and values.
use Rattle.std.specs.Prelude.{ℕ, ◌-◌, ◌≤◌, ◌<◌, List, ◌⊎◌, ◌≡◌, length, drop, Result, Ok, Err}
use Rattle.std.proofs.Math.Option.{Option, none, some}
use Rattle.model.specs.Limits.{max_bytes}
use Rattle.model.specs.Types.{Ty}
use Rattle.model.specs.Within.{Within}
use Rattle.format.specs.Reader.{Read, got, stopped}
use Rattle.format.specs.Records.{write_ty}
use Rattle.format.specs.Outcome.{Outcome, accepted, mapped}
use Rattle.limits.specs.Answers.{number_of}
use Rattle.limits.specs.declared.refusal.Refusal.{Refusal}
use Rattle.limits.specs.declared.refusal.Reason.TheVariants.{Undeclared, TooManyNames}
use Rattle.lent.specs.Written.{Written, Puts, Short}
use Rattle.machine.specs.SheetLimits.{max_stack, max_names}
use Rattle.machine.specs.Steps.{Step, put}
use Rattle.machine.specs.Run as rules
use Rattle.machine.specs.Run.{aside, Stack, onto, step}
use Rattle.machine.specs.Names.{Names}
use Rattle.machine.specs.Sheet.{State, placed, work_from}
use Rattle.names.specs.Table.{InForce}
use Rattle.stack.specs.Stack.{Memory, Stacked, HasStack, FitTrays}
use Rattle.step.specs.declared.Worked.{Worked}
use Rattle.step.specs.declared.Stepped.{Stepped}

-- Of each name in force, where its length stands in the sheet and where its type ends.
pub record NameTable : Type 0 where
  pub places : List ℕ
  pub bounds : List ℕ

abbrev pub name_table : List ℕ → List ℕ → NameTable
name_table places bounds = record { places = places; bounds = bounds }

-- The rule of one step: the place reached, where the stack is the one that it gives, or the refusal.
abbrev pub Works : Result Worked Refusal → Memory → Read Stack → Type 0
Works (Ok w) m o = (ts : Stack) × (o ≡ got ts w.at) × Stacked m w.count ts
Works (Err r) m o = o ≡ stopped (number_of r.0) r.1

-- One step: the place reached, where stack and names are those of the state that was read, or the refusal.
abbrev pub StepsTo : Result Stepped Refusal → Memory → NameTable → Read (State Stack) → Type 0
StepsTo (Ok w) m t o = (st : State Stack) × (o ≡ got st w.at) × Stacked m w.count st.stack × InForce m.sheet t.places t.bounds w.named st.names
StepsTo (Err r) m t o = o ≡ stopped (number_of r.0) r.1

-- What waits for a longer buffer: its own place is answered, and the stack is what it was, though types may lie elsewhere.
pub record Waits (m : Memory) (count reached at : ℕ) (out : List ℕ) (ts : Stack) : Type 0 where
  pub answer : reached ≡ at
  pub stacked : Stacked m count ts
  pub short : length out < max_bytes

abbrev pub RuleWaits : Result Worked Refusal → Memory → ℕ → List ℕ → Stack → Type 0
RuleWaits (Ok w) m at out ts = Waits m w.count w.at at out ts
RuleWaits (Err r) m at out ts = ⊥

abbrev pub StepWaits : Result Stepped Refusal → Memory → NameTable → ℕ → List ℕ → State Stack → Type 0
StepWaits (Ok w) m t at out st = Waits m w.count w.at at out st.stack × InForce m.sheet t.places t.bounds w.named st.names
StepWaits (Err r) m t at out st = ⊥

-- One step from a state, its mark at `at`; or it waits, and the names are what they were too.
abbrev pub StepsOrWaits : Result Stepped Refusal → Memory → NameTable → ℕ → List ℕ → State Stack → Type 0
StepsOrWaits r m t at out st = StepsTo r m t (work_from m.sheet st at at) ⊎ StepWaits r m t at out st

-- a rule's answer beside the number of names in force
abbrev pub with_names : Result Worked Refusal → ℕ → Result Stepped Refusal
with_names (Ok w) named = Ok (record { at = w.at; count = w.count; named = named })
with_names (Err r) named = Err r

-- So many types on the stack at least, and trays with room for those on top.
pub record Ready (few : ℕ) (m : Memory) (count : ℕ) : Type 0 where
  pub enough : few ≤ count
  pub has : HasStack m count
  pub fit : FitTrays m.lengths m.trays count

-- A step's rule, worked on any stack that it is: its mark stands at `at`, its bytes end at `next`.
abbrev pub StepWorks : Step → ℕ → ℕ → Memory → ℕ → Result Worked Refusal → Memory → Type 0
StepWorks x at next m count r m₁ =
    (ts : Stack) → Stacked m count ts → Works r m₁ (placed (step x ts) at next)

-- The same of one whose rule writes to a buffer; or it waits.
abbrev pub RuleWorks : Step → ℕ → ℕ → Memory → ℕ → List ℕ → Result Worked Refusal → Memory → Type 0
RuleWorks x at next m count out r m₁ =
    (ts : Stack) → Stacked m count ts → Works r m₁ (placed (step x ts) at next) ⊎ RuleWaits r m₁ at out ts

-- ---- names

-- A use: the put of the type in force, or its refusal.
abbrev pub UseWorks : Option Ty → ℕ → ℕ → Memory → ℕ → Result Worked Refusal → Memory → Type 0
UseWorks (some t) at next m count r m₁ = StepWorks (put t) at next m count r m₁
UseWorks none at next m count r m₁ = r ≡ Err (record { 0 = Undeclared; 1 = at })

-- A declaration: these names are in force and not one too many, beside as many types as before; or its refusal.
abbrev pub NameKept : Result Stepped Refusal → List ℕ → NameTable → ℕ → ℕ → ℕ → Names → Type 0
NameKept (Ok w) s t count at next ns = (w.at ≡ next) × (w.count ≡ count) × InForce s t.places t.bounds w.named ns
NameKept (Err r) s t count at next ns = (r ≡ record { 0 = TooManyNames; 1 = at }) × (max_names < length ns)

-- ---- a rule

-- A rule's outcome for the types above the k lowest of so many stands at the front of a buffer, unless it is too short.
pub record Ruled (count k : ℕ) (w : Written) (out : List ℕ) (o : Outcome Ty) : Type 0 where
  pub within : (t : Ty) → o ≡ accepted t → Within t
  pub given : Puts w out (mapped write_ty o) ⊎ Short w out
  pub low : k < max_stack
  pub there : k ≤ count

-- the stack after a rule's outcome took the place of so many types on top
abbrev pub after_rule : Stack → ℕ → Outcome Ty → rules.Ruling Stack
after_rule ts few o = onto (drop few ts) (aside o)

-- It takes their place, whatever the stack is; or it waits for a longer buffer.
abbrev pub LaysDown : Memory → ℕ → ℕ → Written → List ℕ → ℕ → ℕ → Result Worked Refusal → Memory → Type 0
LaysDown m count k w out at next r m₁ =
    (ts : Stack) (o : Outcome Ty) → Stacked m count ts → Ruled count k w out o
    → Works r m₁ (placed (after_rule ts (count - k) o) at next) ⊎ RuleWaits r m₁ at out ts
