-- When the types on top may be worked on, and what a rule then makes of them, in the terms of the definitions.
use Rattle.std.specs.Prelude.{ℕ, ◌≤◌, List, ◌∷◌, ◌⊎◌}
use Rattle.model.specs.Types.{Ty}
use Rattle.format.specs.Records.{write_ty}
use Rattle.format.specs.Outcome.{Outcome, accepted, refused, mapped}
use Rattle.lent.specs.Written.{Written, Puts, Short}
use Rattle.machine.specs.Run as rules
use Rattle.machine.specs.Run.{gives, refuses, Stack}
use Rattle.stack.specs.Stack.{Memory, Stacked, HasStack, Unpacked}

-- So many types at least, and none of so many on top packed.
pub record Workable (few : ℕ) (m : Memory) (count : ℕ) : Type 0 where
  pub enough : few ≤ count
  pub has : HasStack m count
  pub unpacked : Unpacked few m.ends count

-- a rule's answer as an outcome of its own
abbrev pub at_start : {A : Type 0} → rules.Ruling A → Outcome A
at_start (gives a) = accepted a
at_start (refuses k) = refused k 0

-- What a rule makes of the top, or of the top and the one below, stands at the front of a buffer, unless it is too short.
abbrev pub OfTop : (Ty → Outcome Ty) → Memory → ℕ → Written → List ℕ → Type 0
OfTop f m count w out = (t : Ty) (ts : Stack) → Stacked m count (t ∷ ts) → Puts w out (mapped write_ty (f t)) ⊎ Short w out

abbrev pub OfTwo : (Ty → Ty → Outcome Ty) → Memory → ℕ → Written → List ℕ → Type 0
OfTwo f m count w out = (t u : Ty) (ts : Stack) → Stacked m count (t ∷ u ∷ ts) → Puts w out (mapped write_ty (f t u)) ⊎ Short w out
