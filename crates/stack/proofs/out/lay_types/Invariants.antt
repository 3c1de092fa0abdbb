use mathlib.Core.List.{List}
use Rattle.model.specs.Types.{Ty}
use Rattle.stack.specs.Stack.{memory, Stacked}
use Rattle.stack.proofs.OutLaws.{Laid}
use Rattle.stack.proofs.out.lay_types.Given as goal

abbrev pub invariant-loop-k : goal.invariant-loop-k
invariant-loop-k l = (ts : List Ty) → Stacked (memory l.ends l.lengths l.s l.trays l.scratch) l.count ts → Laid l.count ts l.initial.res l.k l.res l.at
