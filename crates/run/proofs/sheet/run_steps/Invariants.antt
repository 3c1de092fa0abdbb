use Prim.Native.Nat.{◌-◌}
use Rattle.machine.specs.SheetLimits.{max_steps}
use Rattle.stack.specs.Stack.{memory}
use Rattle.step.specs.Answers.{name_table}
use Rattle.run.proofs.SheetLaws.{GoesOn}
use Rattle.run.proofs.sheet.run_steps.Given as goal

abbrev pub invariant-loop-reached : goal.invariant-loop-reached
invariant-loop-reached l =
    GoesOn (memory l.initial.ends l.initial.lengths l.s l.initial.trays l.initial.scratch) (name_table l.initial.places l.initial.bounds) l.initial.reached
    (memory l.ends l.lengths l.s l.trays l.scratch) (name_table l.places l.bounds) l.reached

abbrev pub decreases-loop-reached : goal.decreases-loop-reached
decreases-loop-reached l = max_steps - l.reached.taken
