use Rattle.kinds.proofs.PrintLaws.{Lines}
use Rattle.kinds.proofs.printing.put_table.Given as goal

abbrev pub invariant-loop-i : goal.invariant-loop-i
invariant-loop-i l = Lines l.initial.out l.out l.i l.end
