use Rattle.writer.proofs.Laws.{Laid}
use Rattle.writer.proofs.put_places.Given as goal

abbrev pub invariant-loop-i : goal.invariant-loop-i
invariant-loop-i l = Laid l.initial.out l.start l.d.sizes l.d.count l.out l.i
