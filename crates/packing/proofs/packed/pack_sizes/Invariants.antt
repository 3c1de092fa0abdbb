use Rattle.packing.specs.Layouts.{as_record, as_packed}
use Rattle.packing.proofs.SizeLaws.{SizesLeft}
use Rattle.packing.proofs.packed.pack_sizes.Given as goal

abbrev pub invariant-loop : goal.invariant-loop
invariant-loop l = SizesLeft as_record as_packed l.s l.start l.initial.out l.place l.count l.out l.from l.to l.counter
