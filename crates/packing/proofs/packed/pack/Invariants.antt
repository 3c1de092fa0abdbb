use Prim.Native.Nat.{◌-◌}
use lib.ListN.{length}
use Rattle.packing.specs.Layouts.{as_record, as_packed}
use Rattle.packing.proofs.TypeLaws.{TypesLeft}
use Rattle.packing.proofs.packed.pack.Given as goal

abbrev pub invariant-loop-left : goal.invariant-loop-left
invariant-loop-left l = TypesLeft as_record as_packed l.ty 0 l.initial.out l.at l.out l.from l.to l.left

abbrev pub decreases-loop-left : goal.decreases-loop-left
decreases-loop-left l = length l.ty - l.from
