use Prim.Native.Nat.{◌-◌}
use mathlib.Core.Path.{◌≡◌}
use lib.ListN.{length, take}
use Rattle.model.specs.Types.{Fields, field_count}
use Rattle.validate.specs.Walk.{Going}
use Rattle.validate.specs.Lists.{ListAt}
use Rattle.validate.proofs.copies.copy_fields.Given as goal

abbrev pub invariant-loop : goal.invariant-loop
invariant-loop l =
    (length l.out ≡ length l.initial.out)
    × ((f : Fields) → ListAt l.moves l.s l.start f → field_count f ≡ l.count → Going l.s f (take l.to l.initial.out) l.to l.moves l.at (l.count - l.counter) (take l.end l.out) l.end l.types)
