use Prim.Native.Nat.{◌-◌}
use mathlib.Core.Path.{◌≡◌}
use Rattle.model.specs.Types.{Fields, field_count}
use Rattle.validate.specs.Lists.{ListAt, Counting}
use Rattle.validate.proofs.lists.types_in.Given as goal

abbrev pub invariant-loop : goal.invariant-loop
invariant-loop l = (f : Fields) → ListAt l.moves l.s l.start f → field_count f ≡ l.count → Counting l.s f l.moves l.at (l.count - l.counter) l.types
