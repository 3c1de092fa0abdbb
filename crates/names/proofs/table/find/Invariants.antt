use Prim.Native.Nat.{ℕ, ◌+◌}
use mathlib.Core.List.{List}
use mathlib.Core.Path.{◌≡◌}
use lib.ListN.{drop}
use Rattle.machine.specs.Written.{TableName}
use Rattle.machine.specs.Names.{Names}
use Rattle.names.specs.Table.{NameStands, InForce, place_of}
use Rattle.names.proofs.table.find.Given as goal

abbrev pub invariant-loop-k : goal.invariant-loop-k
invariant-loop-k l =
    (bounds : List ℕ) (ns : Names) (n : TableName) → InForce l.s l.places bounds l.count ns → NameStands l.s l.name n
    → place_of ns n ≡ l.k + place_of (drop l.k ns) n
