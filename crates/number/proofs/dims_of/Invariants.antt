use mathlib.Core.Path.{◌≡◌}
use lib.ListN.{length}
use Rattle.model.specs.Limits.{max_sizes}
use Rattle.number.proofs.Walk.{Walked}
use Rattle.number.proofs.dims_of.Given as goal

abbrev pub invariant-loop-i : goal.invariant-loop-i
invariant-loop-i l = record { room : length l.sizes ≡ max_sizes; walked : Walked l.xs l.sizes l.i }
