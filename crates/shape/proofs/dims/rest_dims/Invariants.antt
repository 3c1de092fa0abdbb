use mathlib.Core.Path.{◌≡◌}
use lib.ListN.{length, drop}
use Rattle.record.specs.Answers.{dims_of}
use Rattle.shape.proofs.DimsLaws.{Listed}
use Rattle.shape.proofs.dims.rest_dims.Given as goal

abbrev pub invariant-loop-i : goal.invariant-loop-i
invariant-loop-i l = (length l.sizes ≡ 8) × Listed (drop 1 (dims_of l.d)) l.count l.sizes l.i
