use mathlib.Core.Path.{◌≡◌}
use lib.ListN.{length}
use Rattle.record.specs.Answers.{dims_of}
use Rattle.rules.specs.Shapes.{join_dims}
use Rattle.shape.proofs.DimsLaws.{Listed}
use Rattle.shape.proofs.dims.join_dims.Given as goal

abbrev pub invariant-loop-i : goal.invariant-loop-i
invariant-loop-i l = (length l.sizes ≡ 8) × Listed (join_dims (dims_of l.a) (dims_of l.b)) l.count l.sizes l.i
