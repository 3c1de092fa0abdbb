use mathlib.Core.Path.{◌≡◌}
use lib.ListN.{length}
use Rattle.record.specs.Answers.{dims_of}
use Rattle.rules.specs.Shapes.{join_ends}
use Rattle.shape.proofs.DimsLaws.{Listed}
use Rattle.shape.proofs.dims.join_ends.Given as goal

abbrev pub invariant-loop-i : goal.invariant-loop-i
invariant-loop-i l = (length l.sizes ≡ 8) × Listed (join_ends (dims_of l.a) (dims_of l.b)) l.count l.sizes l.i
