use Rattle.record.specs.Answers.{dims_of}
use Rattle.shape.proofs.DimsLaws.{LastPass}
use Rattle.shape.proofs.dims.compatible_dims.Given as goal

abbrev pub invariant-loop-behind : goal.invariant-loop-behind
invariant-loop-behind l = LastPass (dims_of l.a) (dims_of l.b) l.behind
