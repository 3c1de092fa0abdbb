use mathlib.Core.Bool.{Bool}
use mathlib.Core.Path.{◌≡◌}
use lib.ListN.{drop}
use Rattle.model.specs.Types.{Dim}
use Rattle.record.specs.Answers.{dims_of}
use Rattle.validation.specs.CheckShape.{agree}
use Rattle.validate.specs.Dims.{TestsBy}
use Rattle.validate.proofs.dims.agree.Given as goal

abbrev pub invariant-loop-i : goal.invariant-loop-i
invariant-loop-i g l = (rule : Dim → Dim → Bool) → TestsBy (goal.F-post g l.test) rule → agree rule (dims_of l.a) (dims_of l.b) ≡ agree rule (drop l.i (dims_of l.a)) (drop l.i (dims_of l.b))
