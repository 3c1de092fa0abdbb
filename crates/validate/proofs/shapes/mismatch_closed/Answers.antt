use mathlib.Core.Path.{◌∙◌}
use borrow.Author.Rules.{rules}
use Rattle.record.specs.Answers.{dims_of}
use Rattle.rules.specs.Sizes.{compatible}
use Rattle.validate.proofs.ShapesLaws.{closed-unsided}
use Rattle.validate.proofs.shapes.mismatch_closed.Goals as goal

pub returns : goal.returns
returns c =
    let args = c.args in
    c.judge.ensures ∙ closed-unsided (dims_of args.o) (dims_of args.dims) c.size_count.ensures.0 c.size_count-2.ensures.0 (c.agree.ensures compatible (λ x y r e. search rules))
