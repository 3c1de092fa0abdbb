use mathlib.Core.Path.{◌∙◌}
use borrow.Author.Rules.{rules}
use borrow.Author.Tests.{not-true, not-false}
use Rattle.record.specs.Answers.{dims_of}
use Rattle.rules.specs.Sizes.{compatible}
use Rattle.validate.proofs.ShapesLaws.{left-closed, left_open}
use Rattle.validate.proofs.shapes.mismatch_left.Goals.{then-not-t, else-not-t}
use Rattle.validate.proofs.shapes.mismatch_left.Goals as goal

pub returns : goal.returns
returns c =
    let o = dims_of c.args.o in
    let t = c.args.t in
    let sizes = c.agree.ensures compatible (λ x y r e. search rules) in
    c.judge.ensures
    ∙ elim c.if-not-t.branch [
      | then-not-t w ↦ left_open o t (not-true t.closed w.if-not-t.true) (w.few-is ∙ w.if-not-t.true) sizes
      | else-not-t w ↦ left-closed o t (not-false t.closed w.if-not-t.false) w.few-is w.size_count-else-not-t.ensures.0 w.size_count.ensures.0 sizes
    ]
