use mathlib.Core.Path.{◌∙◌}
use borrow.Author.Rules.{rules}
use Rattle.record.specs.Answers.{dims_of}
use Rattle.rules.specs.Sizes.{compatible}
use Rattle.validate.proofs.ShapesLaws.{right_closed, right_open}
use Rattle.validate.proofs.shapes.mismatch_right.Goals as goal

pub returns-then-t : goal.returns-then-t
returns-then-t c =
    let sizes = c.agree_ends.ensures compatible (λ x y r e. search rules) in
    c.judge.ensures ∙ right_closed (dims_of c.args.o) c.args.t c.if-t.true c.size_count-then-t.ensures.0 c.size_count.ensures.0 sizes

pub returns : goal.returns
returns c =
    let sizes = c.agree_ends-2.ensures compatible (λ x y r e. search rules) in
    c.judge-2.ensures
    ∙ right_open (dims_of c.args.o) c.args.t c.if-t.false c.size_count-2.ensures.0 c.size_count-3.ensures.0 c.size_count-4.ensures.0 sizes
