use mathlib.Core.List.{reverse}
use mathlib.Core.Path.{ap, ◌∙◌}
use lib.ListN.{drop}
use borrow.Author.Rules.{rules}
use Rattle.record.specs.Answers.{dims_of}
use Rattle.validation.specs.CheckShape.{agree, equal_dim}
use Rattle.validate.proofs.DimsLaws.{equal_numbers}
use Rattle.validate.proofs.ShapesLaws.{opening_decides, closing_decide}
use Rattle.validate.proofs.shapes.open_agrees.Goals as goal

pub returns-then-agree : goal.returns-then-agree
returns-then-agree c =
    let args = c.args in
    let opening = c.agree.ensures equal_dim (λ x y r e. search (rules, equal_numbers)) in
    let closing = c.agree_ends.ensures equal_dim (λ x y r e. search (rules, equal_numbers)) in
    closing_decide (dims_of args.o) (dims_of args.dims) (dims_of args.suffix) opening c.if-agree.true
    (closing ∙ ap (λ n. agree equal_dim (reverse (dims_of args.suffix)) (reverse (drop n (dims_of args.o)))) c.size_count.ensures.0)

pub returns-else-agree : goal.returns-else-agree
returns-else-agree c =
    let args = c.args in
    let opening = c.agree.ensures equal_dim (λ x y r e. search (rules, equal_numbers)) in
    opening_decides (dims_of args.o) (dims_of args.dims) (dims_of args.suffix) opening c.if-agree.false
