use mathlib.Core.Path.{◌∙◌}
use Rattle.kinds.proofs.PrintLaws.{union_at}
use Rattle.kinds.proofs.printing.number_at.Goals as goal

pub returns-in-Some : goal.returns-in-Some
returns-in-Some c = c.code.ensures ∙ union_at c.args.i c.requires c.if-i.false c.of_code-k.ensures c.of_code-l.ensures c.in-Some.ensures

pub returns-in-None : goal.returns-in-None
returns-in-None c = union_at c.args.i c.requires c.if-i.false c.of_code-k.ensures c.of_code-l.ensures c.in-None.ensures
