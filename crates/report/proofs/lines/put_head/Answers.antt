use Rattle.report.proofs.TextLaws.{head_laid}
use borrow.Author.Rules.{rules}
use Rattle.report.proofs.lines.put_head.Goals as goal

pub returns : goal.returns
returns c = search (rules, head_laid)
