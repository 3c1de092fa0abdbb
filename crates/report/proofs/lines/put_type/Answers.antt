use Rattle.report.proofs.TextLaws.{line_laid}
use borrow.Author.Rules.{rules}
use Rattle.report.proofs.lines.put_type.Goals as goal

pub returns : goal.returns
returns c = search (rules, line_laid)
