use borrow.Author.Rules.{rules}
use Rattle.report.proofs.LineLaws.{shown_all}
use Rattle.report.proofs.lines.put_types.Goals as goal

pub returns : goal.returns
returns c = search (rules, shown_all)
