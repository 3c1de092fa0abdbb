use borrow.Author.Rules.{rules}
use Rattle.printer.proofs.InputLaws.{prints_text}
use Rattle.printer.proofs.print_input.Goals as goal

pub returns-in_default : goal.returns-in_default
returns-in_default c = search (rules, prints_text)
