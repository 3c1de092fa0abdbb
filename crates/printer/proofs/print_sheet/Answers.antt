use borrow.Author.Rules.{rules}
use native.Mathlib.Omega.{arith}
use Rattle.format.specs.Reader.{Bytes}
use Rattle.printer.proofs.ProgramLaws.{reported_room, line_ended}
use Rattle.printer.proofs.print_sheet.Goals as goal

pub returns-clause-laid : goal.returns-clause-laid
returns-clause-laid c =
    let small : Bytes c.args.sheet.now = λ i. (c.type_inv.sheet i).fits in
    (search (rules, line_ended), grind (arith, reported_room))
