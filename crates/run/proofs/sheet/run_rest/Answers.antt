use Rattle.run.proofs.SheetLaws.{left_at_end}
use Rattle.run.proofs.sheet.run_rest.Goals as goal

pub returns-then-sheet-from : goal.returns-then-sheet-from
returns-then-sheet-from c = left_at_end c.if-sheet-from.true c.hand_over.ensures
