use native.Mathlib.Omega.{arith}
use Rattle.run.proofs.SheetLaws.{no_steps}
use Rattle.run.proofs.sheet.run_sheet.Goals as goal

pub returns-then-sheet-eq0 : goal.returns-then-sheet-eq0
returns-then-sheet-eq0 c = no_steps _ _ _ (omega arith)
