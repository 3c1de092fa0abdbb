use Rattle.run.proofs.SheetLaws.{handed, not_handed}
use Rattle.run.proofs.sheet.hand_over.Goals as goal

pub returns-in-Ok : goal.returns-in-Ok
returns-in-Ok c = handed _ _ _ _ _ c.in-Ok.ensures

pub returns-in-Err : goal.returns-in-Err
returns-in-Err c = not_handed _ _ _ _ _ c.in-Err.ensures
