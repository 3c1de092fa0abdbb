use Rattle.printer.proofs.CallLaws.{left_reported}
use Rattle.printer.proofs.put_call.Goals as goal

pub returns-in-Ok-clause-laid : goal.returns-in-Ok-clause-laid
returns-in-Ok-clause-laid c =
    let call = c.in-Ok.ensures in
    left_reported _ _ _ _ _ _ _ (λ i. (c.type_inv.sheet i).fits) call.scratch_after _ call.measures _ _ _ _ c.put_left.ensures
