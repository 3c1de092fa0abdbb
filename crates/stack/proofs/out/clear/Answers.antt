use Rattle.machine.specs.Call.{zeroed}
use Rattle.stack.proofs.OutLaws.{zeros_before}
use Rattle.stack.proofs.out.clear.Goals as goal

pub returns : goal.returns
unfolding zeroed
returns c = zeros_before _ _ _ c.requires (c.fill.ensures.after (λ y e. e))
