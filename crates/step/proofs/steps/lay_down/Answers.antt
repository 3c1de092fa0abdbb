use Rattle.step.proofs.StepLaws.{laid_down}
use Rattle.step.proofs.steps.lay_down.Goals as goal

pub returns-in-Ok : goal.returns-in-Ok
returns-in-Ok c = λ s. rw c.in-Ok.is (laid_down c.args.at c.args.next (c.store.ensures s c.args.count))
