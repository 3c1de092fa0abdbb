use Rattle.step.proofs.StepLaws.{put_works}
use Rattle.step.proofs.steps.put.Goals as goal

pub returns : goal.returns
returns c = λ s h d t at within long stands. put_works at c.args.next c.requires.0 (c.put.ensures s h d t within long stands)
