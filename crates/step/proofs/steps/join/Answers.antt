use Rattle.step.proofs.StepLaws.{join_ruled, join_works}
use Rattle.step.proofs.steps.join.Goals as goal

pub lay_down-requires : goal.lay_down-requires
lay_down-requires c = join_ruled (c.unpack_two.ensures.by_index c.args.s.now) _ _ c.requires (c.join_top-w.ensures _)

pub returns : goal.returns
returns c = join_works (c.unpack_two.ensures.by_index c.args.s.now) _ _ c.requires (c.join_top-w.ensures _) _ _ _ _ (c.lay_down.ensures c.args.s.now)
