use Rattle.step.proofs.StepLaws.{pervading_ruled, pervading_works}
use Rattle.step.proofs.steps.pervade.Goals as goal

pub lay_down-requires : goal.lay_down-requires
lay_down-requires c = pervading_ruled (c.unpack_two.ensures.by_index c.args.s.now) _ _ c.requires c.args.top_fill c.args.below_fill (c.pervade_top-w.ensures _)

pub returns : goal.returns
returns c = pervading_works (c.unpack_two.ensures.by_index c.args.s.now) _ _ c.requires c.args.top_fill c.args.below_fill (c.pervade_top-w.ensures _) _ _ _ _ (c.lay_down.ensures c.args.s.now)
