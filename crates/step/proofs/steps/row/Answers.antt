use Rattle.step.proofs.StepLaws.{row_ruled, row_works}
use Rattle.step.proofs.steps.row.Goals as goal

pub lay_down-requires : goal.lay_down-requires
lay_down-requires c = row_ruled (c.unpack_top.ensures.by_index c.args.s.now) _ _ c.requires (c.row_top-w.ensures _)

pub returns : goal.returns
returns c = row_works (c.unpack_top.ensures.by_index c.args.s.now) _ _ c.requires (c.row_top-w.ensures _) _ _ _ _ (c.lay_down.ensures c.args.s.now)
