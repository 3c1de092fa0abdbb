use Rattle.kind_table.proofs.RowLaws.{row_laid}
use Rattle.kind_table.proofs.lay_square.Goals as goal

pub loop-i-preserved : goal.loop-i-preserved
loop-i-preserved c = row_laid c.args.out.now c.args.at c.args.square c.requires.0 c.requires.1 c.loop-i.i c.loop-i.invariant c.loop-i-test.true c.lay.ensures
