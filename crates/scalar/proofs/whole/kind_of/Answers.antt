use Rattle.scalar.proofs.WholeLaws.{kind_known}
use Rattle.scalar.proofs.whole.kind_of.Goals as goal

pub returns : goal.returns
returns c = kind_known c.start_of.ensures c.kind_at.ensures
