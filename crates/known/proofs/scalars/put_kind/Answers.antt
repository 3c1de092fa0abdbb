use Rattle.known.proofs.ScalarLaws.{kind_changed}
use Rattle.known.proofs.scalars.put_kind.Goals as goal

pub returns : goal.returns
returns c = λ d k l h e. kind_changed _ _ d k l h e
