use native.Mathlib.Omega.{arith}
use Rattle.known.proofs.ShapeLaws.{dims_gathered}
use Rattle.known.proofs.shapes.dims_at.Goals as goal

pub returns : goal.returns
returns c = λ ds h e. dims_gathered _ _ ds _ h e c.loop-i.invariant.0 (omega arith) c.loop-i.invariant.1
