use native.Mathlib.Omega.{arith}
use Rattle.ty.proofs.PartLaws.{inside}
use Rattle.ty.proofs.whole.whole_scalar.Goals as goal

pub returns : goal.returns
returns c = inside _ (λ i. omega (arith, c.type_inv.ty i)) c.requires c.scalar_at.ensures _ c.look.ensures
