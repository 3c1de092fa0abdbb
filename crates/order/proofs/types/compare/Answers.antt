use native.Mathlib.Omega.{arith}
use Rattle.order.proofs.TypeLaws.{whole_same}
use Rattle.order.proofs.types.compare.Goals as goal

pub returns-in-Same : goal.returns-in-Same
returns-in-Same c = whole_same _ _ c.in_ok-read_two.ensures (λ i. omega (arith, c.type_inv.a i)) (λ i. omega (arith, c.type_inv.b i)) c.compare_types.ensures c.in-Same.is
