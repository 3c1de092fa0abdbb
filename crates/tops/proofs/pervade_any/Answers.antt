use native.Mathlib.Omega.{arith}
use Rattle.tops.proofs.PlainLaws.{any_clash, any_pervaded}
use Rattle.tops.proofs.pervade_any.Goals as goal

pub returns-in-None : goal.returns-in-None
returns-in-None c =
    any_clash _ _ c.requires (λ i. omega (arith, c.type_inv.a i)) (λ i. omega (arith, c.type_inv.b i)) _ _ _ _ _ c.shape_at.ensures c.shape_at-2.ensures c.in-None.ensures

pub returns-in-Some : goal.returns-in-Some
returns-in-Some c =
    any_pervaded _ _ c.requires (λ i. omega (arith, c.type_inv.a i)) (λ i. omega (arith, c.type_inv.b i)) _ _ _ _ _ c.shape_at.ensures c.shape_at-2.ensures _ _ _ c.in-Some.ensures c.write_union.ensures
