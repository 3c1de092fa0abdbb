use native.Mathlib.Omega.{arith}
use Rattle.tops.proofs.PlainLaws.{plain_pervaded}
use Rattle.tops.proofs.pervade_types.Goals as goal

pub returns-in-Some : goal.returns-in-Some
returns-in-Some c =
    plain_pervaded _ _ c.requires (λ i. omega (arith, c.type_inv.a i)) (λ i. omega (arith, c.type_inv.b i)) _ _ _ _
    c.opening_at.ensures c.opening_at-in-Some.ensures c.closed_at.ensures c.closed_at-then-closed_at.ensures c.if-closed_at.true c.if-closed_at-2.true
    c.in-Some.ensures _ _ c.pervade_plain.ensures
