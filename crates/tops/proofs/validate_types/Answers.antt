use native.Mathlib.Omega.{arith}
use Rattle.format.specs.Reader.{Bytes}
use Rattle.tops.proofs.ValidateLaws.{first_scalar, second_scalar, of-kind, plain-validated}
use Rattle.tops.proofs.validate_types.Goals as goal

pub kind_at-over-requires : goal.kind_at-over-requires
kind_at-over-requires c =
    first_scalar _ _ c.requires (λ i. omega (arith, c.type_inv.spec i)) (λ i. omega (arith, c.type_inv.ty i)) c.scalar_at.ensures

pub kind_at-kind-requires : goal.kind_at-kind-requires
kind_at-kind-requires c =
    second_scalar _ _ c.requires (λ i. omega (arith, c.type_inv.spec i)) (λ i. omega (arith, c.type_inv.ty i)) c.scalar_at-then-closed_at-2.ensures

pub returns-then-ne-2 : goal.returns-then-ne-2
returns-then-ne-2 c =
    let small : Bytes c.args.spec.now = λ i. omega (arith, c.type_inv.spec i) in
    let small' : Bytes c.args.ty.now = λ i. omega (arith, c.type_inv.ty i) in
    let first = of-kind _ small c.opening_at.ensures c.closed_at.ensures c.if-closed_at.true
    c.scalar_at.ensures c.kind_at-over.result c.kind_at-over.ensures c.if-ne.ensures in
    let second = of-kind _ small' c.opening_at-then-ne-2.ensures c.closed_at-then-closed_at.ensures c.if-closed_at-2.true
    c.scalar_at-then-closed_at-2.ensures c.kind_at-kind.result c.kind_at-kind.ensures c.if-ne-2.ensures in
    plain-validated _ _ c.requires small small' _ _ first second c.validate_plain.result _ _ c.validate_plain.ensures
