use native.Mathlib.Omega.{arith}
use Rattle.step.proofs.StepLaws.{validated_ruled, validated_works}
use Rattle.step.proofs.steps.validate.Goals as goal

pub lay_down-requires : goal.lay_down-requires
lay_down-requires c =
    let (spec, read) = c.requires.1 in
    validated_ruled (c.unpack_top.ensures.by_index c.args.s.now) _ _ c.requires.0 c.args.spec.now (λ i. omega (arith, c.type_inv.spec i)) spec read
    (c.validate_top-w.ensures spec _ read)

pub returns : goal.returns
returns c =
    λ spec read.
    validated_works (c.unpack_top.ensures.by_index c.args.s.now) _ _ c.requires.0 c.args.spec.now (λ i. omega (arith, c.type_inv.spec i)) spec read
    (c.validate_top-w.ensures spec _ read) _ _ _ _ (c.lay_down.ensures c.args.s.now)
