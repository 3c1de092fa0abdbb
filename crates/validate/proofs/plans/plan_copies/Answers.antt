use native.Mathlib.Omega.{arith}
use Rattle.validate.proofs.PlanLaws.{too_many-fields, too_many-types, too_deep, no_copies, some-copies}
use Rattle.validate.proofs.plans.plan_copies.Goals.{then-n-gt-MAX_FIELDS-via-then-n-gt-MAX_FIELDS, then-n-gt-MAX_FIELDS-via-else-n-gt-MAX_FIELDS+then-others-n-gt-MAX_TYPES}
use Rattle.validate.proofs.plans.plan_copies.Goals.{else-n-gt0-via-then-n-gt0+else-above-deep-gt-MAX_DEPTH, else-n-gt0-via-else-n-gt0}
use Rattle.validate.proofs.plans.plan_copies.Goals as goal

pub returns-then-n-gt-MAX_FIELDS : goal.returns-then-n-gt-MAX_FIELDS
returns-then-n-gt-MAX_FIELDS c = λ s t i j w x.
    elim c.then-n-gt-MAX_FIELDS.branch [
      | then-n-gt-MAX_FIELDS-via-then-n-gt-MAX_FIELDS q ↦ too_many-fields w x q.if-n-gt-MAX_FIELDS.true
      | then-n-gt-MAX_FIELDS-via-else-n-gt-MAX_FIELDS+then-others-n-gt-MAX_TYPES q ↦ too_many-types w x q.if-others-n-gt-MAX_TYPES.true
    ]

pub returns-then-above-deep-gt-MAX_DEPTH : goal.returns-then-above-deep-gt-MAX_DEPTH
returns-then-above-deep-gt-MAX_DEPTH c =
    λ s t i j w x. too_deep w x c.if-n-gt-MAX_FIELDS.false c.if-others-n-gt-MAX_TYPES.false c.if-n-gt0.true c.if-above-deep-gt-MAX_DEPTH.true

pub returns : goal.returns
returns c = λ s t i j w x.
    elim c.else-n-gt0.branch [
      | else-n-gt0-via-then-n-gt0+else-above-deep-gt-MAX_DEPTH q ↦ some-copies w x c.if-n-gt-MAX_FIELDS.false c.if-others-n-gt-MAX_TYPES.false q.if-n-gt0.true q.if-above-deep-gt-MAX_DEPTH.false
      | else-n-gt0-via-else-n-gt0 q ↦ no_copies w x c.if-n-gt-MAX_FIELDS.false c.if-others-n-gt-MAX_TYPES.false (omega (arith, q.if-n-gt0.false))
    ]
