use Rattle.validate.proofs.PlanLaws.{limited_over, limited_by}
use Rattle.validate.proofs.plans.limited_at.Goals as goal

pub returns-then-others-span-le-MAX_TYPES : goal.returns-then-others-span-le-MAX_TYPES
returns-then-others-span-le-MAX_TYPES c = λ t h. limited_by c.args.others c.args.above t (c.span_at-span.ensures t h) c.if-others-span-le-MAX_TYPES.true

pub returns-else-others-span-le-MAX_TYPES : goal.returns-else-others-span-le-MAX_TYPES
returns-else-others-span-le-MAX_TYPES c = λ t h. limited_over c.args.others c.args.above t (c.span_at-span.ensures t h) c.if-others-span-le-MAX_TYPES.false
