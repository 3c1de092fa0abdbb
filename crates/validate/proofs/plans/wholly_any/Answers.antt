use mathlib.Core.Path.{◌∙◌}
use Rattle.validate.proofs.PlanLaws.{tests_any, not_any, any_by_code}
use Rattle.validate.proofs.plans.wholly_any.Goals as goal

pub returns-then-any : goal.returns-then-any
returns-then-any c = λ s p k e h. c.eq.ensures ∙ tests_any c.kind_of.result ∙ any_by_code p k e c.if-any.true (c.kind_of.ensures s k h)

pub returns-else-any : goal.returns-else-any
returns-else-any c = λ s p k e h. not_any p k e c.if-any.false
