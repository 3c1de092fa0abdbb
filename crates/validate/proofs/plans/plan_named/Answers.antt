use mathlib.Core.Path.{ap, ◌∙◌}
use Rattle.validation.specs.AsFields.{fields_for}
use Rattle.validate.specs.Plans.{scalar_after}
use Rattle.validate.proofs.PlanLaws.{tested, any_tested, named-plain, named-own, named-given, copies_plain, copies-any, copies-all}
use Rattle.validate.proofs.plans.plan_named.Goals as goal

pub returns-then-eq : goal.returns-then-eq
returns-then-eq c =
    let args = c.args in
    λ s i j w p k.
    c.plan_copies.ensures s args.ty.now i j w
    (copies_plain w k (c.fields_for-n.ensures ∙ ap (λ q. fields_for q args.limit) p) c.in-Plain.is (any_tested c.in-Plain.kind c.eq.ensures c.if-eq.true))

pub returns-then-named : goal.returns-then-named
returns-then-named c = λ s i j w p k. named-own w k c.in-BoxDef.is c.if-named.true

pub returns-else-eq : goal.returns-else-eq
returns-else-eq c =
    let args = c.args in
    λ s i j w p k.
    c.keep_if.ensures s args.ty.now args.others args.above (scalar_after w) w.spec-scalar w.type-scalar
    (tested (scalar_after w) w.type-scalar (named-plain w k c.in-Plain.is (any_tested c.in-Plain.kind c.eq.ensures c.if-eq.false)) c.superset.ensures)

pub returns-in-BoxAny : goal.returns-in-BoxAny
returns-in-BoxAny c =
    let args = c.args in
    λ s i j w p k. c.plan_copies-in-BoxAny.ensures s args.ty.now i j w (copies-any w k (c.fields_for-n.ensures ∙ ap (λ q. fields_for q args.limit) p) c.in-BoxAny.is)

pub returns-in-BoxAll : goal.returns-in-BoxAll
returns-in-BoxAll c =
    let args = c.args in
    λ s i j w p k.
    c.plan_copies-in-BoxAll.ensures s args.ty.now i j w
    (copies-all w k (c.fields_for-n.ensures ∙ ap (λ q. fields_for q args.limit) p) c.in-BoxAll.is c.span_at-span.result c.span_at-span.ensures)

pub returns-else-named : goal.returns-else-named
returns-else-named c = λ s i j w p k. named-given w k c.in-BoxDef.is c.if-named.false
