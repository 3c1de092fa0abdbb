use Rattle.validate.specs.Plans.{scalar_after}
use Rattle.validate.proofs.PlanLaws.{tested, spec_ty, unnamed-plain, unnamed-any, unnamed-all, unnamed_pairs}
use Rattle.validate.proofs.plans.plan_unnamed.Goals as goal

pub returns-in-Plain : goal.returns-in-Plain
returns-in-Plain c =
    let args = c.args in
    λ t j w k.
    c.keep_if.ensures args.spec.now t args.others args.above (scalar_after w) w.spec-scalar w.type-scalar
    (tested (scalar_after w) w.type-scalar (unnamed-plain w k c.in-Plain.is) c.superset.ensures)

pub returns-in-BoxAny : goal.returns-in-BoxAny
returns-in-BoxAny c =
    λ t j w k. c.take_if.ensures t (scalar_after w) (spec_ty w) w.type-scalar w.spec-there (unnamed-any w k c.in-BoxAny.is)

pub returns-in-BoxAll : goal.returns-in-BoxAll
returns-in-BoxAll c = λ t j w k. unnamed-all w k c.in-BoxAll.is

pub returns-in-BoxDef : goal.returns-in-BoxDef
returns-in-BoxDef c = λ t j w k. unnamed_pairs w k c.in-BoxDef.is
