use mathlib.Core.Path.{◌∙◌}
use Rattle.known.proofs.KnownLaws.{has-scalar}
use Rattle.model.specs.Limits.{max_depth}
use Rattle.validate.specs.Plans.{scalar_after}
use Rattle.validate.proofs.PlanLaws.{some-view, tested, within, view_of, as_plain, as_box-any, plan_any, plan_plain, plan_box_any, spec_ty, type_ty, pair-bounds, wholly, all_against, def_against}
use Rattle.validate.proofs.ListLaws.{has}
use Rattle.validate.proofs.plans.plan_scalar.Goals as goal

pub look-a-requires : goal.look-a-requires
look-a-requires c =
    let args = c.args in
    (within, has-scalar args.spec.now args.i c.scalar_at.ensures max_depth (has c.requires.spec-there))

pub look-b-requires : goal.look-b-requires
look-b-requires c =
    let args = c.args in
    (within, has-scalar args.ty.now args.j c.scalar_at-2.ensures max_depth (has c.requires.type-there))

pub take_if-requires : goal.take_if-requires
take_if-requires c =
    let b = pair-bounds c.requires in
    (has c.requires.spec-there, b.0, b.1)

pub returns-then-wholly_any : goal.returns-then-wholly_any
returns-then-wholly_any c =
    let args = c.args in
    λ w.
    let own = view_of c.scalar_at-2.ensures c.look-b.ensures (type_ty w) w.type-there in
    let whole = wholly w own c.any_shape_at.ensures c.wholly_any.ensures in
    c.take_if.ensures args.ty.now (scalar_after w) (spec_ty w) w.type-scalar w.spec-there (plan_any w (whole ∙ c.if-wholly_any.true))

pub plan_all-requires : goal.plan_all-requires
plan_all-requires c =
    let w = c.requires in
    let b = pair-bounds w in
    let own = view_of c.scalar_at-2.ensures c.look-b.ensures (type_ty w) w.type-there in
    (some-view own, has w.spec-there, b.0, b.1)

pub plan_named-requires : goal.plan_named-requires
plan_named-requires c =
    let b = pair-bounds c.requires in
    (record { scalar = c.requires.type-scalar; viewed = view_of c.scalar_at-2.ensures c.look-b.ensures (type_ty c.requires) c.requires.type-there }, b.0, b.1)

pub returns-then-named : goal.returns-then-named
returns-then-named c =
    let args = c.args in
    λ w.
    let own = view_of c.scalar_at-2.ensures c.look-b.ensures (type_ty w) w.type-there in
    let wanted = view_of c.scalar_at.ensures c.look-a.ensures (spec_ty w) w.spec-there in
    let whole = wholly w own c.any_shape_at.ensures c.wholly_any.ensures in
    let against = def_against w (whole ∙ c.if-wholly_any.false) wanted own c.in-BoxDef.is c.if-named.true in
    c.plan_named.ensures args.spec.now args.i args.j w (c.shape_at-t.ensures max_depth (type_ty w) w.type-there) against

pub plan_unnamed-requires : goal.plan_unnamed-requires
plan_unnamed-requires c =
    let w = c.requires in
    let b = pair-bounds w in
    let own = view_of c.scalar_at-2.ensures c.look-b.ensures (type_ty w) w.type-there in
    (some-view own, has w.spec-there, b.0, b.1)

pub returns-in-Plain : goal.returns-in-Plain
returns-in-Plain c =
    let args = c.args in
    λ w.
    let own = view_of c.scalar_at-2.ensures c.look-b.ensures (type_ty w) w.type-there in
    let wanted = view_of c.scalar_at.ensures c.look-a.ensures (spec_ty w) w.spec-there in
    let whole = wholly w own c.any_shape_at.ensures c.wholly_any.ensures in
    let code = c.kind_of.ensures args.ty.now w.type-scalar own in
    c.keep_if.ensures args.spec.now args.ty.now args.others args.above (scalar_after w) w.spec-scalar w.type-scalar
    (tested (scalar_after w) w.type-scalar (plan_plain w (whole ∙ c.if-wholly_any.false) (as_plain wanted c.in-Plain.is) code) c.superset.ensures)

pub returns-in-BoxAny : goal.returns-in-BoxAny
returns-in-BoxAny c =
    let args = c.args in
    λ w.
    let own = view_of c.scalar_at-2.ensures c.look-b.ensures (type_ty w) w.type-there in
    let wanted = view_of c.scalar_at.ensures c.look-a.ensures (spec_ty w) w.spec-there in
    let whole = wholly w own c.any_shape_at.ensures c.wholly_any.ensures in
    let code = c.kind_of-in-BoxAny.ensures args.ty.now w.type-scalar own in
    c.keep_if-in-BoxAny.ensures args.spec.now args.ty.now args.others args.above (scalar_after w) w.spec-scalar w.type-scalar
    (tested (scalar_after w) w.type-scalar (plan_box_any w (whole ∙ c.if-wholly_any.false) (as_box-any wanted c.in-BoxAny.is) code) c.superset-in-BoxAny.ensures)

pub returns-in-BoxAll : goal.returns-in-BoxAll
returns-in-BoxAll c =
    let args = c.args in
    λ w.
    let own = view_of c.scalar_at-2.ensures c.look-b.ensures (type_ty w) w.type-there in
    let wanted = view_of c.scalar_at.ensures c.look-a.ensures (spec_ty w) w.spec-there in
    let whole = wholly w own c.any_shape_at.ensures c.wholly_any.ensures in
    c.plan_all.ensures args.ty.now args.j w (all_against w (whole ∙ c.if-wholly_any.false) wanted own c.in-BoxAll.is)

pub returns-else-named : goal.returns-else-named
returns-else-named c =
    let args = c.args in
    λ w.
    let own = view_of c.scalar_at-2.ensures c.look-b.ensures (type_ty w) w.type-there in
    let wanted = view_of c.scalar_at.ensures c.look-a.ensures (spec_ty w) w.spec-there in
    let whole = wholly w own c.any_shape_at.ensures c.wholly_any.ensures in
    c.plan_unnamed.ensures args.ty.now args.j w (def_against w (whole ∙ c.if-wholly_any.false) wanted own c.in-BoxDef.is c.if-named.false)
