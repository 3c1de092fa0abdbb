use native.Mathlib.Omega.{arith}
use mathlib.Core.Path.{refl, ◌∙◌}
use lib.ListN.{take}
use borrow.Author.Rules.{rules}
use Rattle.std.proofs.lemmas.Result.{err_from_is_err_and}
use Rattle.validate.specs.Answers.{side_of}
use Rattle.validate.proofs.WalkLaws.{pacing_stop, types-few, pacing_next, pacing_ended, pacing_listable, tail-few, pacing_rest}
use Rattle.validate.proofs.WalkLaws.{pacing_start, lists_countable, pacing_few, pacing_ahead, first_spec, first-type, rest-enough, pacing_pair, pair-room}
use Rattle.validate.proofs.HeadLaws.{box-laid}
use Rattle.validate.proofs.WalkLaws.{shape-short, shape-room, scalar-room, scalar-few, merged-is, clash-is, pair-clash, pair-done}
use Rattle.validate.proofs.WalkLaws.{plan_keep, plan_take, plan_inside, plan_pairs, keep_copyable, take_copyable, head-room, held-room, copied-done, inside-done, fresh-lists, own-lists, fresh-done, own-done}
use Rattle.validate.proofs.PlanLaws.{some_left, pair-bounds, type_ty, spec_ty}
use Rattle.validate.proofs.descent.+checking.Goals as goal

-- ---- types

pub check_type-put_shape-start-requires : goal.check_type-put_shape-start-requires
check_type-put_shape-start-requires t c =
    let args = c.args in
    let w = c.requires.0 in
    let short = shape-short w (side_of args.side) c.shape_at.result c.shape_at-own.result c.check_shapes-checked.result c.check_shapes-checked.ensures c.shape_at.ensures c.shape_at-own.ensures c.unwrap_or.ensures in
    shape-room w args.to args.out.now c.requires.1 c.unwrap_or.result short

pub check_type-check_scalar_at-requires : goal.check_type-check_scalar_at-requires
check_type-check_scalar_at-requires t c =
    let args = c.args in
    let w = c.requires.0 in
    let short = shape-short w (side_of args.side) c.shape_at.result c.shape_at-own.result c.check_shapes-checked.result c.check_shapes-checked.ensures c.shape_at.ensures c.shape_at-own.ensures c.unwrap_or.ensures in
    (omega (arith, c.decreases), (w, scalar-room w args.to args.out.now c.requires.1 c.unwrap_or.result short c.put_shape-start.ensures.0 c.put_shape-start.new.out c.put_shape-start.auto.out))

pub check_type-overflow_add-result : goal.check_type-overflow_add-result
check_type-overflow_add-result t c =
    let few = scalar-few c.requires.0 c.put_shape-start.result c.put_shape-start.new.out c.check_scalar_at.new.out c.in_ok-scalar.scalar (c.in_ok-scalar.ensures c.requires.0) in
    omega (arith, few)

pub check_type-returns-in_err-checked : goal.check_type-returns-in_err-checked
check_type-returns-in_err-checked t c = λ w.
    let args = c.args in
    let side = side_of args.side in
    let short = shape-short w side c.shape_at.result c.shape_at-own.result c.check_shapes-checked.result c.check_shapes-checked.ensures c.shape_at.ensures c.shape_at-own.ensures c.unwrap_or.ensures in
    let clash = clash-is w side c.shape_at.result c.shape_at-own.result c.check_shapes-checked.result c.check_shapes-checked.ensures c.shape_at.ensures c.shape_at-own.ensures c.in_err-checked.was in
    let q = err_from_is_err_and c.from_residual-in_err-checked.result c.from_residual-in_err-checked.ensures.1 in
    rw (q.1, q.2) (pair-clash w args.to args.out.now c.requires.1 c.unwrap_or.result short c.put_shape-start.ensures.0 side c.put_shape-start.new.out c.check_scalar_at.new.out (c.in_ok-scalar.ensures w) c.in_err-checked.field-0.0 clash)

pub check_type-returns : goal.check_type-returns
check_type-returns t c = λ w.
    let args = c.args in
    let side = side_of args.side in
    let short = shape-short w side c.shape_at.result c.shape_at-own.result c.check_shapes-checked.result c.check_shapes-checked.ensures c.shape_at.ensures c.shape_at-own.ensures c.unwrap_or.ensures in
    let merged = merged-is w side c.shape_at.result c.shape_at-own.result c.check_shapes-checked.result c.check_shapes-checked.ensures c.shape_at.ensures c.shape_at-own.ensures c.in_ok-checked.was c.unwrap_or.ensures in
    pair-done w args.to args.out.now c.requires.1 c.unwrap_or.result short c.put_shape-start.ensures.0 side c.put_shape-start.new.out c.check_scalar_at.new.out (c.in_ok-scalar.ensures w) c.put_shape-start.ensures.1 merged

-- ---- scalars

pub check_scalar_at-copy_scalar-requires : goal.check_scalar_at-copy_scalar-requires
check_scalar_at-copy_scalar-requires t c = keep_copyable c.requires.0 c.args.to c.requires.1

pub check_scalar_at-copy_scalar-requires-in-Take : goal.check_scalar_at-copy_scalar-requires-in-Take
check_scalar_at-copy_scalar-requires-in-Take t c =
    take_copyable c.requires.0 c.args.to c.requires.1 (plan_take c.requires.0 (c.in_ok-plan_scalar.ensures c.requires.0) c.in-Take.is)

pub check_scalar_at-overflow_add-others : goal.check_scalar_at-overflow_add-others
check_scalar_at-overflow_add-others t c = let b = pair-bounds c.requires.0 in search rules

pub check_scalar_at-overflow_add-above : goal.check_scalar_at-overflow_add-above
check_scalar_at-overflow_add-above t c = let b = pair-bounds c.requires.0 in search rules

pub check_scalar_at-check_type-requires : goal.check_scalar_at-check_type-requires
check_scalar_at-check_type-requires t c =
    let args = c.args in
    let left = some_left args.others args.above c.requires.0.type-scalar c.requires.0.limits in
    let v = plan_inside c.requires.0 (c.in_ok-plan_scalar.ensures c.requires.0) c.in-Inside.is in
    let head = box-laid 1 c.code.ensures c.put_box-inner.ensures in
    (omega (arith, c.decreases, left.1), (v.inner, held-room c.requires.0 args.to args.out.now c.requires.1 c.put_box-inner.result c.put_box-inner.new.out head.short c.put_box-inner.auto.out))

pub check_scalar_at-overflow_cast-own : goal.check_scalar_at-overflow_cast-own
check_scalar_at-overflow_cast-own t c =
    let v = plan_pairs c.requires.0 (c.in_ok-plan_scalar.ensures c.requires.0) c.in-Pairs.is in
    omega (arith, v.few)

pub check_scalar_at-put_name-start-requires : goal.check_scalar_at-put_name-start-requires
check_scalar_at-put_name-start-requires t c =
    let v = plan_pairs c.requires.0 (c.in_ok-plan_scalar.ensures c.requires.0) c.in-Pairs.is in
    (record { name = v.label; there = v.titled }, head-room c.requires.0 c.args.to c.requires.1)

pub check_scalar_at-overflow_add-others-then-fresh : goal.check_scalar_at-overflow_add-others-then-fresh
check_scalar_at-overflow_add-others-then-fresh t c = let b = pair-bounds c.requires.0 in search rules

pub check_scalar_at-overflow_add-above-then-fresh : goal.check_scalar_at-overflow_add-above-then-fresh
check_scalar_at-overflow_add-above-then-fresh t c = let b = pair-bounds c.requires.0 in search rules

pub check_scalar_at-check_fields-requires : goal.check_scalar_at-check_fields-requires
check_scalar_at-check_fields-requires t c =
    let args = c.args in
    let left = some_left args.others args.above c.requires.0.type-scalar c.requires.0.limits in
    let v = plan_pairs c.requires.0 (c.in_ok-plan_scalar.ensures c.requires.0) c.in-Pairs.is in
    let head = c.put_name-start.ensures v.label v.titled in
    let room = held-room c.requires.0 args.to args.out.now c.requires.1 c.put_name-start.result c.put_name-start.new.out head.short c.put_name-start.auto.out in
    (omega (arith, c.decreases, left.1), (fresh-lists args.ty.now _ v.inner c.if-fresh.true, room))

pub check_scalar_at-returns-then-fresh : goal.check_scalar_at-returns-then-fresh
check_scalar_at-returns-then-fresh t c = λ w.
    let args = c.args in
    let v = plan_pairs w (c.in_ok-plan_scalar.ensures w) c.in-Pairs.is in
    let head = c.put_name-start.ensures v.label v.titled in
    let done = c.check_fields.ensures (fresh-lists args.ty.now _ v.inner c.if-fresh.true) in
    fresh-done w args.to args.out.now c.requires.1 c.put_name-start.result c.put_name-start.new.out c.check_fields.result c.check_fields.new.out v head c.if-fresh.true done

pub check_scalar_at-overflow_add-others-in-Pairs : goal.check_scalar_at-overflow_add-others-in-Pairs
check_scalar_at-overflow_add-others-in-Pairs t c = let b = pair-bounds c.requires.0 in search rules

pub check_scalar_at-overflow_add-above-in-Pairs : goal.check_scalar_at-overflow_add-above-in-Pairs
check_scalar_at-overflow_add-above-in-Pairs t c = let b = pair-bounds c.requires.0 in search rules

pub check_scalar_at-check_fields-requires-in-Pairs : goal.check_scalar_at-check_fields-requires-in-Pairs
check_scalar_at-check_fields-requires-in-Pairs t c =
    let args = c.args in
    let left = some_left args.others args.above c.requires.0.type-scalar c.requires.0.limits in
    let v = plan_pairs c.requires.0 (c.in_ok-plan_scalar.ensures c.requires.0) c.in-Pairs.is in
    let head = c.put_name-start.ensures v.label v.titled in
    let room = held-room c.requires.0 args.to args.out.now c.requires.1 c.put_name-start.result c.put_name-start.new.out head.short c.put_name-start.auto.out in
    (omega (arith, c.decreases, left.1), (own-lists args.ty.now _ v.inner c.if-fresh.false, room))

pub check_scalar_at-returns-in-Keep : goal.check_scalar_at-returns-in-Keep
check_scalar_at-returns-in-Keep t c = λ w.
    let is = plan_keep w (c.in_ok-plan_scalar.ensures w) c.in-Keep.is in
    copied-done w c.args.to c.args.out.now c.copy_scalar.new.out c.copy_scalar.result w.type-scalar is (c.copy_scalar.ensures (type_ty w) w.type-there)

pub check_scalar_at-returns-in-Take : goal.check_scalar_at-returns-in-Take
check_scalar_at-returns-in-Take t c = λ w.
    let is = plan_take w (c.in_ok-plan_scalar.ensures w) c.in-Take.is in
    copied-done w c.args.to c.args.out.now c.copy_scalar-in-Take.new.out c.copy_scalar-in-Take.result w.spec-scalar is (c.copy_scalar-in-Take.ensures (spec_ty w) w.spec-there)

pub check_scalar_at-returns-in-Inside : goal.check_scalar_at-returns-in-Inside
check_scalar_at-returns-in-Inside t c = λ w.
    let v = plan_inside w (c.in_ok-plan_scalar.ensures w) c.in-Inside.is in
    inside-done w c.args.to c.args.out.now c.requires.1 c.put_box-inner.result c.put_box-inner.new.out c.check_type.result c.check_type.new.out v
    (box-laid 1 c.code.ensures c.put_box-inner.ensures) (c.check_type.ensures v.inner)

pub check_scalar_at-returns-else-fresh : goal.check_scalar_at-returns-else-fresh
check_scalar_at-returns-else-fresh t c = λ w.
    let args = c.args in
    let v = plan_pairs w (c.in_ok-plan_scalar.ensures w) c.in-Pairs.is in
    let head = c.put_name-start.ensures v.label v.titled in
    let done = c.check_fields-in-Pairs.ensures (own-lists args.ty.now _ v.inner c.if-fresh.false) in
    own-done w args.to args.out.now c.requires.1 c.put_name-start.result c.put_name-start.new.out c.check_fields-in-Pairs.result c.check_fields-in-Pairs.new.out v head c.if-fresh.false done

-- ---- fields

pub check_fields-types_in-rest-requires : goal.check_fields-types_in-rest-requires
check_fields-types_in-rest-requires t c = lists_countable c.requires.0

pub check_fields-loop-k-init : goal.check_fields-loop-k-init
check_fields-loop-k-init t c =
    let args = c.args in
    (refl, omega arith, λ w. pacing_start w (take args.to args.out.now) args.to (omega arith) (omega arith) (c.types_in-rest.ensures w.type-fields w.type_list w.type-count))

pub check_fields-overflow_sub-result : goal.check_fields-overflow_sub-result
check_fields-overflow_sub-result t c = pacing_ahead (c.loop-k.invariant.2 c.requires.0)

pub check_fields-returns-then-k-own : goal.check_fields-returns-then-k-own
check_fields-returns-then-k-own t c = λ w. pacing_ended c.loop-k.out (c.loop-k.invariant.2 w) (omega arith)

pub check_fields-span_at-span-requires : goal.check_fields-span_at-span-requires
check_fields-span_at-span-requires t c = first-type (c.loop-k.invariant.2 c.requires.0) (omega arith) (λ z. omega arith)

pub check_fields-overflow_sub-rest : goal.check_fields-overflow_sub-rest
check_fields-overflow_sub-rest t c = rest-enough (c.loop-k.invariant.2 c.requires.0) (omega arith) (λ z. omega arith) c.span_at-span.ensures

pub check_fields-overflow_add-before : goal.check_fields-overflow_add-before
check_fields-overflow_add-before t c = omega (arith, pacing_few (c.loop-k.invariant.2 c.requires.0))

pub check_fields-check_type-requires : goal.check_fields-check_type-requires
check_fields-check_type-requires t c =
    let now = c.loop-k.invariant.2 c.requires.0 in (
      omega (arith, c.decreases),
      (
        pacing_pair now (omega arith) (λ z. omega arith) c.span_at-span.ensures,
        pair-room now (omega arith) (λ z. omega arith) c.span_at-span.ensures (omega (arith, c.requires.1, c.loop-k.invariant.0)),
      ),
    )

pub check_fields-returns-in_err-field : goal.check_fields-returns-in_err-field
check_fields-returns-in_err-field t c = λ w.
    let now = c.loop-k.invariant.2 w in
    let hand = pacing_pair now (omega arith) (λ z. omega arith) c.span_at-span.ensures in
    let q = err_from_is_err_and c.from_residual.result c.from_residual.ensures.1 in
    rw (q.1, q.2) (pacing_stop now (omega arith) (λ z. omega arith) c.span_at-span.ensures c.loop-k.out c.check_type.new.out refl c.in_err-field.field-0.0 (c.in_err-field.ensures hand))

pub check_fields-next_type-i-requires : goal.check_fields-next_type-i-requires
check_fields-next_type-i-requires t c = first_spec (c.loop-k.invariant.2 c.requires.0) (omega arith) (λ z. omega arith)

pub check_fields-overflow_add-before-in-loop-k : goal.check_fields-overflow_add-before-in-loop-k
check_fields-overflow_add-before-in-loop-k t c =
    let now = c.loop-k.invariant.2 c.requires.0 in
    let hand = pacing_pair now (omega arith) (λ z. omega arith) c.span_at-span.ensures in
    let few = types-few now (omega arith) (λ z. omega arith) c.span_at-span.ensures c.loop-k.out c.check_type.new.out refl (c.in_ok-field.ensures hand) in
    omega (arith, few)

pub check_fields-loop-k-preserved : goal.check_fields-loop-k-preserved
check_fields-loop-k-preserved t c = (
  c.check_type.auto.out ∙ c.loop-k.invariant.0,
  omega arith,
  λ w.
      let now = c.loop-k.invariant.2 w in
      let hand = pacing_pair now (omega arith) (λ z. omega arith) c.span_at-span.ensures in
      pacing_next now (omega arith) (λ z. omega arith) c.span_at-span.ensures c.loop-k.out c.check_type.new.out refl (c.in_ok-field.ensures hand)
      (omega arith) (omega arith) c.next_type-i.ensures c.next_place-j.ensures,
)

pub check_fields-copy_fields-tail-requires : goal.check_fields-copy_fields-tail-requires
check_fields-copy_fields-tail-requires t c =
    let now = c.loop-k.invariant.2 c.requires.0 in
    pacing_listable c.loop-k.out now (omega (arith, c.requires.1, c.loop-k.invariant.0)) (omega arith)

pub check_fields-overflow_sub-result-2 : goal.check_fields-overflow_sub-result-2
check_fields-overflow_sub-result-2 t c = pacing_ahead (c.loop-k.invariant.2 c.requires.0)

pub check_fields-overflow_add-result : goal.check_fields-overflow_add-result
check_fields-overflow_add-result t c =
    let now = c.loop-k.invariant.2 c.requires.0 in
    let copied = c.copy_fields-tail.ensures now.lists.type-fields now.lists.type_list (omega (arith, now.lists.type-count)) in
    let few = tail-few c.loop-k.out now c.copy_fields-tail.new.out c.copy_fields-tail.result copied in
    omega (arith, few)

pub check_fields-returns : goal.check_fields-returns
check_fields-returns t c = λ w.
    let now = c.loop-k.invariant.2 w in
    let copied = c.copy_fields-tail.ensures now.lists.type-fields now.lists.type_list (omega (arith, now.lists.type-count)) in
    pacing_rest c.loop-k.out now c.copy_fields-tail.new.out c.copy_fields-tail.result copied (omega arith)
