use native.Mathlib.Omega.{arith}
use mathlib.Core.Path.{refl, sym, ap, ◌∙◌}
use lib.Seq.{length-take-le}
use Rattle.model.specs.Limits.{max_depth}
use Rattle.format.specs.Outcome.{deliver}
use Rattle.lent.specs.Delivers.{deliver-refused}
use Rattle.validate.proofs.ListLaws.{has}
use Rattle.validate.proofs.WholeLaws.{lones, shape-fits, front-room, check_done, check_not, check_ends}
use Rattle.validate.proofs.calls.deliver_scalar.Goals as goal

pub shape_at-requires : goal.shape_at-requires
shape_at-requires c =
    let both = lones c.args.spec.now c.args.ty.now (λ i. omega (arith, c.type_inv.spec i)) (λ i. omega (arith, c.type_inv.ty i)) c.requires in
    (max_depth, has both.pair.type-there)

pub put_shape-start-requires : goal.put_shape-start-requires
put_shape-start-requires c =
    let both = lones c.args.spec.now c.args.ty.now (λ i. omega (arith, c.type_inv.spec i)) (λ i. omega (arith, c.type_inv.ty i)) c.requires in
    shape-fits both c.shape_at.result c.shape_at.ensures

pub check_scalar_at-requires : goal.check_scalar_at-requires
check_scalar_at-requires c =
    let both = lones c.args.spec.now c.args.ty.now (λ i. omega (arith, c.type_inv.spec i)) (λ i. omega (arith, c.type_inv.ty i)) c.requires in
    (both.pair, front-room both c.shape_at.result c.shape_at.ensures c.put_shape-start.ensures.0 c.put_shape-start.new.out c.put_shape-start.auto.out)

pub slice_bounds-out-end : goal.slice_bounds-out-end
slice_bounds-out-end c =
    let both = lones c.args.spec.now c.args.ty.now (λ i. omega (arith, c.type_inv.spec i)) (λ i. omega (arith, c.type_inv.ty i)) c.requires in
    let ends = check_ends both c.shape_at.result c.shape_at.ensures c.put_shape-start.ensures.0 c.put_shape-start.new.out c.check_scalar_at.new.out (c.in-Ok.ensures both.pair) in
    omega (arith, ends)

pub slice_bounds-hand_over-end : goal.slice_bounds-hand_over-end
slice_bounds-hand_over-end c =
    let both = lones c.args.spec.now c.args.ty.now (λ i. omega (arith, c.type_inv.spec i)) (λ i. omega (arith, c.type_inv.ty i)) c.requires in
    let ends = check_ends both c.shape_at.result c.shape_at.ensures c.put_shape-start.ensures.0 c.put_shape-start.new.out c.check_scalar_at.new.out (c.in-Ok.ensures both.pair) in
    sym (length-take-le _ _ (omega (arith, ends, c.check_scalar_at.auto.out, c.put_shape-start.auto.out)))

pub returns-in-Ok : goal.returns-in-Ok
returns-in-Ok c =
    let both = lones c.args.spec.now c.args.ty.now (λ i. omega (arith, c.type_inv.spec i)) (λ i. omega (arith, c.type_inv.ty i)) c.requires in
    let is = check_done both c.shape_at.result c.shape_at.ensures c.put_shape-start.ensures.0 c.put_shape-start.new.out c.check_scalar_at.new.out _ refl c.put_shape-start.ensures.1 (c.in-Ok.ensures both.pair) in
    c.hand_over.ensures ∙ sym (ap (λ o. deliver o c.args.res.now) is)

pub returns-in-Err : goal.returns-in-Err
returns-in-Err c =
    let both = lones c.args.spec.now c.args.ty.now (λ i. omega (arith, c.type_inv.spec i)) (λ i. omega (arith, c.type_inv.ty i)) c.requires in
    sym (deliver-refused c.args.res.now (check_not both c.shape_at.result c.shape_at.ensures c.put_shape-start.ensures.0 c.put_shape-start.new.out c.check_scalar_at.new.out _ refl c.put_shape-start.ensures.1 c.in-Err.reason (c.in-Err.ensures both.pair)))
