use native.Mathlib.Omega.{arith}
use mathlib.Core.Path.{sym, ap, ◌∙◌}
use Rattle.std.specs.Prelude.{Ok, Err}
use Rattle.model.specs.Limits.{max_depth}
use Rattle.format.specs.Outcome.{deliver}
use Rattle.lent.specs.Delivers.{deliver-refused}
use Rattle.known.proofs.WholeLaws.{scalar-inside, second_good}
use Rattle.validate.specs.Answers.{side_of}
use Rattle.validate.proofs.CallLaws.{shape-clash, shape-merged}
use Rattle.validate.proofs.WholeLaws.{lones}
use Rattle.validate.proofs.WalkLaws.{shapes-checked}
use Rattle.validate.proofs.ListLaws.{has}
use Rattle.validate.proofs.calls.deliver_shape.Goals as goal

pub shape_at-requires : goal.shape_at-requires
shape_at-requires c =
    let both = lones c.args.spec.now c.args.ty.now (λ i. omega (arith, c.type_inv.spec i)) (λ i. omega (arith, c.type_inv.ty i)) c.requires in
    (max_depth, has both.pair.spec-there)

pub shape_at-requires-2 : goal.shape_at-requires-2
shape_at-requires-2 c =
    let both = lones c.args.spec.now c.args.ty.now (λ i. omega (arith, c.type_inv.spec i)) (λ i. omega (arith, c.type_inv.ty i)) c.requires in
    (max_depth, has both.pair.type-there)

pub scalar_at-requires : goal.scalar_at-requires
scalar_at-requires c =
    let both = lones c.args.spec.now c.args.ty.now (λ i. omega (arith, c.type_inv.spec i)) (λ i. omega (arith, c.type_inv.ty i)) c.requires in
    (max_depth, has both.pair.type-there)

pub slice_bounds-write_parts-count : goal.slice_bounds-write_parts-count
slice_bounds-write_parts-count c = scalar-inside c.args.ty.now (λ i. omega (arith, c.type_inv.ty i)) c.scalar_at.ensures (second_good c.args.spec.now c.args.ty.now c.requires)

pub slice_bounds-write_parts-start : goal.slice_bounds-write_parts-start
slice_bounds-write_parts-start c = scalar-inside c.args.ty.now (λ i. omega (arith, c.type_inv.ty i)) c.scalar_at.ensures (second_good c.args.spec.now c.args.ty.now c.requires)

pub returns-in-Ok : goal.returns-in-Ok
returns-in-Ok c =
    let both = lones c.args.spec.now c.args.ty.now (λ i. omega (arith, c.type_inv.spec i)) (λ i. omega (arith, c.type_inv.ty i)) c.requires in
    let side = side_of c.args.side in
    let merged = shapes-checked both.pair side c.shape_at.result c.shape_at-2.result (Ok c.in-Ok.shape) c.in-Ok.ensures c.shape_at.ensures c.shape_at-2.ensures in
    c.write_parts.ensures ∙ ap (λ o. deliver o c.args.res.now) (sym (shape-merged both side (λ i. omega (arith, c.type_inv.ty i)) c.scalar_at.ensures c.in-Ok.shape merged))

pub returns-in-Err : goal.returns-in-Err
returns-in-Err c =
    let both = lones c.args.spec.now c.args.ty.now (λ i. omega (arith, c.type_inv.spec i)) (λ i. omega (arith, c.type_inv.ty i)) c.requires in
    let side = side_of c.args.side in
    let clash = shapes-checked both.pair side c.shape_at.result c.shape_at-2.result (Err c.in-Err.reason) c.in-Err.ensures c.shape_at.ensures c.shape_at-2.ensures in
    sym (deliver-refused c.args.res.now (shape-clash both side c.in-Err.reason clash))
