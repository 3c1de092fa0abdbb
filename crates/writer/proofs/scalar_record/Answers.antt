use native.Mathlib.Omega.{arith}
use mathlib.Core.Path.{sym, ap, ◌∙◌}
use Rattle.model.specs.Limits.{max_depth}
use Rattle.format.specs.Outcome.{accepted, deliver}
use Rattle.format.specs.Views.{rest-is}
use Rattle.lent.specs.Delivers.{deliver-as}
use Rattle.known.proofs.WholeLaws.{has-type, scalar-inside, whole-scalar}
use Rattle.writer.proofs.scalar_record.Goals as goal

pub scalar_at-requires : goal.scalar_at-requires
scalar_at-requires c = (max_depth, has-type _ (λ i. omega (arith, c.type_inv.ty i)) (sym c.in_ok-read_lone.ensures))

pub slice_bounds-hand_over-count : goal.slice_bounds-hand_over-count
slice_bounds-hand_over-count c = scalar-inside _ (λ i. omega (arith, c.type_inv.ty i)) c.scalar_at.ensures (sym c.in_ok-read_lone.ensures)

pub returns : goal.returns
returns c =
    deliver-as _ (c.hand_over.ensures ∙ ap (λ w. deliver (accepted w) c.args.res.now) (rest-is c.args.ty.now c.scalar_at.result)) (whole-scalar _ (λ i. omega (arith, c.type_inv.ty i)) (sym c.in_ok-read_lone.ensures) c.scalar_at.ensures)

pub slice_bounds-hand_over-start : goal.slice_bounds-hand_over-start
slice_bounds-hand_over-start c = scalar-inside _ (λ i. omega (arith, c.type_inv.ty i)) c.scalar_at.ensures (sym c.in_ok-read_lone.ensures)
