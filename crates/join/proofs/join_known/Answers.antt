use native.Mathlib.Omega.{arith}
use mathlib.Core.Logic.{◌⊎◌, inl, inr}
use mathlib.Core.Path.{sym, ap, ◌∙◌}
use Rattle.format.specs.Outcome.{accepted}
use Rattle.lent.specs.Delivers.{deliver-as}
use Rattle.record.specs.Answers.{dims_of}
use Rattle.writer.specs.Kinds.{closed_record}
use Rattle.join.proofs.Laws.{Closed, closed_type, joined, joined-closed}
use Rattle.join.proofs.join_known.Goals.{then-closed_at-via-then-closed_at, then-closed_at-via-else-closed_at+then-closed_at-2}
use Rattle.join.proofs.join_known.Goals as goal

pub returns-in-Some : goal.returns-in-Some
returns-in-Some c =
    let closed : Closed c.args.a.now ⊎ Closed c.args.b.now =
    elim c.then-closed_at.branch [
      | then-closed_at-via-then-closed_at w ↦ inl (closed_type c.args.a.now w.if-closed_at.true c.closed_at.ensures)
      | then-closed_at-via-else-closed_at+then-closed_at-2 w ↦ inr (closed_type c.args.b.now w.if-closed_at-2.true w.closed_at-else-closed_at.ensures)
    ] in
    deliver-as c.args.res.now c.write_closed.ensures
    (joined-closed _ _ c.requires (λ i. omega (arith, c.type_inv.a i)) (λ i. omega (arith, c.type_inv.b i)) c.in-Some.ensures (grind arith) _ _ closed c.opening_at.ensures c.opening_at-in-Some.ensures _ c.join_dims.ensures
    ∙ ap (λ x. accepted (closed_record (dims_of c.join_dims.result) x)) (sym c.code.ensures))

pub returns : goal.returns
returns c =
    deliver-as c.args.res.now c.write_union.ensures
    (joined _ _ c.requires (λ i. omega (arith, c.type_inv.a i)) (λ i. omega (arith, c.type_inv.b i)) c.shape_at.result c.shape_at-2.result c.shape_at.ensures c.shape_at-2.ensures _ c.join-shape.ensures)
