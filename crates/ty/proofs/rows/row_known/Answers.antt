use native.Mathlib.Omega.{arith}
use mathlib.Core.Path.{ap, ◌∙◌}
use Rattle.format.specs.Outcome.{accepted, deliver}
use Rattle.record.specs.Answers.{dims_of}
use Rattle.writer.specs.Kinds.{closed_record}
use Rattle.ty.proofs.RowLaws.{row_closed}
use Rattle.ty.proofs.rows.row_known.Goals as goal

pub returns-then-ne : goal.returns-then-ne
returns-then-ne c =
    c.write_closed.ensures
    ∙ ap (λ o. deliver o c.args.res.now)
    (ap (λ x. accepted (closed_record (dims_of c.rest_dims.result) x)) c.code.ensures
    ∙ row_closed _ (λ i. omega (arith, c.type_inv.ty i)) c.requires c.scalar_at.ensures _ c.kind_at-kind.ensures c.opening_at.ensures c.if-closed_at.ensures c.if-ne.ensures c.args.which c.rest_dims.ensures)
