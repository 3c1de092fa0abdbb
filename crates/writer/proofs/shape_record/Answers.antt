use native.Mathlib.Omega.{arith}
use mathlib.Core.Path.{sym}
use Rattle.model.specs.Limits.{max_depth}
use Rattle.format.specs.Outcome.{lone}
use Rattle.lent.specs.Delivers.{deliver-as}
use Rattle.known.proofs.WholeLaws.{has-type, whole-shape}
use Rattle.writer.proofs.Records.{shape_record-is}
use Rattle.writer.proofs.shape_record.Goals as goal

pub shape_at-requires : goal.shape_at-requires
shape_at-requires c = (max_depth, has-type _ (λ i. omega (arith, c.type_inv.ty i)) (sym c.in_ok-read_lone.ensures))

pub returns : goal.returns
returns c =
    deliver-as _ c.write_shape.ensures (shape_record-is (lone c.args.ty.now) (whole-shape _ (λ i. omega (arith, c.type_inv.ty i)) (sym c.in_ok-read_lone.ensures) c.shape_at.result c.shape_at.ensures))
