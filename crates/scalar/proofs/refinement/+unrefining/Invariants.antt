use mathlib.Core.Path.{◌≡◌}
use lib.ListN.{length}
use Prim.Native.Nat.{◌+◌, ◌*◌}
use Rattle.model.specs.Types.{Fields, field_count}
use Rattle.format.specs.Records.{write_fields}
use Rattle.lent.specs.Over.{over}
use Rattle.rules.specs.Scalars.{unrefine_fields}
use Rattle.known.specs.Known.{FieldsAt}
use Rattle.scalar.proofs.UnrefineLaws.{FieldsLeft}
use Rattle.scalar.proofs.refinement.+unrefining.Given as goal

abbrev pub decreases-unrefine_at : goal.decreases-unrefine_at
decreases-unrefine_at l = 3 * l.depth + 2

abbrev pub decreases-unrefine_fields : goal.decreases-unrefine_fields
decreases-unrefine_fields l = 3 * l.depth + 1

abbrev pub decreases-unrefine_type : goal.decreases-unrefine_type
decreases-unrefine_type l = 3 * l.depth

abbrev pub invariant-unrefine_fields-loop : goal.invariant-unrefine_fields-loop
invariant-unrefine_fields-loop l =
    (f : Fields) → FieldsAt l.initial.out l.start l.depth f → field_count f ≡ l.count → FieldsLeft l.out l.at l.depth l.counter l.count (l.start + length (write_fields f)) (over l.initial.out l.start (write_fields (unrefine_fields f)))
