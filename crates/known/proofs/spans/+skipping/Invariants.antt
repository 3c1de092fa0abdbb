use mathlib.Core.Path.{◌≡◌}
use Prim.Native.Nat.{◌+◌, ◌*◌}
use Rattle.model.specs.Types.{Fields, field_count}
use Rattle.known.specs.Known.{FieldsAt}
use Rattle.known.proofs.SpanLaws.{Skipping}
use Rattle.known.proofs.spans.+skipping.Given as goal

abbrev pub decreases-skip_fields : goal.decreases-skip_fields
decreases-skip_fields l = 3 * l.depth + 1

abbrev pub decreases-skip_scalar : goal.decreases-skip_scalar
decreases-skip_scalar l = 3 * l.depth + 2

abbrev pub decreases-skip_type : goal.decreases-skip_type
decreases-skip_type l = 3 * l.depth

abbrev pub invariant-skip_fields-loop : goal.invariant-skip_fields-loop
invariant-skip_fields-loop l = (f : Fields) → FieldsAt l.s l.start l.depth f → field_count f ≡ l.count → Skipping l.s l.start l.depth f l.types l.deepest l.at l.counter
