use Prim.Native.Nat.{◌<◌}
use Rattle.model.specs.Limits.{max_depth}
use Rattle.model.specs.Types.{Fields, field_count}
use Rattle.known.specs.Known.{FieldsAt}
use Rattle.known.proofs.SpanLaws.{Reaching}
use Rattle.known.proofs.spans.field_at.Given as goal

abbrev pub invariant-loop : goal.invariant-loop
invariant-loop l = (f : Fields) → FieldsAt l.s l.fields max_depth f → l.n < field_count f → Reaching l.s l.fields max_depth l.n f l.at l.counter
