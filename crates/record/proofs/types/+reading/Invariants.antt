use Prim.Native.Nat.{◌+◌, ◌-◌, ◌*◌}
use mathlib.Core.Path.{◌≡◌}
use Rattle.model.specs.Types.{among}
use Rattle.format.specs.Reader.{map_read}
use Rattle.format.specs.Records.{read_fields, read_ty}
use Rattle.record.proofs.types.+reading.Given as goal

abbrev pub decreases-read_type : goal.decreases-read_type
decreases-read_type l = 5 * l.depth

abbrev pub decreases-read_scalar : goal.decreases-read_scalar
decreases-read_scalar l = 5 * l.depth + 4

abbrev pub decreases-read_box : goal.decreases-read_box
decreases-read_box l = 5 * l.depth + 3

abbrev pub decreases-read_def : goal.decreases-read_def
decreases-read_def l = 5 * l.depth + 2

abbrev pub decreases-read_fields : goal.decreases-read_fields
decreases-read_fields l = 5 * l.depth + 1

-- the rest of the fields is read from the place reached
abbrev pub invariant-read_fields-loop : goal.invariant-read_fields-loop
invariant-read_fields-loop l =
    map_read (λ f. l.still - among f) (read_fields l.s (read_ty l.s l.depth) (l.count - l.counter) l.still l.at) ≡ map_read (λ f. l.left - among f) (read_fields l.s (read_ty l.s l.depth) l.count l.left l.start)
