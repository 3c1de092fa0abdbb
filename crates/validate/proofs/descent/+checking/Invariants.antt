use Prim.Native.Nat.{◌+◌, ◌-◌, ◌*◌, ◌≤◌}
use mathlib.Core.Path.{◌≡◌}
use lib.ListN.{length, take}
use Rattle.format.specs.Outcome.{mapped}
use Rattle.model.specs.Limits.{max_depth}
use Rattle.validate.specs.Walk.{fields_piece}
use Rattle.validate.specs.Plans.{TwoLists, fields_after}
use Rattle.validate.proofs.WalkLaws.{Pacing}
use Rattle.validate.proofs.descent.+checking.Given as goal

abbrev pub decreases-check_fields : goal.decreases-check_fields
decreases-check_fields l = 3 * (max_depth - l.above) + 2

abbrev pub decreases-check_scalar_at : goal.decreases-check_scalar_at
decreases-check_scalar_at l = 3 * (max_depth - l.above)

abbrev pub decreases-check_type : goal.decreases-check_type
decreases-check_type l = 3 * (max_depth - l.above) + 1

abbrev pub invariant-check_fields-loop-k : goal.invariant-check_fields-loop-k
invariant-check_fields-loop-k l =
    (length l.out ≡ length l.initial.out)
    × (l.k ≤ l.own.count)
    × ((w : TwoLists l.spec l.wanted l.source l.own l.others l.above)
    → Pacing l.spec l.wanted.moves l.source l.own.moves l.others l.above (mapped (fields_piece (take l.to l.initial.out) 0) (fields_after w)) l.to l.i l.j (l.wanted.count - l.k) (l.own.count - l.k) l.before l.rest (take l.end l.out) l.end)
