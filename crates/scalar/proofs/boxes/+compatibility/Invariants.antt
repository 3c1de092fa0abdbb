use Prim.Native.Nat.{◌+◌, ◌*◌}
use Rattle.scalar.proofs.boxes.+compatibility.Given as goal

abbrev pub decreases-compatible_boxes : goal.decreases-compatible_boxes
decreases-compatible_boxes l = 2 * l.depth + 1

abbrev pub decreases-compatible_contents : goal.decreases-compatible_contents
decreases-compatible_contents l = 2 * l.depth
