use mathlib.Core.Path.{◌≡◌}
use Prim.Native.Nat.{◌-◌, ◌≤◌}
use lib.ListN.{length}
use Rattle.record.specs.Answers.{dims_of}
use Rattle.shape.specs.Answers.{rule_for}
use Rattle.shape.proofs.PervadeLaws.{Walked}
use Rattle.shape.proofs.pervade.pervade_dims.Given as goal

abbrev pub invariant-loop-i : goal.invariant-loop-i
invariant-loop-i l = (l.i ≤ l.count) × (length l.sizes ≡ 8) × Walked (rule_for l.filling) (dims_of l.a) (dims_of l.b) l.sizes l.i

abbrev pub decreases-loop-i : goal.decreases-loop-i
decreases-loop-i l = l.count - l.i
