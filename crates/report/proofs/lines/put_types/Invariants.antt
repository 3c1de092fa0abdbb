use mathlib.Core.Path.{◌≡◌}
use lib.ListN.{length}
use Rattle.report.proofs.LineLaws.{Shown}
use Rattle.report.proofs.lines.put_types.Given as goal

abbrev pub invariant-loop-i : goal.invariant-loop-i
invariant-loop-i l = (length l.out ≡ length l.initial.out) × Shown l.types l.bytes l.lengths l.between l.initial.out l.at l.out l.i l.from l.end
