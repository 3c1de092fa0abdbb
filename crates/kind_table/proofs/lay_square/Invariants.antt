use mathlib.Core.Path.{◌≡◌}
use lib.ListN.{take}
use Rattle.lent.specs.Over.{over}
use Rattle.rules.specs.KindTable.{in_a_row}
use Rattle.kind_table.proofs.lay_square.Given as goal

abbrev pub invariant-loop-i : goal.invariant-loop-i
invariant-loop-i l = l.out ≡ over l.initial.out l.at (in_a_row (take l.i l.square))
