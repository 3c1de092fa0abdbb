use mathlib.Core.Path.{◌≡◌}
use lib.ListN.{length}
use lib.Seq.{paste}
use Rattle.text.specs.Digits.{unhex}
use Rattle.text.proofs.parse.lay_decoded.Given as goal

abbrev pub invariant-loop-i : goal.invariant-loop-i
invariant-loop-i l = record { room : length l.out ≡ length l.initial.out; laid : l.out ≡ paste l.initial.out l.at (unhex l.text) l.i }
