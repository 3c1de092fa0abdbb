use Prim.Native.Nat.{◌*◌}
use mathlib.Core.Path.{◌≡◌}
use lib.ListN.{length}
use lib.Seq.{paste}
use Rattle.text.specs.Digits.{hex_of}
use Rattle.text.proofs.render.lay_hex.Given as goal

abbrev pub invariant-loop-i : goal.invariant-loop-i
invariant-loop-i l = record { room : length l.out ≡ length l.initial.out; laid : l.out ≡ paste l.initial.out l.at (hex_of l.bytes) (2 * l.i) }
