-- Bytes laid over a part of a buffer one after the other: as far as they were laid, and all of them.
use Prim.Native.Nat.{ℕ, ◌+◌, ◌≤◌, ◌<◌}
use native.Mathlib.Omega.{arith}
use native.Mathlib.Numerals.{add-one}
use mathlib.Core.List.{List, ◌++◌}
use mathlib.Core.Path.{◌≡◌, ◌∙◌, ap}
use lib.ListN.{length, get_or, set, take, drop}
use lib.Seq.{paste, paste-suc, take-length}
use Rattle.lent.specs.Over.{over}

-- One byte more.
pub paste_more : (d w now : List ℕ) (at i : ℕ) → at + length w ≤ length d → i < length w → now ≡ paste d at w i → set now (at + i) (get_or w i 0) ≡ paste d at w (i + 1)
paste_more d w now at i fits h e =
    ap (λ (x : List ℕ). set x (at + i) (get_or w i 0)) e
    ∙ rw add-one (paste-suc d at w i 0 (omega arith) (omega arith))

-- All of it, pasted, is laid over.
pub paste_all : (d : List ℕ) (at : ℕ) (w : List ℕ) (n : ℕ) → n ≡ length w → paste d at w n ≡ over d at w
paste_all d at w n e = rw e (ap (λ x. take at d ++ x ++ drop (at + length w) d) (take-length w))
