-- A text, or the bytes that it stands for, put into a buffer from a place on.
use Rattle.std.specs.Prelude.{ℕ, ◌+◌, cond, List, length, leb}
use Rattle.lent.specs.Over.{over}
use Rattle.text.specs.Digits.{is_hex, unhex}

-- What became of it, with what the buffer then holds: the place after it, or why nothing was put.
pub data Placing : Type 0 where
  placed : ℕ → List ℕ → Placing
  no_room : List ℕ → Placing
  not_hex : List ℕ → Placing

unfoldable pub place : List ℕ → ℕ → List ℕ → Placing
place d at w = cond (leb (at + length w) (length d)) (placed (at + length w) (over d at w)) (no_room d)

unfoldable pub place_decoded : List ℕ → ℕ → List ℕ → Placing
place_decoded d at s = cond (is_hex s) (place d at (unhex s)) (not_hex d)
