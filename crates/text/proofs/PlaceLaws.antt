-- Laws of what is put into a buffer.
use Prim.Native.Nat.{ℕ, ◌+◌, ◌%◌, ◌≤◌, ◌<◌}
use mathlib.Core.Bool.{true, false}
use mathlib.Core.List.{List}
use mathlib.Core.Path.{◌≡◌}
use lib.ListN.{length}
use borrow.Author.Tests.{le-leb, lt-leb, eq-eqb, ne_eqb}
use Rattle.lent.specs.Over.{over}
use Rattle.text.specs.Digits.{are_digits, unhex}
use Rattle.text.specs.Place.{placed, no_room, not_hex, place, place_decoded}

module _ (d : List ℕ) (at : ℕ) (w : List ℕ) where
  pub place_short : length d < at + length w → place d at w ≡ no_room d
  unfolding place
  place_short h = rw (lt-leb (at + length w) (length d) h)

  pub place_fits : at + length w ≤ length d → place d at w ≡ placed (at + length w) (over d at w)
  unfolding place
  place_fits h = rw (le-leb (at + length w) (length d) h)

module _ (d : List ℕ) (at : ℕ) (s : List ℕ) where
  pub decode_odd : (length s % 2 ≡ 0 → ⊥) → place_decoded d at s ≡ not_hex d
  unfolding place_decoded
  decode_odd h = rw (ne_eqb (length s % 2) 0 h)

  module _ (even : length s % 2 ≡ 0) where
    pub decode_wrong : are_digits 16 s ≡ false → place_decoded d at s ≡ not_hex d
    unfolding place_decoded
    decode_wrong e = rw (eq-eqb (length s % 2) 0 even, e)

    pub decode_right : are_digits 16 s ≡ true → place_decoded d at s ≡ place d at (unhex s)
    unfolding place_decoded
    decode_right e = rw (eq-eqb (length s % 2) 0 even, e)

pub ruleset decodes = (place_short, place_fits, decode_odd, decode_wrong, decode_right)
