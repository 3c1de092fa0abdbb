-- What a number is (document 01, "Our forms for each place", its first line: fraction, NaN, infinity or whole up to 2^53).
-- A finite float `fin s m e` is the real number m * 2 ^ e, negative where s is true. As a fraction of two natural numbers that is
-- m * up e / down e, and the class is asked of this fraction: nothing here knows how a float's bits are laid out.
use Rattle.std.specs.Prelude.{Bool, cond, ℕ, ◌*◌, ◌/◌, ◌%◌, eqb, leb, Float}
use Rattle.std.specs.Float.{nan, inf, fin}
use Rattle.std.specs.Float.Ieee.{up, down}
use Rattle.model.specs.Limits.{max_size}

-- A Bool says whether the sign is minus, also that of -0. `whole` reaches up to 2^53 in magnitude, `larger` is whole beyond it.
pub data Class : Type 0 where
  not_a_number : Class
  infinite : Bool → Class
  fraction : Class
  whole : Bool → Class
  larger : Bool → Class

-- the whole number n, with a minus where s is true
abbrev pub class_of_whole : Bool → ℕ → Class
class_of_whole s n = cond (leb n max_size) (whole s) (larger s)

-- the number a / c, with a minus where s is true
abbrev pub class_of_ratio : Bool → ℕ → ℕ → Class
class_of_ratio s a c = cond (eqb (a % c) 0) (class_of_whole s (a / c)) fraction

abbrev pub class_of : Float → Class
class_of nan = not_a_number
class_of (inf s) = infinite s
class_of (fin s m e) = class_of_ratio s (m * up e) (down e)

-- how large a whole number is, the sign aside
abbrev pub magnitude : Float → ℕ
magnitude nan = 0
magnitude (inf s) = 0
magnitude (fin s m e) = m * up e / down e
