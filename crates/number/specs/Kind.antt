-- The kind of a list of numbers (document 01, "scalar.rs", Numbers): any fraction, NaN or infinity gives Num; else any negative Int;
-- else any above 1 Nat; else Bool, also when empty. A whole number counts as whole here however large it is.
use Rattle.std.specs.Prelude.{Bool, true, false, cond, ◌||◌, List, [], ◌∷◌, pos, Float}
use Rattle.std.specs.Float.{fin}
use Rattle.std.specs.Float.Ieee.{lt}
use Rattle.model.specs.Types.{Kind, bool, nat, int, num}
use Rattle.number.specs.Class.{Class, not_a_number, infinite, fraction, whole, larger, class_of}

-- whether one of the numbers is so
abbrev pub any : (Float → Bool) → List Float → Bool
any p [] = false
any p (x ∷ xs) = p x || any p xs

-- a fraction, NaN or infinity
abbrev pub unwhole : Class → Bool
unwhole not_a_number = true
unwhole (infinite s) = true
unwhole fraction = true
unwhole (whole s) = false
unwhole (larger s) = false

abbrev pub not_whole : Float → Bool
not_whole x = unwhole (class_of x)

-- below 0, which -0 is not
abbrev pub negative : Float → Bool
negative x = lt x (fin false 0 (pos 0))

abbrev pub above_one : Float → Bool
above_one x = lt (fin false 1 (pos 0)) x

-- the first of the three that holds decides
abbrev pub kind_by : Bool → Bool → Bool → Kind
kind_by p q r = cond p num (cond q int (cond r nat bool))

abbrev pub kind_of_numbers : List Float → Kind
kind_of_numbers xs = kind_by (any not_whole xs) (any negative xs) (any above_one xs)
