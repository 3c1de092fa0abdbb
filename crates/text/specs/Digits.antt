-- Bytes and numbers as text: what characters stand for, and what is written. A text is the list of its ASCII codes.
use Rattle.std.specs.Prelude.{ℕ, zero, suc, ◌+◌, ◌-◌, ◌*◌, ◌/◌, ◌%◌, ◌^◌, Bool, true, cond, ◌&&◌, List, [], ◌∷◌, ◌++◌, length, leb, ltb, eqb}
use Rattle.std.proofs.Math.Option.{Option, none, some}
use Rattle.io.specs.Digits.{hex_digit_ascii}

-- ---- reading

abbrev pub between : ℕ → ℕ → ℕ → Bool
between low high c = leb low c && leb c high

-- What a character is worth as a digit: 0 to 9, a to f in either case; 16, more than any digit, where it is none.
unfoldable pub digit : ℕ → ℕ
digit c = cond (between 48 57 c) (c - 48) (cond (between 97 102 c) (c - 87) (cond (between 65 70 c) (c - 55) 16))

-- All characters are digits of the base.
unfoldable pub are_digits : ℕ → List ℕ → Bool
are_digits base [] = true
are_digits base (c ∷ cs) = ltb (digit c) base && are_digits base cs

-- The number that digits stand for, the high one first, after those that gave n.
unfoldable pub number_after : ℕ → ℕ → List ℕ → ℕ
number_after base n [] = n
number_after base n (c ∷ cs) = number_after base (n * base + digit c) cs

-- A number in digits of a base, if it fits 64 bits.
unfoldable pub numeral : ℕ → List ℕ → Option ℕ
numeral base s = cond (are_digits base s && ltb (number_after base 0 s) (2 ^ 64)) (some (number_after base 0 s)) none

-- A decimal number: at least one digit.
abbrev pub decimal : List ℕ → Option ℕ
decimal s = cond (leb 1 (length s)) (numeral 10 s) none

-- The bits of a number: sixteen hexadecimal digits.
abbrev pub bits : List ℕ → Option ℕ
bits s = cond (eqb (length s) 16) (numeral 16 s) none

-- Hexadecimal bytes: two digits each, the high one first.
abbrev pub is_hex : List ℕ → Bool
is_hex s = eqb (length s % 2) 0 && are_digits 16 s

unfoldable pub unhex : List ℕ → List ℕ
unhex [] = []
unhex (h ∷ []) = []
unhex (h ∷ l ∷ s) = (16 * digit h + digit l) ∷ unhex s

-- ---- writing

unfoldable pub hex_of : List ℕ → List ℕ
hex_of [] = []
hex_of (b ∷ s) = hex_digit_ascii (b / 16) ∷ hex_digit_ascii (b % 16) ∷ hex_of s

-- The decimal digits of a number that has at most so many, with no zero before another digit.
unfoldable pub decimal_within : ℕ → ℕ → List ℕ
decimal_within zero n = []
decimal_within (suc k) n = cond (ltb n 10) (hex_digit_ascii n ∷ []) (decimal_within k (n / 10) ++ (hex_digit_ascii (n % 10) ∷ []))

-- A number of 64 bits has at most twenty.
abbrev pub decimal_of : ℕ → List ℕ
decimal_of n = decimal_within 20 n
