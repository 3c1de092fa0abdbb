-- The ways of saying no (document 01, "Thirteen ways of saying no", and the numbers that document 02 adds): each refusal's number, with a
-- name for it. Definitions cite the names; the numbers stand here alone.
use Rattle.std.specs.Prelude.{ℕ, Bool, true, false, ◌||◌, List, [], ◌∷◌, ◌≡◌, eqb}

-- bytes end inside a record or a type
abbrev pub ended : ℕ
ended = 1

-- no mark that is allowed here
abbrev pub unmarked : ℕ
unmarked = 2

-- a count, code, flag or name byte out of range; more than eight numbers for a shape
abbrev pub out_of_range : ℕ
out_of_range = 3

-- a size above 2^53 that is not all ones
abbrev pub oversized : ℕ
oversized = 4

-- more than 32 types, depth 8 or 31 copies
abbrev pub too_many : ℕ
too_many = 5

-- bytes after a lone type
abbrev pub trailing : ℕ
trailing = 6

-- a result buffer or a scratch that is too short
abbrev pub too_short : ℕ
too_short = 7

-- pervading, scalar and shape mismatch; of the last, a size that differs (document 02, 2026-03)
abbrev pub unpervaded : ℕ
unpervaded = 8

abbrev pub wrong_scalar : ℕ
wrong_scalar = 9

abbrev pub wrong_shape : ℕ
wrong_shape = 10

-- a step that lacks types; a seventh type or a 65th step
abbrev pub underflow : ℕ
underflow = 11

abbrev pub overflow : ℕ
overflow = 12

-- NaN, a negative number or a fraction as a size
abbrev pub not_a_size : ℕ
not_a_size = 13

-- a shape mismatch whose count cannot fit (document 02, 2026-03)
abbrev pub wrong_count : ℕ
wrong_count = 14

-- a name never declared before its use; a seventeenth name (document 02, 2026-06)
abbrev pub undeclared : ℕ
undeclared = 15

abbrev pub too_many_names : ℕ
too_many_names = 16

-- ---- lists of them

-- all of them, sixteen
abbrev pub refusals : List ℕ
refusals = ended ∷ unmarked ∷ out_of_range ∷ oversized ∷ too_many ∷ trailing ∷ too_short ∷ unpervaded ∷ wrong_scalar ∷ wrong_shape ∷ underflow ∷ overflow ∷ not_a_size ∷ wrong_count ∷ undeclared ∷ too_many_names ∷ []

-- a number is one of a list
abbrev pub is_among : List ℕ → ℕ → Bool
is_among [] k = false
is_among (n ∷ ns) k = eqb k n || is_among ns k

abbrev pub Among : List ℕ → ℕ → Type 0
Among ns k = is_among ns k ≡ true
