-- The size that a number stands for (document 01, "val.rs" with refusals 4 and 13): a whole number from 0 to 2^53 is that size, -0 is
-- size 0, and infinity is ?. NaN, a negative number or a fraction is 13, a whole number above 2^53 is 4.
-- The two readings part at minus infinity: ? for `as_dim`, 13 for `as_dims` and `spec`, which is case (g).
use Rattle.std.specs.Prelude.{Bool, cond, ℕ, eqb, Float}
use Rattle.model.specs.Refusals.{oversized, not_a_size}
use Rattle.number.specs.Class.{Class, not_a_number, infinite, fraction, whole, larger, class_of, magnitude}

-- A refusal has its number in the table of document 01.
pub data SizeOutcome : Type 0 where
  size : ℕ → SizeOutcome
  unknown : SizeOutcome
  refused : ℕ → SizeOutcome

-- the whole number n, at most 2^53, with a minus where s is true
abbrev pub size_of_whole : Bool → ℕ → SizeOutcome
size_of_whole s n = cond (eqb n 0) (size 0) (cond s (refused not_a_size) (size n))

-- a number of a class and a magnitude, where minus infinity is m
abbrev pub size_of : SizeOutcome → Class → ℕ → SizeOutcome
size_of m not_a_number n = refused not_a_size
size_of m (infinite s) n = cond s m unknown
size_of m fraction n = refused not_a_size
size_of m (whole s) n = size_of_whole s n
size_of m (larger s) n = cond s (refused not_a_size) (refused oversized)

-- the number itself, for `as_dim`
abbrev pub as_dim : Float → SizeOutcome
as_dim x = size_of unknown (class_of x) (magnitude x)

-- a number of a list, for `as_dims` and `spec`
abbrev pub listed_dim : Float → SizeOutcome
listed_dim x = size_of (refused not_a_size) (class_of x) (magnitude x)
