-- What numbers, lists of numbers and values are refused with.
use Rattle.std.specs.Prelude.{ℕ, zero, suc, Bool, true, false, cond, List, [], ◌∷◌, refl, eqb, leb, ltb, Float, length}
use Rattle.std.proofs.Math.Option.{some}
use Rattle.model.specs.Limits.{max_size, max_sizes}
use Rattle.model.specs.Refusals.{out_of_range, oversized, not_a_size, Among}
use Rattle.model.specs.Within.{All}
use Rattle.format.specs.Outcome.{lone}
use Rattle.number.specs.Class.{Class, not_a_number, infinite, fraction, whole, larger, class_of, magnitude}
use Rattle.number.specs.Size.{SizeOutcome, size, unknown, refused as no_size_given, size_of, as_dim, listed_dim}
use Rattle.number.specs.Sizes.{SizesOutcome, sizes, refused_at, before, at_index, sizes_from, listed_dims}
use Rattle.val.specs.Values.{Value, number, numbers, typed, length_dim, numbers_ty, value_ty, dim_alone, dims_listed, any_sized, any_of_size, value_spec, value_row_count, value_as_dim, value_as_dims}
use Rattle.demand.specs.Numbers.{of_lone, RefusedWith}
use Rattle.demand.proofs.Numbered.{among-more, accepted_with, refused_with, mapped-numbered, lone-numbered}
use Rattle.velgrodis.specs.Codes.{handed_in}
use Rattle.numbered.specs.CallLaws.{more-numbered, either-numbered}

-- ---- numbers

-- a number as a size: 4 and 13; a list of numbers: also 3, for more than eight
abbrev of_number : List ℕ
of_number = oversized ∷ not_a_size ∷ []

abbrev of_numbers : List ℕ
of_numbers = out_of_range ∷ oversized ∷ not_a_size ∷ []

abbrev SizeWith : List ℕ → SizeOutcome → Type 0
SizeWith ns (size n) = Unit {0}
SizeWith ns unknown = Unit {0}
SizeWith ns (no_size_given k) = Among ns k

abbrev SizesWith : List ℕ → SizesOutcome → Type 0
SizesWith ns (sizes l) = Unit {0}
SizesWith ns (refused_at k p) = Among ns k

size-either : (t : Bool) (o q : SizeOutcome) → SizeWith of_number o → SizeWith of_number q → SizeWith of_number (cond t o q)
size-either true o q h k = h
size-either false o q h k = k

-- whatever minus infinity is
size-of : (m : SizeOutcome) → SizeWith of_number m → (c : Class) (n : ℕ) → SizeWith of_number (size_of m c n)
size-of m h not_a_number n = refl
size-of m h (infinite s) n = size-either s m unknown h tt
size-of m h fraction n = refl
size-of m h (whole s) n = size-either (eqb n 0) (size 0) (cond s (no_size_given not_a_size) (size n)) tt (size-either s (no_size_given not_a_size) (size n) refl tt)
size-of m h (larger s) n = size-either s (no_size_given not_a_size) (no_size_given oversized) refl refl

pub as_dim-with : (x : Float) → SizeWith of_number (as_dim x)
as_dim-with x = size-of unknown tt (class_of x) (magnitude x)

pub listed_dim_with : (x : Float) → SizeWith of_number (listed_dim x)
listed_dim_with x = size-of (no_size_given not_a_size) refl (class_of x) (magnitude x)

before_with : (n : ℕ) (o : SizesOutcome) → SizesWith of_numbers o → SizesWith of_numbers (before n o)
before_with n (sizes l) h = tt
before_with n (refused_at k p) h = h

at_with : (i : ℕ) (o : SizeOutcome) (rest : SizesOutcome) → SizeWith of_number o → SizesWith of_numbers rest → SizesWith of_numbers (at_index i o rest)
at_with i (size n) rest h k = before_with n rest k
at_with i unknown rest h k = before_with _ rest k
at_with i (no_size_given j) rest h k = among-more of_number of_numbers (refl, (refl, tt)) j h

from_with : (i : ℕ) (xs : List Float) → SizesWith of_numbers (sizes_from i xs)
unfolding sizes_from
from_with i [] = tt
from_with i (x ∷ xs) = at_with i (listed_dim x) (sizes_from (suc i) xs) (listed_dim_with x) (from_with (suc i) xs)

pub listed_dims_with : (xs : List Float) → SizesWith of_numbers (listed_dims xs)
listed_dims_with xs = go (ltb max_sizes (length xs))
  where
    go : (t : Bool) → SizesWith of_numbers (cond t (refused_at out_of_range 0) (sizes_from 0 xs))
    go true = refl
    go false = from_with 0 xs

-- ---- values, with numbers among which theirs are

module _ {ns : List ℕ} where
  alone_with : All (Among ns) of_number → (o : SizeOutcome) → SizeWith of_number o → RefusedWith ns (dim_alone o)
  alone_with all (size n) h = accepted_with
  alone_with all unknown h = accepted_with
  alone_with all (no_size_given k) h = refused_with (among-more of_number ns all k h)

  listed_with : All (Among ns) of_numbers → (o : SizesOutcome) → SizesWith of_numbers o → RefusedWith ns (dims_listed o)
  listed_with all (sizes l) h = accepted_with
  listed_with all (refused_at k p) h = refused_with (among-more of_numbers ns all k h)

  length_with : Among ns oversized → (xs : List Float) → RefusedWith ns (length_dim xs)
  unfolding length_dim
  length_with h xs = either-numbered (leb (length xs) max_size) accepted_with (refused_with h)

  pub ty_with : Among ns oversized → (v : Value) → RefusedWith ns (value_ty v)
  unfolding value_ty
  ty_with h (number x) = accepted_with
  ty_with h (numbers xs) = mapped-numbered numbers_ty (length_dim xs) (length_with h xs)
  ty_with h (typed t) = accepted_with

  pub row_count_with : Among ns oversized → (v : Value) → RefusedWith ns (value_row_count v)
  unfolding value_row_count
  row_count_with h (number x) = accepted_with
  row_count_with h (numbers xs) = length_with h xs
  row_count_with h (typed t) = accepted_with

  pub spec_with : All (Among ns) of_numbers → (v : Value) → RefusedWith ns (value_spec v)
  unfolding value_spec
  spec_with h (number x) = mapped-numbered any_of_size (dim_alone (listed_dim x)) (alone_with h.1 (listed_dim x) (listed_dim_with x))
  spec_with h (numbers xs) = mapped-numbered any_sized (dims_listed (listed_dims xs)) (listed_with h (listed_dims xs) (listed_dims_with xs))
  spec_with h (typed t) = accepted_with

  pub as_dim_with : All (Among ns) of_number → (v : Value) → RefusedWith ns (value_as_dim v)
  unfolding value_as_dim
  as_dim_with h (number x) = mapped-numbered some (dim_alone (as_dim x)) (alone_with h (as_dim x) (as_dim-with x))
  as_dim_with h (numbers xs) = accepted_with
  as_dim_with h (typed t) = accepted_with

  pub as-dims_with : All (Among ns) of_numbers → (v : Value) → RefusedWith ns (value_as_dims v)
  unfolding value_as_dims
  as-dims_with h (number x) = accepted_with
  as-dims_with h (numbers xs) = mapped-numbered some (dims_listed (listed_dims xs)) (listed_with h (listed_dims xs) (listed_dims_with xs))
  as-dims_with h (typed t) = accepted_with

  -- A value handed in: a kind that is none, or a type that is not read.
  pub handed_with : All (Among ns) of_lone → (kind : ℕ) (x : Float) (list : List Float) (bytes : List ℕ) → RefusedWith ns (handed_in kind x list bytes)
  handed_with h zero x list bytes = accepted_with
  handed_with h (suc zero) x list bytes = accepted_with
  handed_with h (suc (suc zero)) x list bytes = mapped-numbered typed (lone bytes) (more-numbered of_lone h (lone-numbered bytes))
  handed_with h (suc (suc (suc n))) x list bytes = refused_with h.1.1.0
