-- Examples of values, beside the paper's cases (crate `cases`): what it and the Rust say of the corners, and the row of a list's type.
-- Each holds by computation.
use Rattle.std.specs.Prelude.{List, [], ◌∷◌, ◌≡◌, refl, Float}
use Rattle.std.proofs.Math.Option.{none, some}
use Rattle.std.specs.Float.{nan}
use Rattle.model.specs.Refusals.{out_of_range, oversized, not_a_size}
use Rattle.model.specs.Types.{Dim, static, unknown}
use Rattle.format.specs.Outcome.{accepted, refused}
use Rattle.number.specs.Sizes.{sizes_from}
use Rattle.number.proofs.Examples.{minus_zero, half, one, two, three, huge, infinity, minus_infinity, eight_ones}
use Rattle.rules.specs.Shapes.{row_shape}
use Rattle.rules.specs.Types.{row_scalar, row_by, into_row, into_first_row, into_last_row}
use Rattle.val.specs.Values.{number, numbers, num_ty, numbers_ty, length_dim, value_ty, any_sized, value_spec, value_as_dim, value_as_dims, row_number, row_typed, list_row, list_first, list_last, value_row, value_first_row, value_last_row}

-- ---- types and specs

-- a number's type does not look at it, and its spec is the size that it stands for
pub a-number : (value_ty (number nan) ≡ accepted num_ty) × (value_spec (number three) ≡ accepted (any_sized (static 3 ∷ []))) × (value_spec (number infinity) ≡ accepted (any_sized (unknown ∷ [])))
unfolding value_ty value_spec
a-number = (refl, refl, refl)

-- minus infinity is refused by `spec`, and ? for `as_dim` (case (g))
pub minus-infinity : (value_spec (number minus_infinity) ≡ refused not_a_size 0) × (value_as_dim (number minus_infinity) ≡ accepted (some unknown))
unfolding value_spec value_as_dim
minus-infinity = (refl, refl)

pub a_list : (value_ty (numbers (nan ∷ two ∷ [])) ≡ accepted (numbers_ty (static 2))) × (value_spec (numbers (two ∷ minus_zero ∷ [])) ≡ accepted (any_sized (static 2 ∷ static 0 ∷ [])))
unfolding value_ty length_dim value_spec sizes_from
a_list = (refl, refl)

-- how many numbers there are is judged before the numbers, and these from the front
pub refused-first : (value_spec (numbers (nan ∷ eight_ones)) ≡ refused out_of_range 0) × (value_as_dims (numbers (nan ∷ eight_ones)) ≡ refused out_of_range 0) × (value_spec (numbers (two ∷ huge ∷ half ∷ [])) ≡ refused oversized 1)
unfolding value_spec value_as_dims sizes_from
refused-first = (refl, refl, refl)

-- ---- none

pub none-listed : (xs : List Float) → value_as_dim (numbers xs) ≡ accepted none
unfolding value_as_dim
none-listed xs = refl

pub none-alone : (x : Float) → value_as_dims (number x) ≡ accepted none
unfolding value_as_dims
none-alone x = refl

-- ---- rows

pub rows-of_two : (value_row (numbers (one ∷ two ∷ [])) ≡ row_typed num_ty) × (value_first_row (numbers (one ∷ two ∷ [])) ≡ row_number one) × (value_last_row (numbers (one ∷ two ∷ [])) ≡ row_number two)
unfolding value_row list_row value_first_row list_first value_last_row list_last
rows-of_two = (refl, refl, refl)

pub rows-of_one : (x : Float) → (value_row (numbers (x ∷ [])) ≡ row_number x) × (value_first_row (numbers (x ∷ [])) ≡ row_number x) × (value_last_row (numbers (x ∷ [])) ≡ row_number x)
unfolding value_row list_row value_first_row list_first value_last_row list_last
rows-of_one x = (refl, refl, refl)

pub rows-of_none : (value_row (numbers []) ≡ row_typed num_ty) × (value_first_row (numbers []) ≡ row_typed num_ty) × (value_last_row (numbers []) ≡ row_typed num_ty)
unfolding value_row list_row value_first_row list_first value_last_row list_last
rows-of_none = (refl, refl, refl)

-- [] Num is the row of a list's type by the rules of types, however long the list is
pub row-of_list : (d : Dim) → (into_row (numbers_ty d) ≡ num_ty) × (into_first_row (numbers_ty d) ≡ num_ty) × (into_last_row (numbers_ty d) ≡ num_ty)
unfolding row_by row_shape row_scalar
row-of_list d = (refl, refl, refl)
