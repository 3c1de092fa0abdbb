-- Examples of numbers as kinds and sizes, beside the paper's cases (crate `cases`): its examples of refusals 4 and 13, and corners of
-- the rules. Each holds by computation. `fin s m e` is the number m * 2 ^ e, negative where s is true.
use Rattle.std.specs.Prelude.{◌≡◌, refl, true, false, List, [], ◌∷◌, pos, negsuc, Float}
use Rattle.std.specs.Float.{nan, inf, fin}
use Rattle.std.specs.Float.Ieee.{lt}
use Rattle.model.specs.Limits.{max_size, ones}
use Rattle.model.specs.Refusals.{out_of_range, oversized, not_a_size}
use Rattle.model.specs.Types.{bool, nat, int, num}
use Rattle.number.specs.Size.{size, unknown, refused, as_dim, listed_dim}
use Rattle.number.specs.Sizes.{sizes, refused_at, sizes_from, listed_dims}
use Rattle.number.specs.Kind.{kind_of_numbers}

-- ---- how the numbers are written

abbrev pub zero : Float
zero = fin false 0 (pos 0)

abbrev pub minus_zero : Float
minus_zero = fin true 0 (pos 0)

abbrev pub half : Float
half = fin false 1 (negsuc 0)

abbrev pub one : Float
one = fin false 1 (pos 0)

abbrev pub minus_one : Float
minus_one = fin true 1 (pos 0)

abbrev pub two : Float
two = fin false 1 (pos 1)

abbrev pub three : Float
three = fin false 3 (pos 0)

-- 2^53, and the next number above it
abbrev pub limit : Float
limit = fin false 1 (pos 53)

abbrev pub past_limit : Float
past_limit = fin false 4503599627370497 (pos 1)

-- 2^60 and -2^60
abbrev pub huge : Float
huge = fin false 1 (pos 60)

abbrev pub minus_huge : Float
minus_huge = fin true 1 (pos 60)

abbrev pub infinity : Float
infinity = inf false

abbrev pub minus_infinity : Float
minus_infinity = inf true

abbrev pub eight_ones : List Float
eight_ones = one ∷ one ∷ one ∷ one ∷ one ∷ one ∷ one ∷ one ∷ []

-- ---- kinds

pub kind_empty : kind_of_numbers [] ≡ bool
kind_empty = refl

-- too large for a size, and whole all the same
pub kind-huge : (kind_of_numbers (huge ∷ []) ≡ nat) × (kind_of_numbers (minus_huge ∷ []) ≡ int)
unfolding lt
kind-huge = (refl, refl)

-- one fraction or NaN outweighs every other number, wherever it stands
pub kind-mixed : (kind_of_numbers (minus_one ∷ two ∷ half ∷ []) ≡ num) × (kind_of_numbers (nan ∷ minus_one ∷ []) ≡ num)
unfolding lt
kind-mixed = (refl, refl)

-- ---- a number as a size

pub infinity-unknown : (as_dim infinity ≡ unknown) × (listed_dim infinity ≡ unknown)
infinity-unknown = (refl, refl)

pub refusal_4 : (as_dim huge ≡ refused oversized) × (as_dim past_limit ≡ refused oversized)
refusal_4 = (refl, refl)

pub refusal_13 : (as_dim half ≡ refused not_a_size) × (as_dim nan ≡ refused not_a_size) × (as_dim minus_one ≡ refused not_a_size) × (as_dim minus_huge ≡ refused not_a_size)
refusal_13 = (refl, refl, refl, refl)

pub size-ends : (as_dim zero ≡ size 0) × (as_dim minus_zero ≡ size 0) × (as_dim limit ≡ size max_size)
size-ends = (refl, refl, refl)

-- ---- a list of sizes

pub listed-sizes : (listed_dims [] ≡ sizes []) × (listed_dims (two ∷ infinity ∷ minus_zero ∷ []) ≡ sizes (2 ∷ ones ∷ 0 ∷ []))
unfolding sizes_from
listed-sizes = (refl, refl)

-- the first bad index, whatever stands after it
pub listed-first : listed_dims (two ∷ huge ∷ half ∷ []) ≡ refused_at oversized 1
unfolding sizes_from
listed-first = refl

-- eight numbers are a shape, and nine are too many before any of them is looked at
pub listed-count : (listed_dims eight_ones ≡ sizes (1 ∷ 1 ∷ 1 ∷ 1 ∷ 1 ∷ 1 ∷ 1 ∷ 1 ∷ [])) × (listed_dims (nan ∷ eight_ones) ≡ refused_at out_of_range 0)
unfolding sizes_from
listed-count = (refl, refl)
