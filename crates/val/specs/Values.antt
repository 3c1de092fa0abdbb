-- A value handed in is a number, a list of numbers or a type (document 01, "val.rs", in its order): `ty`, `spec`, `scalar`, `row_count`,
-- `rank`, `as_dim`, `as_dims` and the three rows. Where the length of a list becomes a size, in `ty` and `row_count`, it is refused 4
-- above 2^53, at place 0.
use Rattle.std.specs.Prelude.{ℕ, cond, List, [], ◌∷◌, map, leb, Float, length}
use Rattle.std.proofs.Math.Option.{Option, none, some}
use Rattle.model.specs.Limits.{max_size}
use Rattle.model.specs.Refusals.{oversized}
use Rattle.model.specs.Types.{Dim, static, unknown, shape, num, any, Scalar, plain, Ty, ty, shape_of, scalar_of}
use Rattle.format.specs.Records.{dim_of, write_ty}
use Rattle.format.specs.Outcome.{Outcome, accepted, refused, mapped, Delivery, deliver}
use Rattle.number.specs.Kind.{kind_of_numbers}
use Rattle.number.specs.Size.{SizeOutcome, size, unknown as unknown_size, refused as no_size_given, as_dim, listed_dim}
use Rattle.number.specs.Sizes.{SizesOutcome, sizes, refused_at, listed_dims}
use Rattle.rules.specs.Shapes.{scalar_shape, row_count, rank}
use Rattle.rules.specs.Types.{into_row, into_first_row, into_last_row}

pub data Value : Type 0 where
  number : Float → Value
  numbers : List Float → Value
  typed : Ty → Value

-- ---- `ty`

-- the length of a list as a size
unfoldable pub length_dim : List Float → Outcome Dim
length_dim xs = cond (leb (length xs) max_size) (accepted (static (length xs))) (refused oversized 0)

-- [] Num, and [d] Num
abbrev pub num_ty : Ty
num_ty = ty scalar_shape (plain num)

abbrev pub numbers_ty : Dim → Ty
numbers_ty d = ty (shape (d ∷ []) none) (plain num)

unfoldable pub value_ty : Value → Outcome Ty
value_ty (number x) = accepted num_ty
value_ty (numbers xs) = mapped numbers_ty (length_dim xs)
value_ty (typed t) = accepted t

-- ---- `spec`

-- the size of a number by itself, whose index is 0
abbrev pub dim_alone : SizeOutcome → Outcome Dim
dim_alone (size n) = accepted (static n)
dim_alone unknown_size = accepted unknown
dim_alone (no_size_given k) = refused k 0

-- the sizes of a list, in which all ones is ?
abbrev pub dims_listed : SizesOutcome → Outcome (List Dim)
dims_listed (sizes ns) = accepted (map dim_of ns)
dims_listed (refused_at k p) = refused k p

-- the scalar Any under a closed shape of these sizes
abbrev pub any_sized : List Dim → Ty
any_sized ds = ty (shape ds none) (plain any)

abbrev pub any_of_size : Dim → Ty
any_of_size d = any_sized (d ∷ [])

unfoldable pub value_spec : Value → Outcome Ty
value_spec (number x) = mapped any_of_size (dim_alone (listed_dim x))
value_spec (numbers xs) = mapped any_sized (dims_listed (listed_dims xs))
value_spec (typed t) = accepted t

-- ---- `scalar`

unfoldable pub nums_scalar : List Float → Scalar
nums_scalar xs = plain (kind_of_numbers xs)

unfoldable pub value_scalar : Value → Scalar
value_scalar (number x) = nums_scalar (x ∷ [])
value_scalar (numbers xs) = nums_scalar xs
value_scalar (typed t) = scalar_of t

-- ---- `row_count` and `rank`

unfoldable pub value_row_count : Value → Outcome Dim
value_row_count (number x) = accepted (static 1)
value_row_count (numbers xs) = length_dim xs
value_row_count (typed t) = accepted (row_count (shape_of t))

unfoldable pub value_rank : Value → ℕ
value_rank (number x) = 0
value_rank (numbers xs) = 1
value_rank (typed t) = rank (shape_of t)

-- ---- `as_dim` and `as_dims`

-- None for anything but a number, and for anything but a list.
unfoldable pub value_as_dim : Value → Outcome (Option Dim)
value_as_dim (number x) = mapped some (dim_alone (as_dim x))
value_as_dim (numbers xs) = accepted none
value_as_dim (typed t) = accepted none

unfoldable pub value_as_dims : Value → Outcome (Option (List Dim))
value_as_dims (number x) = accepted none
value_as_dims (numbers xs) = mapped some (dims_listed (listed_dims xs))
value_as_dims (typed t) = accepted none

-- ---- rows

-- A row is a value again: a number or a type.
pub data Row : Type 0 where
  row_number : Float → Row
  row_typed : Ty → Row

-- A list of one number gives it; every other list gives the row of its type, whatever its length.
unfoldable pub list_row : List Float → Row
list_row [] = row_typed num_ty
list_row (x ∷ []) = row_number x
list_row (x ∷ y ∷ xs) = row_typed num_ty

-- An empty list's first and last row is its row.
unfoldable pub list_first : List Float → Row
list_first [] = list_row []
list_first (x ∷ xs) = row_number x

unfoldable pub list_last : List Float → Row
list_last [] = list_row []
list_last (x ∷ []) = row_number x
list_last (x ∷ y ∷ xs) = list_last (y ∷ xs)

-- A row of a value, by the rows of lists and of types: a number is its own.
abbrev pub value_row_by : (List Float → Row) → (Ty → Ty) → Value → Row
value_row_by of_list of_type (number x) = row_number x
value_row_by of_list of_type (numbers xs) = of_list xs
value_row_by of_list of_type (typed t) = row_typed (of_type t)

unfoldable pub value_row : Value → Row
value_row v = value_row_by list_row into_row v

unfoldable pub value_first_row : Value → Row
value_first_row v = value_row_by list_first into_first_row v

unfoldable pub value_last_row : Value → Row
value_last_row v = value_row_by list_last into_last_row v

-- A row that is a number is handed back beside the result buffer, which stays as lent; a type is delivered to the buffer.
pub data RowDelivery : Type 0 where
  handed : Float → List ℕ → RowDelivery
  written : Delivery → RowDelivery

unfoldable pub deliver_row : Outcome Row → List ℕ → RowDelivery
deliver_row (refused k p) buffer = written (deliver (refused k p) buffer)
deliver_row (accepted (row_number x)) buffer = handed x buffer
deliver_row (accepted (row_typed t)) buffer = written (deliver (accepted (write_ty t)) buffer)
