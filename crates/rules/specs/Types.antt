-- Types (document 01, "ty.rs"): the join of types, the rows, `unboxed`, `as_boxes`, and field n of a Def.
-- Where the Rust has a default type, it is [..] of Any.
use Rattle.std.specs.Prelude.{ℕ, zero, suc, ◌+◌, Bool, ◌&&◌, cond, List, [], ◌∷◌, ◌++◌, length, eqb, leb}
use Rattle.std.proofs.Math.Option.{Option, none, some}
use Rattle.model.specs.Limits.{max_fields}
use Rattle.model.specs.Refusals.{too_many}
use Rattle.model.specs.Types.{Dim, static, unknown, Shape, any, Scalar, plain, box_any, box_all, box_def, Fields, no_fields, field, Ty, ty, box_of, field_of, field_count}
use Rattle.format.specs.Records.{code, count_of, list_of, box_start, write_shape, write_fields, write_ty}
use Rattle.format.specs.Outcome.{Outcome, accepted, refused}
use Rattle.rules.specs.Shapes.{any_shape, is_scalar, is_any, rank, row_count, row_shape, join_shapes}
use Rattle.rules.specs.Order.{code_of}
use Rattle.rules.specs.Scalars.{union}

-- [..] of Any
abbrev pub any_ty : Ty
any_ty = ty any_shape (plain any)

-- A wholly Any type.
unfoldable pub wholly_any : Ty → Bool
wholly_any (ty s k) = is_any s && eqb (code_of k) (code any)

unfoldable pub join_types : Ty → Ty → Ty
join_types (ty s k) (ty t l) = ty (join_shapes s t) (union k l)

-- ---- fields

-- Field n, counted from 0.
unfoldable pub field_in : ℕ → Fields → Option Ty
field_in n no_fields = none
field_in zero (field s k f) = some (ty s k)
field_in (suc n) (field s k f) = field_in n f

-- The first, the last and the n-th field: the first again if n is too large, [..] of Any if there is none.
unfoldable pub first_field : Fields → Ty
first_field no_fields = any_ty
first_field (field s k f) = ty s k

unfoldable pub last_field : Fields → Ty
last_field no_fields = any_ty
last_field (field s k no_fields) = ty s k
last_field (field s k (field t l f)) = last_field (field t l f)

abbrev pub or_else : Option Ty → Ty → Ty
or_else none t = t
or_else (some u) t = u

unfoldable pub nth_field : ℕ → Fields → Ty
nth_field n f = or_else (field_in n f) (first_field f)

-- ---- rows

-- At rank 1 a Def's row is All of a field; every other scalar stays.
unfoldable pub row_scalar : (Fields → Ty) → Shape → Scalar → Scalar
row_scalar choose s (plain k) = plain k
row_scalar choose s box_any = box_any
row_scalar choose s (box_all t k) = box_all t k
row_scalar choose s (box_def n f) = cond (eqb (rank s) 1) (box_of (choose f)) (box_def n f)

unfoldable pub row_by : (Fields → Ty) → Ty → Ty
row_by choose (ty s k) = ty (row_shape s) (row_scalar choose s k)

abbrev pub into_row : Ty → Ty
into_row t = row_by first_field t

abbrev pub into_first_row : Ty → Ty
into_first_row t = row_by first_field t

abbrev pub into_last_row : Ty → Ty
into_last_row t = row_by last_field t

abbrev pub into_nth_row : ℕ → Ty → Ty
into_nth_row n t = row_by (nth_field n) t

-- ---- `unboxed`

-- A lone box's content, a Def's first field; a shape other than [] stays as it is.
unfoldable pub unboxed : Ty → Ty
unboxed (ty s (plain k)) = ty s (plain k)
unboxed (ty s box_any) = cond (is_scalar s) any_ty (ty s box_any)
unboxed (ty s (box_all t k)) = cond (is_scalar s) (ty t k) (ty s (box_all t k))
unboxed (ty s (box_def n f)) = cond (is_scalar s) (first_field f) (ty s (box_def n f))

-- ---- `as_boxes`

-- A name or none, and types.
pub data Boxes : Type 0 where
  boxes : Option (List ℕ) → Fields → Boxes

unfoldable pub copies : ℕ → Ty → Fields
copies zero t = no_fields
copies (suc n) t = field_of t (copies n t)

-- As many copies as there are rows: ? rows give one, more than 31 are refused.
unfoldable pub copies_for : Dim → Ty → Outcome (Option Boxes)
copies_for unknown t = accepted (some (boxes none (copies 1 t)))
copies_for (static n) t = cond (leb n max_fields) (accepted (some (boxes none (copies n t)))) (refused too_many 0)

-- None for what is no box. A Def's own fields are listed whatever the row count.
unfoldable pub as_boxes : Ty → Outcome (Option Boxes)
as_boxes (ty s (plain k)) = accepted none
as_boxes (ty s box_any) = copies_for (row_count s) any_ty
as_boxes (ty s (box_all t k)) = copies_for (row_count s) (ty t k)
as_boxes (ty s (box_def n f)) = accepted (some (boxes n f))

-- Name, count and types in Def's layout.
unfoldable pub write_boxes : Boxes → List ℕ
write_boxes (boxes n f) = count_of n ∷ (list_of n ++ (field_count f ∷ write_fields f))

-- ---- field n of a Def

-- the field itself, none of what is no Def; what a call answers is where it stands, below (`field-bytes`)
unfoldable pub field_at : ℕ → Ty → Option Ty
field_at n (ty s (plain k)) = none
field_at n (ty s box_any) = none
field_at n (ty s (box_all t k)) = none
field_at n (ty s (box_def m f)) = field_in n f

-- A stretch of bytes: its start and its length.
pub data Stretch : Type 0 where
  stretch : ℕ → ℕ → Stretch

-- field n of fields that are written from `at` on
unfoldable pub stretch_in : ℕ → ℕ → Fields → Option Stretch
stretch_in at n no_fields = none
stretch_in at zero (field s k f) = some (stretch at (length (write_ty (ty s k))))
stretch_in at (suc n) (field s k f) = stretch_in (at + length (write_ty (ty s k))) n f

-- what is written of a Def's type before its fields
abbrev pub before_fields : Shape → Option (List ℕ) → Fields → List ℕ
before_fields s m f = write_shape s ++ (box_start 2 ++ (count_of m ∷ (list_of m ++ (field_count f ∷ []))))

-- The stretch of field n in the bytes of the type.
unfoldable pub field_place : ℕ → Ty → Option Stretch
field_place n (ty s (plain k)) = none
field_place n (ty s box_any) = none
field_place n (ty s (box_all t k)) = none
field_place n (ty s (box_def m f)) = stretch_in (length (before_fields s m f)) n f
