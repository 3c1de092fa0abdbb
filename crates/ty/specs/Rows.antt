-- Which field of a Def its row is made of, and what a row writes, for the calls of this crate among themselves.
use Rattle.std.specs.Prelude.{ℕ, ◌-◌, cond, List, ltb}
use Rattle.model.specs.Types.{Shape, plain, box_any, box_all, box_def, Fields, Ty, ty, box_of}
use Rattle.format.specs.Records.{write_ty}
use Rattle.rules.specs.Types.{first_field, last_field, nth_field}
use Rattle.ty.specs.declared.rows.Which.{Which}
use Rattle.ty.specs.declared.rows.Which.TheVariants.{First, Last, Nth}

abbrev pub chosen : Which → Fields → Ty
chosen First f = first_field f
chosen Last f = last_field f
chosen (Nth n) f = nth_field n f

-- the index of the field that is chosen among so many
unfoldable pub index_of : Which → ℕ → ℕ
index_of First count = 0
index_of Last count = count - 1
index_of (Nth n) count = cond (ltb n count) n 0

-- a type's scalar under another shape
unfoldable pub reshaped : Shape → Ty → List ℕ
reshaped s (ty o k) = write_ty (ty s k)

-- a Def's field in a box, under another shape
unfoldable pub row_of_def : Shape → Which → Ty → List ℕ
row_of_def s w (ty o (plain k)) = write_ty (ty s (plain k))
row_of_def s w (ty o box_any) = write_ty (ty s box_any)
row_of_def s w (ty o (box_all t k)) = write_ty (ty s (box_all t k))
row_of_def s w (ty o (box_def n f)) = write_ty (ty s (box_of (chosen w f)))
