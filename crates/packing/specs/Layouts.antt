-- The two layouts of a type's bytes: its record, and packed. Packing goes from the first to the second and unpacking back, by the same parts
-- in the same order. So what is said of the parts, and of the way through them, is said once, of a layout v that is read and a layout w that
-- is written.
use Rattle.std.specs.Prelude.{ℕ, List, [], ◌∷◌, ◌++◌}
use Rattle.std.proofs.Math.Option.{Option}
use Rattle.model.specs.Types.{Dim, Shape, Scalar, plain, box_any, box_all, box_def, Fields, Ty, field_count}
use Rattle.format.specs.Reader.{bytes_of}
use Rattle.format.specs.Records.{shape_mark, scalar_mark, mark_bytes, code, box_code, dim_number, write_dims, count_of, list_of, write_shape, box_start, write_scalar, write_fields, write_ty}
use Rattle.packing.specs.Packed.{packed_size, packed_number, pack_dims, pack_shape, pack_scalar, pack_fields, pack_ty}

pub data Layout : Type 0 where
  as_record as_packed : Layout

-- ---- sizes

-- bytes of a size, and the number that they are
abbrev pub size_length : Layout → ℕ
size_length as_record = 8
size_length as_packed = packed_size

abbrev pub size_number : Layout → Dim → ℕ
size_number as_record d = dim_number d
size_number as_packed d = packed_number d

abbrev pub size_in : Layout → Dim → List ℕ
size_in v d = bytes_of (size_length v) (size_number v d)

abbrev pub sizes_in : Layout → List Dim → List ℕ
sizes_in as_record ds = write_dims ds
sizes_in as_packed ds = pack_dims ds

-- ---- a shape

-- its counts, behind a mark if it has one, and how many bytes that is
abbrev pub counts_in : Layout → ℕ → ℕ → List ℕ
counts_in as_record m n = mark_bytes shape_mark ++ (m ∷ n ∷ [])
counts_in as_packed m n = m ∷ n ∷ []

abbrev pub counts_length : Layout → ℕ
counts_length as_record = 4
counts_length as_packed = 2

abbrev pub shape_in : Layout → Shape → List ℕ
shape_in as_record o = write_shape o
shape_in as_packed o = pack_shape o

-- ---- a scalar up to its contents

abbrev pub kind_in : Layout → ℕ → List ℕ
kind_in as_record c = mark_bytes scalar_mark ++ (c ∷ [])
kind_in as_packed c = c ∷ []

-- a box up to its form
abbrev pub form_in : Layout → ℕ → List ℕ
form_in as_record form = box_start form
form_in as_packed form = box_code ∷ form ∷ []

-- a Def past its form and up to its fields, whose count this is: alike in both
abbrev pub def_head : Option (List ℕ) → ℕ → List ℕ
def_head n count = count_of n ∷ (list_of n ++ (count ∷ []))

unfoldable pub head_in : Layout → Scalar → List ℕ
unfolding code
head_in v (plain k) = kind_in v (code k)
head_in v box_any = form_in v 0
head_in v (box_all s k) = form_in v 1
head_in v (box_def n g) = form_in v 2 ++ def_head n (field_count g)

-- ---- with the contents

abbrev pub scalar_in : Layout → Scalar → List ℕ
scalar_in as_record k = write_scalar k
scalar_in as_packed k = pack_scalar k

abbrev pub fields_in : Layout → Fields → List ℕ
fields_in as_record f = write_fields f
fields_in as_packed f = pack_fields f

abbrev pub type_in : Layout → Ty → List ℕ
type_in as_record t = write_ty t
type_in as_packed t = pack_ty t
