-- 4,992 bytes suffice for any type: a type writes at most 156 bytes for each of its at most 32 types, 132 for a shape with
-- eight opening and eight closing sizes and 24 for a Def with a name of 16 bytes.
use Rattle.std.specs.Prelude.{ℕ, zero, suc, ◌+◌, ◌*◌, ◌/◌, ◌≤◌, List, [], ◌∷◌, ◌≡◌, refl, length}
use Rattle.std.proofs.Common.{arith, length-append}
use Rattle.std.proofs.Math.Option.{Option, none, some}
use Rattle.model.specs.Limits.{max_sizes, max_name, max_bytes}
use Rattle.model.specs.Types.{Dim, Shape, shape, Scalar, plain, box_any, box_all, box_def, Fields, no_fields, field, Ty, ty, inside, among}
use Rattle.model.specs.Within.{Each, DimsWithin, ShapeWithin, NameWithin, ScalarWithin, FieldsWithin, Within}
use Rattle.format.specs.Reader.{bytes_of}
use Rattle.format.specs.Records.{dim_number, write_dims, list_of, write_shape, write_scalar, write_fields, write_ty}

-- the bytes of a shape's record, and of a box's with its name
abbrev pub shape_bytes : ℕ
shape_bytes = 132

abbrev pub box_bytes : ℕ
box_bytes = 24

pub length-bytes_of : (k n : ℕ) → length (bytes_of k n) ≡ k
unfolding bytes_of
length-bytes_of zero n = refl
length-bytes_of (suc k) n = rw (length-bytes_of k (n / 256))

pub length-write_dims : (ds : List Dim) → length (write_dims ds) ≡ 8 * length ds
length-write_dims [] = refl
length-write_dims (d ∷ ds) = rw (length-append, length-bytes_of 8 (dim_number d), length-write_dims ds) (omega arith)

closing_most : (c : Option (List Dim)) → Each DimsWithin c → length (list_of c) ≤ max_sizes
closing_most none h = omega arith
closing_most (some c) h = h.0

pub name_most : (n : Option (List ℕ)) → Each NameWithin n → length (list_of n) ≤ max_name
name_most none h = omega arith
name_most (some n) h = h.0

pub shape-suffices : (s : Shape) → ShapeWithin s → length (write_shape s) ≤ shape_bytes
unfolding write_shape
shape-suffices (shape o c) h = simp length-append (omega (arith, length-write_dims o, length-write_dims (list_of c), closing_most c h.1))

mutual
  unfolding write_scalar inside

  pub scalar-suffices : (k : Scalar) → ScalarWithin k → length (write_scalar k) ≤ box_bytes + (shape_bytes + box_bytes) * inside k
  scalar-suffices (plain k) h = omega arith
  scalar-suffices box_any h = omega arith
  scalar-suffices (box_all s k) h = simp length-append (omega (arith, shape-suffices s h.0, scalar-suffices k h.1))
  scalar-suffices (box_def n f) h = simp length-append (omega (arith, name_most n h.0, fields_suffice f h.2))

  pub fields_suffice : (f : Fields) → FieldsWithin f → length (write_fields f) ≤ (shape_bytes + box_bytes) * among f
  fields_suffice no_fields h = omega arith
  fields_suffice (field s k f) h = simp length-append (omega (arith, shape-suffices s h.0, scalar-suffices k h.1, fields_suffice f h.2))

pub suffices : (t : Ty) → Within t → length (write_ty t) ≤ max_bytes
unfolding write_ty
suffices (ty s k) w = simp length-append (omega (arith, shape-suffices s w.records.0, scalar-suffices k w.records.1, w.few))
