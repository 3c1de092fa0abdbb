-- 4,288 bytes suffice for any type packed, and no smaller number would do. And a type that is packed and then unpacked is its record again.
use Rattle.std.specs.Prelude.{ℕ, zero, suc, ◌+◌, ◌*◌, ◌≤◌, List, [], ◌∷◌, ◌≡◌, refl, length, replicate}
use Rattle.std.proofs.Common.{arith, sym, ap, subst, length-append, lit≤}
use Rattle.std.proofs.Math.Option.{Option, some}
use Rattle.model.specs.Limits.{max_sizes, max_name, max_fields, max_types}
use Rattle.model.specs.Types.{Dim, unknown, Shape, shape, Scalar, plain, box_any, box_all, box_def, Fields, no_fields, field, Ty, ty, field_count, inside, among, below, deepest}
use Rattle.model.specs.Within.{All, DimWithin, DimsWithin, ShapeWithin, Printing, NameWithin, ScalarWithin, FieldsWithin, Within}
use Rattle.format.specs.Records.{list_of, write_ty}
use Rattle.format.specs.Suffices.{length-bytes_of, name_most}
use Rattle.format.specs.Views.{Stands}
use Rattle.format.specs.WriteRead.{closing-within}
use Rattle.lent.specs.Over.{over}
use Rattle.lent.specs.StandsOver.{stands-laid}
use Rattle.machine.specs.SheetLimits.{max_packed}
use Rattle.packing.specs.Packed.{packed_size, packed_number, pack_dims, pack_shape, pack_scalar, pack_fields, pack_ty, Packs, Unpackable, Unpacks}
use Rattle.packing.specs.PackedLaws.{packed_shape_bytes, packed_scalar_bytes, packed_type_bytes}

-- ---- as many as suffice

pub packed_types : packed_type_bytes * max_types ≡ max_packed
packed_types = refl

length-pack_dims : (ds : List Dim) → length (pack_dims ds) ≡ packed_size * length ds
length-pack_dims [] = refl
length-pack_dims (d ∷ ds) = rw (length-append, length-bytes_of packed_size (packed_number d), length-pack_dims ds) (omega arith)

length-pack_shape : (o : List Dim) (c : Option (List Dim)) → length (pack_shape (shape o c)) ≡ 2 + packed_size * (length o + length (list_of c))
unfolding pack_shape
length-pack_shape o c = simp length-append (omega (arith, length-pack_dims o, length-pack_dims (list_of c)))

shape-suffices : (s : Shape) → ShapeWithin s → length (pack_shape s) ≤ packed_shape_bytes
shape-suffices (shape o c) h = omega (arith, length-pack_shape o c, (closing-within c h.1).0)

mutual
  unfolding pack_scalar inside

  scalar-suffices : (k : Scalar) → ScalarWithin k → length (pack_scalar k) ≤ packed_scalar_bytes + packed_type_bytes * inside k
  scalar-suffices (plain k) h = omega arith
  scalar-suffices box_any h = omega arith
  scalar-suffices (box_all s k) h = simp length-append (omega (arith, shape-suffices s h.0, scalar-suffices k h.1))
  scalar-suffices (box_def n f) h = simp length-append (omega (arith, name_most n h.0, fields_suffice f h.2))

  fields_suffice : (f : Fields) → FieldsWithin f → length (pack_fields f) ≤ packed_type_bytes * among f
  fields_suffice no_fields h = omega arith
  fields_suffice (field s k f) h = simp length-append (omega (arith, shape-suffices s h.0, scalar-suffices k h.1, fields_suffice f h.2))

-- No type within the limits needs more.
pub packed_suffices : (t : Ty) → Within t → length (pack_ty t) ≤ max_packed
unfolding pack_ty
packed_suffices (ty s k) w =
    simp length-append (omega (arith, shape-suffices s w.records.0, scalar-suffices k w.records.1, w.few))

-- ---- no fewer suffice

-- A type that needs them all: as many sizes, opening and closing, as long a name and as many fields as there may be, and its fields alike
-- but for fields of their own.
abbrev full_dims : List Dim
full_dims = replicate max_sizes unknown

abbrev full_shape : Shape
full_shape = shape full_dims (some full_dims)

abbrev full_name : List ℕ
full_name = replicate max_name 65

abbrev full_fields : ℕ → Fields
full_fields zero = no_fields
full_fields (suc n) = field full_shape (box_def (some full_name) no_fields) (full_fields n)

abbrev pub fullest : Ty
fullest = ty full_shape (box_def (some full_name) (full_fields max_fields))

full-shape : length (pack_shape full_shape) ≡ packed_shape_bytes
full-shape = length-pack_shape full_dims (some full_dims)

full-count : (n : ℕ) → field_count (full_fields n) ≡ n
full-count zero = refl
full-count (suc n) = ap suc (full-count n)

full-among : (n : ℕ) → among (full_fields n) ≡ n
unfolding among
full-among zero = refl
full-among (suc n) = omega (arith, full-among n)

full-deepest : (n : ℕ) → deepest (full_fields n) ≤ 1
unfolding deepest
full-deepest zero = omega arith
full-deepest (suc n) = omega (arith, full-deepest n)

full-length : (n : ℕ) → length (pack_fields (full_fields n)) ≡ packed_type_bytes * n
unfolding pack_fields
full-length zero = refl
full-length (suc n) = simp length-append (omega (arith, full-shape, full-length n))

all_same : {A : Type 0} (P : A → Type 0) (a : A) (n : ℕ) → P a → All P (replicate n a)
all_same P a zero h = tt
all_same P a (suc n) h = (h, all_same P a n h)

full_dims-within : DimsWithin full_dims
full_dims-within = (lit≤ tt, all_same DimWithin unknown max_sizes tt)

full_name-within : NameWithin full_name
full_name-within = (lit≤ tt, all_same Printing 65 max_name (lit≤ tt, lit≤ tt))

full_fields-within : (n : ℕ) → FieldsWithin (full_fields n)
full_fields-within zero = tt
full_fields-within (suc n) = ((full_dims-within, full_dims-within), (full_name-within, lit≤ tt, tt), full_fields-within n)

pub fullest-within : Within fullest
unfolding inside below
fullest-within = record {
  records = ((full_dims-within, full_dims-within), (full_name-within, omega (arith, full-count max_fields), full_fields-within max_fields));
  few = omega (arith, full-among max_fields);
  shallow = omega (arith, full-deepest max_fields);
}

pub fullest_packed : length (pack_ty fullest) ≡ max_packed
unfolding pack_ty pack_scalar
fullest_packed = simp length-append (omega (arith, full-shape, full-length max_fields))

-- A number of bytes that suffices for every type is no smaller.
pub packed_least : (n : ℕ) → ((t : Ty) → Within t → length (pack_ty t) ≤ n) → max_packed ≤ n
packed_least n enough = omega (arith, fullest_packed, enough fullest fullest-within)

-- ---- packed and unpacked

-- A type within the limits whose record was packed into a buffer with room for it, by the contract of packing.
module _ (t : Ty) (within : Within t) (d d₁ : List ℕ) (at : ℕ) (room : at + length (pack_ty t) ≤ length d) (packs : Packs (write_ty t) d at d₁) where
  packed_stands : Stands d₁ at (pack_ty t)
  packed_stands = subst (λ x. Stands x at (pack_ty t)) (sym (packs t within refl)) (stands-laid d (pack_ty t) at room)

  -- It may be unpacked into any buffer with room for its record,
  pub packed_unpackable : (out : List ℕ) (to : ℕ) → to + length (write_ty t) ≤ length out → Unpackable d₁ at out to
  packed_unpackable out to fits = record { type = t; within = within; stands = packed_stands; room = fits }

  -- and unpacked by the contract of that, it is the record's bytes there again, and all around them as it was.
  pub round_trip : (out out₁ : List ℕ) (to : ℕ) → Unpacks d₁ at out to out₁ → out₁ ≡ over out to (write_ty t)
  round_trip out out₁ to unpacks = unpacks t within packed_stands
