-- How a type lies in the scratch (document 02, 2026-05): "within it, no marks are needed and seven bytes hold a size". Counts, codes and
-- names are the bytes of the type's record, in its order.
use Rattle.std.specs.Prelude.{ℕ, ◌+◌, ◌≤◌, List, [], ◌∷◌, ◌++◌, ◌≡◌, length}
use Rattle.model.specs.Types.{Dim, static, unknown, Shape, shape, Scalar, plain, box_any, box_all, box_def, Fields, no_fields, field, Ty, ty, field_count}
use Rattle.model.specs.Within.{Within}
use Rattle.format.specs.Reader.{bytes_of}
use Rattle.format.specs.Records.{code, box_code, count_of, list_of, write_ty}
use Rattle.format.specs.Views.{Stands}
use Rattle.lent.specs.Over.{over}

-- ---- what is packed

-- bytes of a size, low byte first
abbrev pub packed_size : ℕ
packed_size = 7

-- the number that stands for an unknown size: as many bytes, all ones
abbrev pub packed_ones : ℕ
packed_ones = 72057594037927935

abbrev pub packed_number : Dim → ℕ
packed_number (static n) = n
packed_number unknown = packed_ones

abbrev pub pack_dims : List Dim → List ℕ
pack_dims [] = []
pack_dims (d ∷ ds) = bytes_of packed_size (packed_number d) ++ pack_dims ds

unfoldable pub pack_shape : Shape → List ℕ
pack_shape (shape o c) = length o ∷ count_of c ∷ (pack_dims o ++ pack_dims (list_of c))

unfoldable mutual
  unfolding code

  pub pack_scalar : Scalar → List ℕ
  pack_scalar (plain k) = code k ∷ []
  pack_scalar box_any = box_code ∷ 0 ∷ []
  pack_scalar (box_all s k) = box_code ∷ 1 ∷ (pack_shape s ++ pack_scalar k)
  pack_scalar (box_def n f) = box_code ∷ 2 ∷ count_of n ∷ (list_of n ++ (field_count f ∷ pack_fields f))

  pub pack_fields : Fields → List ℕ
  pack_fields no_fields = []
  pack_fields (field s k f) = (pack_shape s ++ pack_scalar k) ++ pack_fields f

unfoldable pub pack_ty : Ty → List ℕ
pack_ty (ty s k) = pack_shape s ++ pack_scalar k

-- ---- what packing and unpacking do

-- A type within the limits, whose record these bytes are, and a buffer with room for it packed, from place `at` on.
pub record Packable (w d : List ℕ) (at : ℕ) : Type 0 where
  pub type : Ty
  pub within : Within type
  pub bytes : w ≡ write_ty type
  pub room : at + length (pack_ty type) ≤ length d

-- The record w of any type lies packed in the buffer afterwards, and all around it is as it was.
abbrev pub Packs : List ℕ → List ℕ → ℕ → List ℕ → Type 0
Packs w d at d₁ = (t : Ty) → Within t → w ≡ write_ty t → d₁ ≡ over d at (pack_ty t)

-- A type within the limits, packed from place `from` on, and a buffer with room for its record from `to` on.
pub record Unpackable (d : List ℕ) (from : ℕ) (out : List ℕ) (to : ℕ) : Type 0 where
  pub type : Ty
  pub within : Within type
  pub stands : Stands d from (pack_ty type)
  pub room : to + length (write_ty type) ≤ length out

-- The record of any type that lies packed there stands in the buffer afterwards, and all around it is as it was.
abbrev pub Unpacks : List ℕ → ℕ → List ℕ → ℕ → List ℕ → Type 0
Unpacks d from out to out₁ = (t : Ty) → Within t → Stands d from (pack_ty t) → out₁ ≡ over out to (write_ty t)
