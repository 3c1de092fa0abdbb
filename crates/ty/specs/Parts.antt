-- What a lone type is, where the fields of a lone Def stand, and what stands in a box, for the calls of this crate among themselves.
use Rattle.std.specs.Prelude.{ℕ, ◌+◌, ◌-◌, ◌≤◌, List, ◌≡◌, length, take, drop, Some, None}
use Rattle.std.specs.Prelude as code
use Rattle.std.proofs.Math.Option.{Option, none, some}
use Rattle.model.specs.Limits.{max_depth, max_bytes}
use Rattle.model.specs.Types.{Shape, Kind, Scalar, plain, box_any, box_all, box_def, Fields, Ty, ty, field_count}
use Rattle.format.specs.Records.{write_ty}
use Rattle.format.specs.Outcome.{accepted, mapped, lone}
use Rattle.rules.specs.Types.{any_ty, first_field, or_else, field_at, Stretch, stretch, before_fields, boxes, write_boxes}
use Rattle.known.specs.Known.{FieldsAt}
use Rattle.known.specs.declared.View.{View}
use Rattle.known.specs.declared.View.TheVariants.{Plain, BoxAny, BoxAll, BoxDef}
use Rattle.ty.specs.declared.parts.Part.{Part}

-- ---- a lone type, by its scalar

-- The bytes are a lone type whose scalar is plain.
pub record LonePlain (s : List ℕ) : Type 0 where
  pub shape : Shape
  pub kind : Kind
  pub is : lone s ≡ accepted (ty shape (plain kind))
  pub bytes : write_ty (ty shape (plain kind)) ≡ s

-- They are a lone box that holds anything.
pub record LoneAny (s : List ℕ) : Type 0 where
  pub shape : Shape
  pub is : lone s ≡ accepted (ty shape box_any)

-- They are a lone All, whose content begins at a place and reaches to the end.
pub record LoneAll (s : List ℕ) (start : ℕ) : Type 0 where
  pub shape : Shape
  pub held_shape : Shape
  pub held_scalar : Scalar
  pub is : lone s ≡ accepted (ty shape (box_all held_shape held_scalar))
  pub within : start ≤ length s
  pub bytes : take (length s - start) (drop start s) ≡ write_ty (ty held_shape held_scalar)
  pub short : length (write_ty (ty held_shape held_scalar)) ≤ max_bytes

-- They are a lone Def, whose so many fields begin at a place.
pub record LoneDef (s : List ℕ) (start count : ℕ) : Type 0 where
  pub shape : Shape
  pub name : Option (List ℕ)
  pub fields : Fields
  pub is : lone s ≡ accepted (ty shape (box_def name fields))
  pub place : length (before_fields shape name fields) ≡ start
  pub counted : field_count fields ≡ count
  pub there : FieldsAt s start max_depth fields

-- What its scalar is found to be. A Def's name, which stands behind its length, its count and its fields reach to the end.
abbrev pub Inside : List ℕ → View → Type 0
Inside s (Plain kind end) = LonePlain s
Inside s (BoxAny end) = LoneAny s
Inside s (BoxAll content) = LoneAll s content
Inside s (BoxDef name named start count) =
    (d : LoneDef s start count) × (name ≤ length s) × (take (length s - name) (drop name s) ≡ write_boxes (boxes d.name d.fields))

-- ---- field n

abbrev pub part_of : code.Option Part → Option Stretch
part_of (Some p) = some (stretch p.start p.length)
part_of None = none

-- its bytes, those of [..] of Any where there is none
abbrev pub field_bytes : ℕ → Ty → List ℕ
field_bytes n t = write_ty (or_else (field_at n t) any_ty)

-- those are the bytes of a part that is found
abbrev pub Found : List ℕ → ℕ → code.Option Part → Type 0
Found s n (Some p) = (p.start + p.length ≤ length s) × (mapped (field_bytes n) (lone s) ≡ accepted (take p.length (drop p.start s)))
Found s n None = mapped (field_bytes n) (lone s) ≡ accepted (write_ty any_ty)

-- ---- what stands in a box

-- What an All holds, a Def's first field, [..] of Any where nothing is inside. What is no box stays.
unfoldable pub content_of : Ty → Ty
content_of (ty s (plain k)) = ty s (plain k)
content_of (ty s box_any) = any_ty
content_of (ty s (box_all t k)) = ty t k
content_of (ty s (box_def n f)) = first_field f
