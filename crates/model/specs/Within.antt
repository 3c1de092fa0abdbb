-- What keeps to the limits (document 01, "Record bytes"): what a record can hold, and then a whole type.
use Rattle.std.specs.Prelude.{ℕ, ◌≤◌, List, [], ◌∷◌, length}
use Rattle.std.proofs.Math.Option.{Option, none, some}
use Rattle.model.specs.Limits.{max_size, max_sizes, max_name, max_fields, first_printing, last_printing, max_types, max_depth}
use Rattle.model.specs.Types.{Dim, static, unknown, Shape, shape, Scalar, plain, box_any, box_all, box_def, Fields, no_fields, field, Ty, ty, field_count, types, depth}

-- of each element of a list
abbrev pub All {ℓ} : {A : Type ℓ} → (A → Type 0) → List A → Type 0
All P [] = Unit {0}
All P (x ∷ xs) = P x × All P xs

-- of what may be absent
abbrev pub Each {ℓ} : {A : Type ℓ} → (A → Type 0) → Option A → Type 0
Each P none = Unit {0}
Each P (some x) = P x

abbrev pub DimWithin : Dim → Type 0
DimWithin (static n) = n ≤ max_size
DimWithin unknown = Unit {0}

abbrev pub DimsWithin : List Dim → Type 0
DimsWithin ds = (length ds ≤ max_sizes) × All DimWithin ds

abbrev pub ShapeWithin : Shape → Type 0
ShapeWithin (shape o c) = DimsWithin o × Each DimsWithin c

-- a printing character of ASCII, as every byte of a name is
abbrev pub Printing : ℕ → Type 0
Printing b = (first_printing ≤ b) × (b ≤ last_printing)

abbrev pub NameWithin : List ℕ → Type 0
NameWithin n = (length n ≤ max_name) × All Printing n

abbrev mutual
  pub ScalarWithin : Scalar → Type 0
  ScalarWithin (plain k) = Unit {0}
  ScalarWithin box_any = Unit {0}
  ScalarWithin (box_all s k) = ShapeWithin s × ScalarWithin k
  ScalarWithin (box_def n f) = Each NameWithin n × (field_count f ≤ max_fields) × FieldsWithin f

  pub FieldsWithin : Fields → Type 0
  FieldsWithin no_fields = Unit {0}
  FieldsWithin (field s k f) = ShapeWithin s × ScalarWithin k × FieldsWithin f

abbrev pub RecordsWithin : Ty → Type 0
RecordsWithin (ty s k) = ShapeWithin s × ScalarWithin k

-- Every limit: the sizes, counts and names of each record in it, 32 types, depth 8.
pub record Within (t : Ty) : Type 0 where
  pub records : RecordsWithin t
  pub few : types t ≤ max_types
  pub shallow : depth t ≤ max_depth
