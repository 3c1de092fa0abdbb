-- Sizes, shapes, kinds, boxes and types as data (document 01, its first paragraph and "scalar.rs").
-- Only scalars and fields hold each other; a type is a shape with a scalar.
use Rattle.std.specs.Prelude.{ℕ, suc, ◌+◌, max, List}
use Rattle.std.proofs.Math.Option.{Option}

-- A size: static, or unknown, which the paper writes ?.
pub data Dim : Type 0 where
  static : ℕ → Dim
  unknown : Dim

-- Opening sizes, then closing sizes: `none` for a closed shape, `some []` for an open one that names no closing size.
pub data Shape : Type 0 where
  shape : List Dim → Option (List Dim) → Shape

-- The scalar kinds but Box, in the paper's order.
pub data Kind : Type 0 where
  bool nat int num complex ascii char stream any : Kind

mutual
  -- A scalar is a kind or a box; a box is Any, All of a type (its shape and its scalar), or Def with a name or none and fields.
  pub data Scalar : Type 0 where
    plain : Kind → Scalar
    box_any : Scalar
    box_all : Shape → Scalar → Scalar
    box_def : Option (List ℕ) → Fields → Scalar

  -- The fields of a Def, each a type.
  pub data Fields : Type 0 where
    no_fields : Fields
    field : Shape → Scalar → Fields → Fields

pub data Ty : Type 0 where
  ty : Shape → Scalar → Ty

abbrev pub shape_of : Ty → Shape
shape_of (ty s k) = s

abbrev pub scalar_of : Ty → Scalar
scalar_of (ty s k) = k

-- A type as the content of an All box, and as the first of some fields.
abbrev pub box_of : Ty → Scalar
box_of (ty s k) = box_all s k

abbrev pub field_of : Ty → Fields → Fields
field_of (ty s k) f = field s k f

abbrev pub field_count : Fields → ℕ
field_count no_fields = 0
field_count (field s k f) = suc (field_count f)

-- How many types stand inside a scalar, and in a list of fields.
unfoldable mutual
  pub inside : Scalar → ℕ
  inside (plain k) = 0
  inside box_any = 0
  inside (box_all s k) = suc (inside k)
  inside (box_def n f) = among f

  pub among : Fields → ℕ
  among no_fields = 0
  among (field s k f) = suc (inside k) + among f

-- How many types a type has, itself counted.
abbrev pub types : Ty → ℕ
types (ty s k) = suc (inside k)

-- How many types deep a scalar and a list of fields are.
unfoldable mutual
  pub below : Scalar → ℕ
  below (plain k) = 0
  below box_any = 0
  below (box_all s k) = suc (below k)
  below (box_def n f) = deepest f

  pub deepest : Fields → ℕ
  deepest no_fields = 0
  deepest (field s k f) = max (suc (below k)) (deepest f)

-- How deep a type is: the outermost is depth 1.
abbrev pub depth : Ty → ℕ
depth (ty s k) = suc (below k)
