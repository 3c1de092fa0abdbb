-- What the answers of this crate say, in the terms of the definitions: for each case of each, the paper's number and values.
use Rattle.std.specs.Prelude.{ℕ, ◌+◌, ◌≤◌, Bool, ◌&&◌, List, ◌≡◌, length, drop}
use Rattle.model.specs.Types.{Shape, Scalar, plain, box_any, box_all, box_def, Fields, Ty, ty, shape_of, scalar_of, field_count}
use Rattle.format.specs.Records.{write_scalar, write_fields}
use Rattle.lent.specs.Over.{over}
use Rattle.rules.specs.Order.{code_of}
use Rattle.rules.specs.Shapes.{compatible_shapes}
use Rattle.rules.specs.Scalars.{compatible_with_boxes, unrefine, unrefine_fields}
use Rattle.known.specs.Known.{TypeAt, FieldsAt}
use Rattle.scalar.specs.declared.Inner.{Inner}
use Rattle.scalar.specs.declared.Inner.TheVariants.{Content, Kind}
use Rattle.limits.specs.Codes.{code_for}
use Rattle.scalar.specs.declared.United.{United}
use Rattle.scalar.specs.declared.United.TheVariants as united
use Rattle.scalar.specs.declared.Chosen.{Chosen}
use Rattle.scalar.specs.declared.Chosen.TheVariants as chosen
use Rattle.writer.specs.Kinds.{kind_record}

-- a union of the boxes k and l
abbrev pub chosen_of : Chosen → Scalar → Scalar → Scalar
chosen_of chosen.First k l = k
chosen_of chosen.Second k l = l
chosen_of chosen.Neither k l = box_any

-- the record of a union of the scalars of a and b, and that its place is in them
abbrev pub united_record : List ℕ → List ℕ → United → List ℕ
united_record a b (united.Kind k) = kind_record (code_for k)
united_record a b (united.First i) = drop i a
united_record a b (united.Second j) = drop j b
united_record a b united.BoxAny = write_scalar box_any

abbrev pub UnitedWithin : List ℕ → List ℕ → United → Type 0
UnitedWithin a b (united.Kind k) = Unit {0}
UnitedWithin a b (united.First i) = i ≤ length a
UnitedWithin a b (united.Second j) = j ≤ length b
UnitedWithin a b united.BoxAny = Unit {0}

-- the scalar k, whose content begins at c
pub record AllAt (s : List ℕ) (d : ℕ) (k : Scalar) (c : ℕ) : Type 0 where
  pub shape : Shape
  pub scalar : Scalar
  pub is : k ≡ box_all shape scalar
  pub there : TypeAt s c d (ty shape scalar)

abbrev pub NoAll : Scalar → Type 0
NoAll (plain k) = Unit {0}
NoAll box_any = Unit {0}
NoAll (box_all s k) = ⊥
NoAll (box_def n f) = Unit {0}

-- an All box by its content, any other scalar by its kind
abbrev pub InnerIs : List ℕ → ℕ → Scalar → Inner → Type 0
InnerIs s d k (Content c) = AllAt s d k c
InnerIs s d k (Kind l) = (code_for l ≡ code_of k) × NoAll k

-- whether the contents of two All boxes are compatible
abbrev pub compatible_contents : Ty → Ty → Bool
compatible_contents t u = compatible_with_boxes (scalar_of t) (scalar_of u) && compatible_shapes (shape_of t) (shape_of u)

-- a type whose scalar is unrefined
abbrev pub unrefine_ty : Ty → Ty
unrefine_ty (ty o k) = ty o (unrefine k)

-- that so many fields from a place on are unrefined in what stands there after, and the place behind them
abbrev pub FieldsUnrefined : List ℕ → ℕ → ℕ → ℕ → ℕ → List ℕ → Type 0
FieldsUnrefined out start count d r after =
    (f : Fields) →
    FieldsAt out start d f →
    field_count f ≡ count →
    (r ≡ start + length (write_fields f)) × (after ≡ over out start (write_fields (unrefine_fields f)))
