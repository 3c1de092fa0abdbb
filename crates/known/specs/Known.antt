-- What stands at a place inside bytes that are known: a type, sizes, a scalar, a name or fields, within the limits and at most d deep.
-- Who looks at such bytes goes by these, and judges nothing. Where the bytes lie is of no account.
use Rattle.std.specs.Prelude.{ℕ, ◌+◌, ◌-◌, ◌≤◌, ◌<◌, Bool, true, false, List, ◌∷◌, ◌≡◌, length, take, drop}
use Rattle.std.proofs.Math.Option.{Option, none, some}
use Rattle.model.specs.Limits.{max_fields, max_types}
use Rattle.model.specs.Types.{Dim, Shape, shape, Kind, Scalar, plain, box_any, box_all, box_def, Fields, Ty, ty, field_count, types, inside, among, depth, below, deepest}
use Rattle.model.specs.Within.{Each, DimsWithin, NameWithin, ScalarWithin, FieldsWithin, RecordsWithin}
use Rattle.format.specs.Records.{code, box_code, box_start, count_of, list_of, write_dims, write_scalar, write_fields, write_ty}
use Rattle.format.specs.Views.{Stands}
use Rattle.rules.specs.Order.{code_of}
use Rattle.rules.specs.Types.{field_in, stretch, stretch_in}
use Rattle.limits.specs.Codes.{code_for}
use Rattle.known.specs.declared.Name.{Name}
use Rattle.known.specs.declared.Span.{Span}
use Rattle.known.specs.declared.View.{View}
use Rattle.known.specs.declared.View.TheVariants.{Plain, BoxAny, BoxAll, BoxDef}

-- The one relation for bytes that are a type: from place `at` on they are those of t, its shape first.
pub record TypeAt (s : List ℕ) (at d : ℕ) (t : Ty) : Type 0 where
  pub stands : Stands s at (write_ty t)
  pub records : RecordsWithin t
  pub few : types t ≤ max_types
  pub shallow : depth t ≤ d

-- ---- its parts

-- sizes, one after the other
pub record DimsAt (s : List ℕ) (at : ℕ) (ds : List Dim) : Type 0 where
  pub stands : Stands s at (write_dims ds)
  pub records : DimsWithin ds

pub record ScalarAt (s : List ℕ) (at d : ℕ) (k : Scalar) : Type 0 where
  pub stands : Stands s at (write_scalar k)
  pub records : ScalarWithin k
  pub few : inside k < max_types
  pub shallow : below k ≤ d

-- a name, or none, behind its length
pub record NameAt (s : List ℕ) (at : ℕ) (n : Option (List ℕ)) : Type 0 where
  pub stands : Stands s at (count_of n ∷ list_of n)
  pub records : Each NameWithin n

-- the fields of a Def, one after the other
pub record FieldsAt (s : List ℕ) (at d : ℕ) (f : Fields) : Type 0 where
  pub stands : Stands s at (write_fields f)
  pub records : FieldsWithin f
  pub numbered : field_count f ≤ max_fields
  pub few : among f < max_types
  pub shallow : deepest f ≤ d

-- ---- that one stands there

-- so many sizes
pub record HasDims (s : List ℕ) (at count : ℕ) : Type 0 where
  pub dims : List Dim
  pub there : DimsAt s at dims
  pub counted : length dims ≡ count

pub record HasType (s : List ℕ) (at d : ℕ) : Type 0 where
  pub type : Ty
  pub there : TypeAt s at d type

pub record HasScalar (s : List ℕ) (at d : ℕ) : Type 0 where
  pub scalar : Scalar
  pub there : ScalarAt s at d scalar

pub record HasBox (s : List ℕ) (at d : ℕ) : Type 0 where
  pub scalar : Scalar
  pub there : ScalarAt s at d scalar
  pub boxed : code_of scalar ≡ box_code

pub record HasName (s : List ℕ) (at : ℕ) : Type 0 where
  pub name : Option (List ℕ)
  pub there : NameAt s at name

-- so many fields
pub record HasFields (s : List ℕ) (at d count : ℕ) : Type 0 where
  pub fields : Fields
  pub there : FieldsAt s at d fields
  pub counted : field_count fields ≡ count

-- ---- what is said of them

-- of a shape: its opening sizes, and whether it is closed
abbrev pub opening_of : Shape → List Dim
opening_of (shape o c) = o

abbrev pub is_closed : Shape → Bool
is_closed (shape o none) = true
is_closed (shape o (some c)) = false

-- of a type: how many types it is, how deep, and the place after it
pub record SpanIs (at : ℕ) (t : Ty) (r : Span) : Type 0 where
  pub types : r.types ≡ types t
  pub depth : r.depth ≡ depth t
  pub ends : r.end ≡ at + length (write_ty t)

-- of a scalar and of fields: how many types stand in them, how deep those are, and the place after
pub record ScalarSpan (at : ℕ) (k : Scalar) (r : Span) : Type 0 where
  pub types : r.types ≡ inside k
  pub depth : r.depth ≡ below k
  pub ends : r.end ≡ at + length (write_scalar k)

pub record FieldsSpan (at : ℕ) (f : Fields) (r : Span) : Type 0 where
  pub types : r.types ≡ among f
  pub depth : r.depth ≡ deepest f
  pub ends : r.end ≡ at + length (write_fields f)

abbrev pub is_named : Option (List ℕ) → Bool
is_named none = false
is_named (some n) = true

-- of a name: whether there is one, and between which places its bytes stand
pub record NameIs (s : List ℕ) (at : ℕ) (n : Option (List ℕ)) (r : Name) : Type 0 where
  pub known : r.named ≡ is_named n
  pub bytes : take (r.end - r.start) (drop r.start s) ≡ list_of n
  pub long : r.end ≡ r.start + length (list_of n)
  pub ends : r.end ≡ at + length (count_of n ∷ list_of n)
  pub within : r.end ≤ length s

-- of fields from `start` on: where field n stands
pub record FieldIs (s : List ℕ) (start d n : ℕ) (f : Fields) (place : ℕ) : Type 0 where
  pub type : Ty
  pub is : field_in n f ≡ some type
  pub there : TypeAt s place d type
  pub stretched : stretch_in start n f ≡ some (stretch place (length (write_ty type)))

-- ---- what a view of a scalar says

-- a kind: its code, and the place after it
pub record SeenPlain (at : ℕ) (k : Scalar) (c end : ℕ) : Type 0 where
  pub kind : Kind
  pub is : k ≡ plain kind
  pub coded : code kind ≡ c
  pub ends : end ≡ at + length (write_scalar k)

pub record SeenAny (at : ℕ) (k : Scalar) (end : ℕ) : Type 0 where
  pub is : k ≡ box_any
  pub ends : end ≡ at + length (write_scalar k)

-- an All box: its content
pub record SeenAll (s : List ℕ) (at d : ℕ) (k : Scalar) (content : ℕ) : Type 0 where
  pub shape : Shape
  pub scalar : Scalar
  pub is : k ≡ box_all shape scalar
  pub place : content ≡ at + length (box_start 1)
  pub there : TypeAt s content d (ty shape scalar)

-- a Def: its name, its fields and their count
pub record SeenDef (s : List ℕ) (at d : ℕ) (k : Scalar) (name : ℕ) (named : Bool) (fields count : ℕ) : Type 0 where
  pub label : Option (List ℕ)
  pub held : Fields
  pub is : k ≡ box_def label held
  pub place : name ≡ at + length (box_start 2)
  pub titled : NameAt s name label
  pub known : named ≡ is_named label
  pub behind : fields ≡ name + length (count_of label ∷ list_of label) + 1
  pub there : FieldsAt s fields d held
  pub counted : count ≡ field_count held

abbrev pub Seen : List ℕ → ℕ → ℕ → Scalar → View → Type 0
Seen s at d k (Plain kind end) = SeenPlain at k (code_for kind) end
Seen s at d k (BoxAny end) = SeenAny at k end
Seen s at d k (BoxAll content) = SeenAll s at d k content
Seen s at d k (BoxDef name named fields count) = SeenDef s at d k name named fields count
