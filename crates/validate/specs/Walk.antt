-- What a walk writes: the bytes up to an end, behind those that stood there before, and how many types they are.
use Rattle.std.specs.Prelude.{ℕ, suc, ◌+◌, ◌*◌, ◌≤◌, Bool, List, [], ◌∷◌, ◌++◌, ◌≡◌, length, take, Result, Ok, Err}
use Rattle.std.proofs.Math.Option.{Option}
use Rattle.model.specs.Limits.{max_types, max_depth}
use Rattle.model.specs.Types.{Scalar, Fields, Ty, ty, field_count, inside, among, types, scalar_of}
use Rattle.format.specs.Records.{box_start, count_of, list_of, write_shape, write_scalar, write_fields}
use Rattle.format.specs.Suffices.{shape_bytes, box_bytes}
use Rattle.format.specs.Outcome.{Outcome, accepted, refused, mapped}
use Rattle.lent.specs.Over.{over}
use Rattle.known.specs.Known.{TypeAt}
use Rattle.validation.specs.CheckShape.{Side}
use Rattle.validate.specs.Lists.{ListAt}
use Rattle.validate.specs.Plans.{Pair, scalar_after, type_after, TwoLists, fields_after}
use Rattle.validate.specs.declared.Extent.{Extent}
use Rattle.validate.specs.declared.Items.{Items}
use Rattle.limits.specs.Answers.{number_of}
use Rattle.limits.specs.declared.refusal.Reason.{Reason}

-- A type's own records, without those of the types that it holds: its shape's, and a box's head.
abbrev pub type_bytes : ℕ
type_bytes = shape_bytes + box_bytes

pub data Piece : Type 0 where
  piece : List ℕ → ℕ → Piece

-- A scalar, a type and fields behind the bytes that stood before.
abbrev pub scalar_piece : List ℕ → Scalar → Piece
scalar_piece before x = piece (before ++ write_scalar x) (inside x)

abbrev pub type_piece : List ℕ → Ty → Piece
type_piece before (ty s x) = piece (before ++ (write_shape s ++ write_scalar x)) (suc (inside x))

abbrev pub fields_piece : List ℕ → ℕ → Fields → Piece
fields_piece before n f = piece (before ++ write_fields f) (n + among f)

-- ---- what is answered

-- An answer, with the bytes of the buffer before its end; a refusal is at place 0 and says nothing of the buffer.
abbrev pub validated_of : Result Extent Reason → List ℕ → Outcome Piece
validated_of (Ok x) out = accepted (piece (take x.end out) x.types)
validated_of (Err r) out = refused (number_of r) 0

-- It ends where its types had room.
abbrev pub Roomy : Result Extent Reason → ℕ → Type 0
Roomy (Ok x) limit = x.end ≤ limit + type_bytes * x.types
Roomy (Err r) limit = Unit {0}

-- A pair of types, of their scalars and of two lists, validated to a buffer from `to` on.
abbrev pub TypeDone : Side → {s : List ℕ} {i : ℕ} {t : List ℕ} {j o a : ℕ} → Pair s i t j o a → ℕ → List ℕ → Result Extent Reason → List ℕ → Type 0
TypeDone side w to before r after = (validated_of r after ≡ mapped (type_piece (take to before)) (type_after side w)) × Roomy r to

abbrev pub ScalarDone : {s : List ℕ} {i : ℕ} {t : List ℕ} {j o a : ℕ} → Pair s i t j o a → ℕ → List ℕ → Result Extent Reason → List ℕ → Type 0
ScalarDone w to before r after = (validated_of r after ≡ mapped (scalar_piece (take to before)) (scalar_after w)) × Roomy r (to + box_bytes)

abbrev pub FieldsDone : {s : List ℕ} {x : Items} {t : List ℕ} {y : Items} {o a : ℕ} → TwoLists s x t y o a → ℕ → List ℕ → Result Extent Reason → List ℕ → Type 0
FieldsDone w to before r after = (validated_of r after ≡ mapped (fields_piece (take to before) 0) (fields_after w)) × Roomy r to

-- What a copy came to.
pub record CopyIs (r : Extent) (out : List ℕ) (x : Piece) (limit : ℕ) : Type 0 where
  pub bytes : piece (take r.end out) r.types ≡ x
  pub room : r.end ≤ limit + type_bytes * r.types

-- A head that was laid from `to` on, and the place after it.
pub record HeadIs (to : ℕ) (head before : List ℕ) (r : ℕ) (after : List ℕ) : Type 0 where
  pub ends : r ≡ to + length head
  pub short : r ≤ to + box_bytes
  pub laid : after ≡ over before to head

-- a Def's head: its box, its name and the count of its fields
abbrev pub def_head : Option (List ℕ) → ℕ → List ℕ
def_head label count = box_start 2 ++ ((count_of label ∷ list_of label) ++ (count ∷ []))

-- ---- what has room in a buffer

-- There is a type whose scalar has room, one that has room, and a list of fields that has room.
pub record Copyable (s : List ℕ) (at to room : ℕ) : Type 0 where
  pub type : Ty
  pub there : TypeAt s at max_depth type
  pub space : to + box_bytes + type_bytes * inside (scalar_of type) ≤ room

pub record Placeable (s : List ℕ) (at to room : ℕ) : Type 0 where
  pub type : Ty
  pub there : TypeAt s at max_depth type
  pub space : to + type_bytes * types type ≤ room

pub record Listable (s : List ℕ) (at count : ℕ) (moves : Bool) (to room : ℕ) : Type 0 where
  pub fields : Fields
  pub there : ListAt moves s at fields
  pub counted : field_count fields ≡ count
  pub space : to + type_bytes * among fields ≤ room
  pub few : among fields ≤ max_types

-- Of the fields f that were to be written behind `before`, those still to be written behind `so_far`, and how many types went before.
pub record Going (s : List ℕ) (f : Fields) (before : List ℕ) (to : ℕ) (moves : Bool) (at left : ℕ) (so_far : List ℕ) (end types : ℕ) : Type 0 where
  pub rest : Fields
  pub there : ListAt moves s at rest
  pub counted : field_count rest ≡ left
  pub bytes : before ++ write_fields f ≡ so_far ++ write_fields rest
  pub number : among f ≡ types + among rest
  pub room : end ≤ to + type_bytes * types
