-- Lists of types in known bytes: fields stand one after the other, copies of a type all at one place.
use Rattle.std.specs.Prelude.{ℕ, ◌+◌, ◌≤◌, Bool, true, false, cond, List, ◌≡◌, length}
use Rattle.model.specs.Limits.{max_types, max_depth}
use Rattle.model.specs.Types.{Fields, no_fields, field, field_count, among, Ty, ty}
use Rattle.format.specs.Records.{write_ty}
use Rattle.known.specs.Known.{TypeAt, FieldsAt}

-- the place of the next type of a list, behind the type t
abbrev pub next_place : Bool → ℕ → Ty → ℕ
next_place moves at t = cond moves (at + length (write_ty t)) at

abbrev pub ListAt : Bool → List ℕ → ℕ → Fields → Type 0
ListAt true s at f = FieldsAt s at max_depth f
ListAt false s at no_fields = Unit {0}
ListAt false s at (field p k f) = TypeAt s at max_depth (ty p k) × ListAt false s at f

-- There is a list of so many fields, and no more types in it than allowed.
pub record Countable (s : List ℕ) (at count : ℕ) (moves : Bool) : Type 0 where
  pub fields : Fields
  pub there : ListAt moves s at fields
  pub counted : field_count fields ≡ count
  pub few : among fields ≤ max_types

-- Of the fields f, those still to be counted, and how many types went before.
pub record Counting (s : List ℕ) (f : Fields) (moves : Bool) (at left types : ℕ) : Type 0 where
  pub rest : Fields
  pub there : ListAt moves s at rest
  pub counted : field_count rest ≡ left
  pub number : among f ≡ types + among rest
