-- Names as they stand in a sheet and are kept (document 02, 2026-06): a name stands behind its length, the type that it was declared with
-- behind the name. Of each name in force, by first declaration, it is known where its length stands and where its type ends.
use Rattle.std.specs.Prelude.{ℕ, suc, ◌+◌, ◌≤◌, cond, List, [], ◌∷◌, ◌≡◌, length, get_or, Result, Ok, Err, Some, None}
use Rattle.std.specs.Prelude as code
use Rattle.std.proofs.Math.Option.{Option, none, some}
use Rattle.model.specs.Types.{Ty}
use Rattle.model.specs.Within.{Within}
use Rattle.format.specs.Reader.{Read, got, stopped}
use Rattle.format.specs.Records.{write_ty}
use Rattle.format.specs.Views.{Stands}
use Rattle.machine.specs.SheetLimits.{max_names}
use Rattle.machine.specs.Written.{TableName, write_name, TableNameWithin}
use Rattle.machine.specs.Names.{same_name, naming, Names}
use Rattle.limits.specs.Answers.{number_of}
use Rattle.limits.specs.declared.refusal.Refusal.{Refusal}
use Rattle.names.specs.declared.table.Declared.{Declared}

-- ---- one name

-- A name stands at a place, its length first.
pub record NameStands (s : List ℕ) (at : ℕ) (n : TableName) : Type 0 where
  pub given : TableNameWithin n
  pub stands : Stands s at (write_name n)

-- where it ends
abbrev pub past_name : ℕ → TableName → ℕ
past_name at n = at + length (write_name n)

-- What was read from a place on is the name that stands there.
abbrev pub NameReadIs : Result ℕ Refusal → List ℕ → ℕ → Read TableName → Type 0
NameReadIs (Ok next) s at o = (n : TableName) × (o ≡ got n next) × NameStands s at n × (next ≡ past_name at n)
NameReadIs (Err r) s at o = o ≡ stopped (number_of r.0) r.1

-- ---- one declaration

-- A type stands from start to end.
pub record Spans (s : List ℕ) (start end : ℕ) (t : Ty) : Type 0 where
  pub within : Within t
  pub stands : Stands s start (write_ty t)
  pub reaches : end ≡ start + length (write_ty t)

-- A name stands at a place, and its type behind it up to the end.
pub record Declares (s : List ℕ) (at end : ℕ) (n : TableName) (t : Ty) : Type 0 where
  pub name : NameStands s at n
  pub type : Spans s (past_name at n) end t

-- ---- all names in force

-- from the k-th on
abbrev pub ListedFrom : List ℕ → List ℕ → List ℕ → ℕ → Names → Type 0
ListedFrom s places bounds k [] = Unit {0}
ListedFrom s places bounds k (naming n t ∷ ns) = Declares s (get_or places k 0) (get_or bounds k 0) n t × ListedFrom s places bounds (suc k) ns

pub record InForce (s places bounds : List ℕ) (count : ℕ) (ns : Names) : Type 0 where
  pub room : max_names ≤ length places
  pub ended : max_names ≤ length bounds
  pub many : length ns ≡ count
  pub few : count ≤ max_names
  pub listed : ListedFrom s places bounds 0 ns

-- that there are such
pub record HasNames (s places bounds : List ℕ) (count : ℕ) : Type 0 where
  pub names : Names
  pub in_force : InForce s places bounds count names

-- which of them a name is, or how many there are, if it is none of them
abbrev pub place_of : Names → TableName → ℕ
place_of [] n = 0
place_of (naming m u ∷ ns) n = cond (same_name m n) 0 (suc (place_of ns n))

-- The type that was found stands there.
abbrev pub LookedUpIs : code.Option Declared → List ℕ → Option Ty → Type 0
LookedUpIs (Some d) s o = (t : Ty) × (o ≡ some t) × Spans s d.start d.end t
LookedUpIs None s o = o ≡ none
