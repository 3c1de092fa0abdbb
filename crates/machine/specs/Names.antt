-- Names in force, and the steps that written ones come to (document 02, 2026-06): "a use is a put of the type then in force, a declaration
-- may stand anywhere and leaves the stack as it is". Of a written list, the unfolded one is what the rules, the real run and demand 3
-- speak of.
use Rattle.std.specs.Prelude.{ℕ, ◌≤◌, Bool, true, false, ◌&&◌, cond, List, [], ◌∷◌, ◌++◌, ◌≡◌, length, eqb, leb}
use Rattle.std.proofs.Math.Option.{Option, none, some}
use Rattle.model.specs.Types.{Ty}
use Rattle.model.specs.Within.{All}
use Rattle.machine.specs.SheetLimits.{max_steps, max_names}
use Rattle.machine.specs.Steps.{Step, put}
use Rattle.machine.specs.Written.{TableName, WrittenStep, working, declaring, using_name, write_steps, WrittenWithin}

-- ---- names in force

-- The same name: as many bytes, and the same ones.
abbrev pub same_name : TableName → TableName → Bool
same_name [] [] = true
same_name [] (y ∷ n) = false
same_name (x ∷ m) [] = false
same_name (x ∷ m) (y ∷ n) = eqb x y && same_name m n

-- a name, and the type that it was last declared with
pub data Naming : Type 0 where
  naming : TableName → Ty → Naming

-- The names in force, each once, by first declaration.
abbrev pub Names : Type 0
Names = List Naming

-- the type in force for a name, none where it was never declared
abbrev pub type_in_force : Names → TableName → Option Ty
type_in_force [] n = none
type_in_force (naming m u ∷ ns) n = cond (same_name m n) (some u) (type_in_force ns n)

-- "A later declaration of the same name supersedes the earlier for the uses after it"; a new name comes last.
abbrev pub declare : Names → TableName → Ty → Names
declare [] n t = naming n t ∷ []
declare (naming m u ∷ ns) n t = cond (same_name m n) (naming n t ∷ ns) (naming m u ∷ declare ns n t)

-- The names that a step leaves in force.
abbrev pub names_past : WrittenStep → Names → Names
names_past (working x) ns = ns
names_past (declaring n t) ns = declare ns n t
names_past (using_name n) ns = ns

-- ---- what 15 and 16 are about

abbrev pub is_there : Option Ty → Bool
is_there none = false
is_there (some t) = true

-- not "name never declared before this use"
abbrev pub is_known : WrittenStep → Names → Bool
is_known (working x) ns = true
is_known (declaring n t) ns = true
is_known (using_name n) ns = is_there (type_in_force ns n)

-- not "a seventeenth name"
abbrev pub has_room : WrittenStep → Names → Bool
has_room (working x) ns = true
has_room (declaring n t) ns = leb (length (declare ns n t)) max_names
has_room (using_name n) ns = true

-- Neither 15 nor 16, of each step of a list, from these names on.
abbrev pub NamesHold : Names → List WrittenStep → Type 0
NamesHold ns [] = Unit {0}
NamesHold ns (w ∷ ws) = (is_known w ns ≡ true) × (has_room w ns ≡ true) × NamesHold (names_past w ns) ws

-- ---- unfolding

abbrev pub put_there : Option Ty → List Step
put_there none = []
put_there (some t) = put t ∷ []

-- The steps that a written one comes to with these names in force, one or none. A use of a name that is not known comes to none; where names
-- hold there is no such use.
abbrev pub unfolded_step : Names → WrittenStep → List Step
unfolded_step ns (working x) = x ∷ []
unfolded_step ns (declaring n t) = []
unfolded_step ns (using_name n) = put_there (type_in_force ns n)

-- The steps that a written list comes to, from these names on; from none, those of a whole sheet. So "real arrays are then chosen for each
-- use, as for a put".
unfoldable pub unfolded : Names → List WrittenStep → List Step
unfolded ns [] = []
unfolded ns (w ∷ ws) = unfolded_step ns w ++ unfolded (names_past w ns) ws

-- ---- which bytes are those of steps

-- These are the bytes of a written list within the limits, in which names hold, that comes to these steps.
pub record SheetOf (s : List ℕ) (xs : List Step) : Type 0 where
  pub written : List WrittenStep
  pub bytes : s ≡ write_steps written
  pub within : All WrittenWithin written
  pub few : length written ≤ max_steps
  pub names_hold : NamesHold [] written
  pub comes_to : unfolded [] written ≡ xs
