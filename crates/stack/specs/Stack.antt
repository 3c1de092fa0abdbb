-- Where the stack's types lie. A type that was put stays in the sheet. One that a rule made lies as a record in a tray, a buffer of the
-- call's own, or packed in a slot of the scratch.
use Rattle.std.specs.Prelude.{ℕ, zero, suc, ◌+◌, ◌-◌, ◌*◌, ◌/◌, ◌%◌, ◌≤◌, ◌<◌, List, [], ◌∷◌, ◌≡◌, length, get_or, drop}
use Rattle.model.specs.Limits.{max_bytes}
use Rattle.model.specs.Types.{Ty}
use Rattle.model.specs.Within.{Within}
use Rattle.format.specs.Records.{write_ty}
use Rattle.format.specs.Views.{Stands}
use Rattle.machine.specs.SheetLimits.{max_stack, max_packed, scratch_bytes}
use Rattle.packing.specs.Packed.{pack_ty}

-- Of each type from the bottom, where it ends in the sheet, if it lies there, and how long its record is; and the bytes among which they lie.
pub record Memory : Type 0 where
  pub ends : List ℕ
  pub lengths : List ℕ
  pub sheet : List ℕ
  pub trays : List ℕ
  pub scratch : List ℕ

abbrev pub memory : List ℕ → List ℕ → List ℕ → List ℕ → List ℕ → Memory
memory ends lengths sheet trays scratch = record { ends = ends; lengths = lengths; sheet = sheet; trays = trays; scratch = scratch }

-- ---- one type

-- the slot of the k-th from the bottom
abbrev pub slot_at : ℕ → ℕ
slot_at k = k * max_packed

-- bytes of a tray: there are two, the halves of a buffer
abbrev pub tray_bytes : List ℕ → ℕ
tray_bytes trays = length trays / 2

-- where its tray begins, which it shares with every second type: the first half, or the second
abbrev pub half_at : ℕ → ℕ → ℕ
half_at zero half = 0
half_at (suc n) half = half

abbrev pub tray_at : List ℕ → ℕ → ℕ
tray_at trays k = half_at (k % 2) (tray_bytes trays)

-- How it lies goes by its end in the sheet. No type ends at 0 or 1, being longer: 0 says that it is packed, 1 that it is in its tray.
abbrev pub packed_end : ℕ
packed_end = 0

abbrev pub tray_end : ℕ
tray_end = 1

-- how many bytes a type has
abbrev pub size : Ty → ℕ
size t = length (write_ty t)

-- that its record ends at a place
pub record EndsAt (s : List ℕ) (end : ℕ) (t : Ty) : Type 0 where
  pub from : ℕ
  pub reaches : end ≡ from + size t
  pub stands : Stands s from (write_ty t)

-- that it fits its tray and stands there
pub record InTray (trays : List ℕ) (k : ℕ) (t : Ty) : Type 0 where
  pub fits : size t ≤ tray_bytes trays
  pub stands : Stands trays (tray_at trays k) (write_ty t)

-- how the k-th from the bottom lies, by its end
abbrev pub Lying : Memory → ℕ → ℕ → Ty → Type 0
Lying m k zero t = Stands m.scratch (slot_at k) (pack_ty t)
Lying m k (suc zero) t = InTray m.trays k t
Lying m k (suc (suc n)) t = EndsAt m.sheet (suc (suc n)) t

-- The k-th from the bottom is this type.
pub record Lies (m : Memory) (k : ℕ) (t : Ty) : Type 0 where
  pub within : Within t
  pub long : get_or m.lengths k 0 ≡ size t
  pub lying : Lying m k (get_or m.ends k 0) t

-- that it is one
pub record HasOne (m : Memory) (k : ℕ) : Type 0 where
  pub type : Ty
  pub lies : Lies m k type

-- ---- all of them

-- so many from the bottom are these types, the highest first
abbrev pub Lie : Memory → ℕ → List Ty → Type 0
Lie m zero [] = Unit {0}
Lie m zero (t ∷ ts) = ⊥
Lie m (suc k) [] = ⊥
Lie m (suc k) (t ∷ ts) = Lies m k t × Lie m k ts

-- The stack has these types, top first.
pub record Stacked (m : Memory) (count : ℕ) (ts : List Ty) : Type 0 where
  pub room : scratch_bytes ≤ length m.scratch
  pub ended : max_stack ≤ length m.ends
  pub measured : max_stack ≤ length m.lengths
  pub few : count ≤ max_stack
  pub lie : Lie m count ts

-- that it has some
pub record HasStack (m : Memory) (count : ℕ) : Type 0 where
  pub types : List Ty
  pub stacked : Stacked m count types

-- the k lowest of so many
abbrev pub lowest : ℕ → ℕ → List Ty → List Ty
lowest count k ts = drop (count - k) ts

-- ---- what is done with it

-- The k-th does not lie packed.
abbrev pub NotPacked : List ℕ → ℕ → Type 0
NotPacked ends k = get_or ends k 0 ≡ packed_end → ⊥

-- None of so many on top does.
abbrev pub Unpacked : ℕ → List ℕ → ℕ → Type 0
Unpacked few ends count = (k : ℕ) → k < count → count ≤ k + few → NotPacked ends k

-- The two on top fit their trays.
abbrev pub FitTrays : List ℕ → List ℕ → ℕ → Type 0
FitTrays lengths trays count = (k : ℕ) → k < count → count ≤ k + 2 → get_or lengths k 0 ≤ tray_bytes trays

-- None of so many is in its tray.
abbrev pub NoneInTray : List ℕ → ℕ → Type 0
NoneInTray ends count = (k : ℕ) → k < count → get_or ends k 0 ≡ tray_end → ⊥

-- None below the k-th is in the k-th's tray.
abbrev pub Free : List ℕ → ℕ → Type 0
Free ends k = (i : ℕ) → i < k → i % 2 ≡ k % 2 → get_or ends i 0 ≡ tray_end → ⊥

-- trays with room for any type
abbrev pub full_trays : ℕ
full_trays = 2 * max_bytes

-- A type comes on top of the k lowest; those that stood above them go.
abbrev pub Takes : Memory → ℕ → ℕ → Ty → Memory → Type 0
Takes m count k t m₁ = (ts : List Ty) → Stacked m count ts → Stacked m₁ (k + 1) (t ∷ lowest count k ts)

-- The same types, though some may lie elsewhere.
abbrev pub Keeps : Memory → ℕ → Memory → Type 0
Keeps m count m₁ = (ts : List Ty) → Stacked m count ts → Stacked m₁ count ts
