-- How one type of the stack lies, by its end; and its record, cut out of its tray by its length.
use Rattle.std.specs.Prelude.{ℕ, zero, suc, ◌+◌, ◌-◌, ◌≤◌, ◌<◌, List, ◌++◌, ◌≡◌, refl, length, get_or, take, drop}
use Rattle.std.proofs.Common.{arith, subst, length-append}
use Rattle.model.specs.Types.{Ty, ty}
use Rattle.format.specs.Records.{write_shape, write_scalar, write_ty}
use Rattle.format.specs.Views.{Stands, stands-part, stands-within}
use Rattle.rules.proofs.ViewsLaws.{type_least, scalar_least}
use Rattle.packing.specs.Packed.{pack_ty}
use Rattle.stack.specs.Stack.{Memory, slot_at, tray_at, packed_end, tray_end, EndsAt, InTray, Lying, size, Lies}

-- ---- how far its record reaches: the first part says nothing, and shows which bytes stand there

pub type_inside : (s : List ℕ) (at : ℕ) (t : Ty) → Stands s at (write_ty t) → (write_ty t ++ drop (at + size t) s ≡ write_ty t ++ drop (at + size t) s) × (at + size t ≤ length s)
type_inside s at t h = (refl, stands-within s at (write_ty t) (type_least t) h)

-- ---- by its end

module _ (m : Memory) (i : ℕ) (t : Ty) (h : Lies m i t) where
  pub lies_packed : get_or m.ends i 0 ≡ packed_end → Stands m.scratch (slot_at i) (pack_ty t)
  lies_packed e = subst (λ n. Lying m i n t) e h.lying

  lies_in_tray : get_or m.ends i 0 ≡ tray_end → InTray m.trays i t
  lies_in_tray e = subst (λ n. Lying m i n t) e h.lying

-- ---- the record of a type that is in its tray

module _ (m : Memory) (i : ℕ) (t : Ty) (h : Lies m i t) where
  abbrev n : ℕ
  n = get_or m.lengths i 0

  module _ (is : get_or m.ends i 0 ≡ tray_end) where
    tray-bytes : take n (drop (tray_at m.trays i) m.trays) ≡ write_ty t
    tray-bytes = rw h.long (stands-part m.trays (tray_at m.trays i) (write_ty t) (lies_in_tray m i t h is).stands)

    -- from its tray, which begins at `at`
    module _ {at : ℕ} (begins : at ≡ tray_at m.trays i) where
      pub tray_ends : at + n ≤ length m.trays
      tray_ends = omega (arith, begins, h.long, stands-within m.trays (tray_at m.trays i) (write_ty t) (type_least t) (lies_in_tray m i t h is).stands)

      pub tray_part : take (at + n - at) (drop at m.trays) ≡ write_ty t
      tray_part = let long : at + n - at ≡ n = omega arith in rw (long, begins) tray-bytes

-- ---- in the sheet: every type has more bytes than one

type-long : (t : Ty) → 1 < size t
unfolding write_ty
type-long (ty o k) = omega (arith, length-append (write_shape o) (write_scalar k), scalar_least k)

pub in_sheet : (m : Memory) (k : ℕ) (t : Ty) (end : ℕ) → EndsAt m.sheet end t → Lying m k end t
in_sheet m k t zero h = absurd (omega (arith, h.reaches, type_least t))
in_sheet m k t (suc zero) h = absurd (omega (arith, h.reaches, type-long t))
in_sheet m k t (suc (suc n)) h = h
