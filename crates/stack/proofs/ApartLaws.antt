-- Slots don't overlap, nor do trays: what is laid into one leaves the types in the others as they were.
use Rattle.std.specs.Prelude.{ℕ, zero, suc, ◌+◌, ◌/◌, ◌%◌, ◌≤◌, ◌<◌, List, ◌⊎◌, ◌≡◌, refl, length}
use Rattle.std.proofs.Common.{arith, eq-or-lt_of_le, inl, inr, ⊎_elim, sym, ◌∙◌, ap, subst}
use Rattle.model.specs.Types.{Ty}
use Rattle.model.specs.Within.{Within}
use Rattle.format.specs.Records.{write_ty}
use Rattle.format.specs.Views.{Stands}
use Rattle.lent.specs.Over.{over, length_over}
use Rattle.machine.specs.SheetLimits.{max_stack, scratch_bytes}
use Rattle.packing.specs.Packed.{pack_ty}
use Rattle.packing.proofs.PackedLaws.{packed_suffices}
use Rattle.lent.specs.StandsOver.{stands-laid, stands-before, stands_after}
use Rattle.stack.specs.Stack.{slot_at, tray_bytes, half_at, tray_at, InTray, size}

-- ---- places

pub alike : (i k : ℕ) → (i ≡ k) ⊎ (i ≡ k → ⊥)
alike zero zero = inl refl
alike zero (suc k) = inr (λ e. omega arith)
alike (suc i) zero = inr (λ e. omega arith)
alike (suc i) (suc k) = ⊎_elim (λ e. inl (ap suc e)) (λ ne. inr (λ e. ne (omega arith))) (alike i k)

pub apart : (i k : ℕ) → (i ≡ k → ⊥) → (i < k) ⊎ (k < i)
apart zero zero ne = absurd (ne refl)
apart zero (suc k) ne = inl (omega arith)
apart (suc i) zero ne = inr (omega arith)
apart (suc i) (suc k) ne = ⊎_elim (λ l. inl (omega arith)) (λ l. inr (omega arith)) (apart i k (λ e. ne (ap suc e)))

-- ---- slots

module _ (d : List ℕ) (room : scratch_bytes ≤ length d) (t : Ty) (within : Within t) (k : ℕ) (low : k < max_stack) where
  pub slot_inside : slot_at k + length (pack_ty t) ≤ length d
  slot_inside = omega (arith, packed_suffices t within)

  pub slot_apart : (i : ℕ) (u : Ty) → Within u → (i ≡ k → ⊥) → Stands d (slot_at i) (pack_ty u) → Stands (over d (slot_at k) (pack_ty t)) (slot_at i) (pack_ty u)
  slot_apart i u v ne s =
      ⊎_elim
      (λ less. stands-before d (pack_ty t) (slot_at k) slot_inside (slot_at i) (pack_ty u) (omega (arith, packed_suffices u v)) s)
      (λ more. stands_after d (pack_ty t) (slot_at k) slot_inside (slot_at i) (pack_ty u) (omega (arith, packed_suffices t within)) s)
      (apart i k ne)

-- ---- trays, the halves of some bytes

pub half-first : (n half : ℕ) → n ≡ 0 → half_at n half ≡ 0
half-first zero half e = refl
half-first (suc n) half e = absurd (omega arith)

pub half-second : (n half : ℕ) → n ≡ 1 → half_at n half ≡ half
half-second zero half e = absurd (omega arith)
half-second (suc n) half e = refl

pub halves : {C : Type 0} (h : List ℕ) (k : ℕ) → (k % 2 ≡ 0 → tray_at h k ≡ 0 → C) → (k % 2 ≡ 1 → tray_at h k ≡ tray_bytes h → C) → C
halves h k f g =
    let two : k % 2 ≤ 1 = omega arith in
    ⊎_elim (λ e. g e (half-second (k % 2) (tray_bytes h) e)) (λ less. let e : k % 2 ≡ 0 = omega arith in f e (half-first (k % 2) (tray_bytes h) e)) (eq-or-lt_of_le two)

tray_same : (h h₁ : List ℕ) (k : ℕ) → length h₁ ≡ length h → tray_at h₁ k ≡ tray_at h k
tray_same h h₁ k e = ap (λ n. half_at (k % 2) (n / 2)) e

module _ (h : List ℕ) (t : Ty) (fits : size t ≤ tray_bytes h) (k : ℕ) where
  pub tray_inside : tray_at h k + length (write_ty t) ≤ length h
  tray_inside = halves h k (λ p e. omega (arith, e, fits)) (λ p e. omega (arith, e, fits))

  abbrev laid : List ℕ
  laid = over h (tray_at h k) (write_ty t)

  pub laid_in_tray : InTray laid k t
  laid_in_tray =
      let same = length_over h (tray_at h k) (write_ty t) tray_inside in
      record {
        fits = omega (arith, same, fits);
        stands = subst (λ n. Stands laid n (write_ty t)) (sym (tray_same h laid k same)) (stands-laid h (write_ty t) (tray_at h k) tray_inside);
      }

  pub tray_apart : (i : ℕ) (u : Ty) → (i % 2 ≡ k % 2 → ⊥) → InTray h i u → InTray laid i u
  tray_apart i u ne s =
      let same = length_over h (tray_at h k) (write_ty t) tray_inside in
      record { fits = rw same s.fits; stands = subst (λ n. Stands laid n (write_ty u)) (sym (tray_same h laid i same)) other }
    where
      other : Stands laid (tray_at h i) (write_ty u)
      other =
          halves h i
          (λ p e. halves h k (λ q f. absurd (ne (p ∙ sym q))) (λ q f. stands-before h (write_ty t) (tray_at h k) tray_inside (tray_at h i) (write_ty u) (omega (arith, e, f, s.fits)) s.stands))
          (λ p e. halves h k (λ q f. stands_after h (write_ty t) (tray_at h k) tray_inside (tray_at h i) (write_ty u) (omega (arith, e, f, fits)) s.stands) (λ q f. absurd (ne (p ∙ sym q))))
