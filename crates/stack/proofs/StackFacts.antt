-- More of the types of the stack: the record of one that lies in the sheet, cut out of it by its end and its length; an end that was written
-- down; and what holds of those on top, by the top and the one below it.
use Rattle.std.specs.Prelude.{ℕ, zero, suc, ◌+◌, ◌-◌, ◌≤◌, ◌<◌, List, ◌≡◌, refl, length, get_or, take, drop, set}
use Rattle.std.proofs.Common.{arith, eq-or-lt_of_le, ⊎_elim, sym, subst, get_or-set_same}
use Rattle.model.specs.Types.{Ty}
use Rattle.format.specs.Records.{write_ty}
use Rattle.format.specs.Views.{stands-part, stands-within}
use Rattle.rules.proofs.ViewsLaws.{type_least}
use Rattle.stack.specs.Stack.{Memory, packed_end, tray_end, EndsAt, Lying, size, Lies, NotPacked}

-- ---- the record of a type that is neither packed nor in its tray

module _ (m : Memory) (i : ℕ) (t : Ty) (h : Lies m i t) (p : NotPacked m.ends i) (q : get_or m.ends i 0 ≡ tray_end → ⊥) where
  abbrev n : ℕ
  n = get_or m.lengths i 0

  abbrev end : ℕ
  end = get_or m.ends i 0

  lies_in_sheet : EndsAt m.sheet end t
  lies_in_sheet = go end p q h.lying
    where
      go : (k : ℕ) → (k ≡ packed_end → ⊥) → (k ≡ tray_end → ⊥) → Lying m i k t → EndsAt m.sheet k t
      go zero p q l = absurd (p refl)
      go (suc zero) p q l = absurd (q refl)
      go (suc (suc k)) p q l = l

  pub sheet_begins : n ≤ end
  sheet_begins = omega (arith, h.long, lies_in_sheet.reaches)

  pub sheet-ends : end ≤ length m.sheet
  sheet-ends = omega (arith, lies_in_sheet.reaches, stands-within m.sheet lies_in_sheet.from (write_ty t) (type_least t) lies_in_sheet.stands)

  pub sheet-bytes : take (end - (end - n)) (drop (end - n) m.sheet) ≡ write_ty t
  sheet-bytes =
      let from : end - n ≡ lies_in_sheet.from = omega (arith, h.long, lies_in_sheet.reaches) in
      let long : end - lies_in_sheet.from ≡ size t = omega (arith, lies_in_sheet.reaches) in
      rw (from, long) (stands-part m.sheet lies_in_sheet.from (write_ty t) lies_in_sheet.stands)

-- ---- an end that is written down

module _ (ends : List ℕ) (k : ℕ) (inside : k < length ends) where
  pub not_in_tray : get_or (set ends k packed_end) k 0 ≡ tray_end → ⊥
  not_in_tray e = omega (arith, get_or-set_same ends k packed_end 0 inside)

  pub not_packed : NotPacked (set ends k tray_end) k
  not_packed e = omega (arith, get_or-set_same ends k tray_end 0 inside)

-- ---- what holds of those below a place, of the top, and of the one below it

-- of one more
pub below_next : (P : ℕ → Type 0) (i : ℕ) → ((j : ℕ) → j < i → P j) → P i → (j : ℕ) → j < i + 1 → P j
below_next P i lower here j less =
    let last : j ≤ i = omega arith in
    ⊎_elim (λ e. subst P (sym e) here) (lower j) (eq-or-lt_of_le last)

module _ (P : ℕ → Type 0) (count : ℕ) (top : P (count - 1)) where
  pub top_one : (k : ℕ) → k < count → count ≤ k + 1 → P k
  top_one k less high = let e : count - 1 ≡ k = omega arith in subst P e top

  pub top_alone : count ≤ 1 → (k : ℕ) → k < count → count ≤ k + 2 → P k
  top_alone few k less high = top_one k less (omega arith)

  pub top_two : P (count - 2) → (k : ℕ) → k < count → count ≤ k + 2 → P k
  top_two below k less high =
      let last : k ≤ count - 1 = omega arith in
      ⊎_elim (λ e. subst P (sym e) top) (λ lower. let e : count - 2 ≡ k = omega arith in subst P e below) (eq-or-lt_of_le last)
