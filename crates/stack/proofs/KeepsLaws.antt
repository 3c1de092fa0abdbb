-- The stack's types stay where one is put, stored, packed or unpacked.
use Prim.{tt}
use Rattle.std.specs.Prelude.{ℕ, zero, suc, ◌+◌, ◌-◌, ◌%◌, ◌≤◌, ◌<◌, List, [], ◌∷◌, ◌≡◌, refl, length, get_or, take, drop, set}
use Rattle.std.proofs.Common.{arith, add-one, ⊎_elim, sym, ◌∙◌, subst, length-set, get_or-set_same, get_or-set_other}
use Rattle.model.specs.Types.{Ty}
use Rattle.model.specs.Within.{Within}
use Rattle.format.specs.Records.{write_ty}
use Rattle.format.specs.Views.{Stands}
use Rattle.lent.specs.Over.{over}
use Rattle.machine.specs.SheetLimits.{max_stack, scratch_bytes}
use Rattle.packing.specs.Packed.{pack_ty, Packable, Packs, Unpackable, Unpacks}
use Rattle.lent.specs.StandsOver.{stands-laid}
use Rattle.stack.specs.Stack.{Memory, memory, slot_at, tray_bytes, tray_at, packed_end, tray_end, EndsAt, InTray, Lying, size, Lies, Lie, HasStack, lowest, NoneInTray, Free, Takes, Keeps}
use Rattle.stack.proofs.StackLaws.{lie-lowest, lie-next}
use Rattle.stack.proofs.LyingLaws.{in_sheet, lies_packed, tray_ends, tray_part}
use Rattle.stack.proofs.ApartLaws.{alike, apart, laid_in_tray, slot_apart, slot_inside, tray_apart, tray_inside}

-- ---- one memory after another, as long as it

record Like (m m₁ : Memory) : Type 0 where
  pub ends : length m₁.ends ≡ length m.ends
  pub lengths : length m₁.lengths ≡ length m.lengths
  pub scratch : length m₁.scratch ≡ length m.scratch

module _ (m m₁ : Memory) (like : Like m m₁) where
  lie-map : (k : ℕ) (ts : List Ty) → ((i : ℕ) (t : Ty) → i < k → Lies m i t → Lies m₁ i t) → Lie m k ts → Lie m₁ k ts
  lie-map zero [] f h = tt
  lie-map zero (t ∷ ts) f h = absurd h
  lie-map (suc k) [] f h = absurd h
  lie-map (suc k) (t ∷ ts) f h = (f k t (omega arith) h.0, lie-map k ts (λ i u less. f i u (omega arith)) h.1)

  keeps : (count : ℕ) → ((i : ℕ) (t : Ty) → i < count → Lies m i t → Lies m₁ i t) → Keeps m count m₁
  keeps count f ts h = record {
    room = omega (arith, h.room, like.scratch);
    ended = omega (arith, h.ended, like.ends);
    measured = omega (arith, h.measured, like.lengths);
    few = h.few;
    lie = lie-map count ts f h.lie;
  }

  takes : (count k : ℕ) (t : Ty) → k < max_stack → k ≤ count → ((i : ℕ) (u : Ty) → i < k → Lies m i u → Lies m₁ i u) → Lies m₁ k t → Takes m count k t m₁
  takes count k t low there f new ts h = record {
    room = omega (arith, h.room, like.scratch);
    ended = omega (arith, h.ended, like.ends);
    measured = omega (arith, h.measured, like.lengths);
    few = omega arith;
    lie = rw add-one (new, lie-map k (lowest count k ts) f (lie-lowest m count k ts there h.lie));
  }

-- a type that ends where it did, if its bytes stand where they did
module _ (m m₁ : Memory) where
  lies-kept : (i : ℕ) (t : Ty) → get_or m₁.ends i 0 ≡ get_or m.ends i 0 → get_or m₁.lengths i 0 ≡ get_or m.lengths i 0 → m₁.sheet ≡ m.sheet
      → (Stands m.scratch (slot_at i) (pack_ty t) → Stands m₁.scratch (slot_at i) (pack_ty t))
      → (get_or m.ends i 0 ≡ tray_end → InTray m.trays i t → InTray m₁.trays i t)
      → Lies m i t → Lies m₁ i t
  lies-kept i t end long same packed tray h = record {
    within = h.within;
    long = long ∙ h.long;
    lying = subst (λ n. Lying m₁ i n t) (sym end) (go (get_or m.ends i 0) refl h.lying);
  }
    where
      go : (n : ℕ) → get_or m.ends i 0 ≡ n → Lying m i n t → Lying m₁ i n t
      go zero e l = packed l
      go (suc zero) e l = tray e l
      go (suc (suc n)) e l = rw same l

-- ---- what becomes of them

-- one that is in its tray, which begins at `at`, has room in its slot
pub set_aside : (m : Memory) (count i : ℕ) → HasStack m count → i < count → get_or m.ends i 0 ≡ tray_end → {at : ℕ} → at ≡ tray_at m.trays i
    → (at + get_or m.lengths i 0 ≤ length m.trays) × Packable (take (at + get_or m.lengths i 0 - at) (drop at m.trays)) m.scratch (slot_at i)
set_aside m count i has less held begins =
    lie-next m count i has.types less has.stacked.lie λ t l e. (
      tray_ends m i t l held begins,
      record {
        type = t;
        within = l.within;
        bytes = tray_part m i t l held begins;
        room = slot_inside m.scratch has.stacked.room t l.within i (omega (arith, has.stacked.few));
      },
    )

-- and one that lies packed has room in its tray, if it is no longer
pub bring_back : (m : Memory) (count i : ℕ) → HasStack m count → i < count → get_or m.ends i 0 ≡ packed_end → get_or m.lengths i 0 ≤ tray_bytes m.trays → {at : ℕ} → at ≡ tray_at m.trays i
    → Unpackable m.scratch (slot_at i) m.trays at
bring_back m count i has less packed fits begins =
    lie-next m count i has.types less has.stacked.lie λ t l e. record {
      type = t;
      within = l.within;
      stands = lies_packed m i t l packed;
      room = rw begins (tray_inside m.trays t (omega (arith, fits, l.long)) i);
    }

module _ (ends lengths s h d : List ℕ) (count k : ℕ) where
  abbrev m : Memory
  m = memory ends lengths s h d

  -- a type on top of the k lowest, whose end and length are written down
  module _ (low : k < max_stack) (there : k ≤ count) (t : Ty) (within : Within t) (end n : ℕ) (long : n ≡ size t) (h₁ d₁ : List ℕ) (same : length d₁ ≡ length d) where
    abbrev m₁ : Memory
    m₁ = memory (set ends k end) (set lengths k n) s h₁ d₁

    on_top : Lying m₁ k end t
        → ((i : ℕ) (u : Ty) → i < k → Within u → Stands d (slot_at i) (pack_ty u) → Stands d₁ (slot_at i) (pack_ty u))
        → ((i : ℕ) (u : Ty) → i < k → get_or ends i 0 ≡ tray_end → InTray h i u → InTray h₁ i u)
        → Takes m count k t m₁
    on_top lying packed tray ts st =
        let like : Like m m₁ = record { ends = length-set ends k end; lengths = length-set lengths k n; scratch = same } in
        let here : get_or (set ends k end) k 0 ≡ end = get_or-set_same ends k end 0 (omega (arith, st.ended)) in
        let size-here : get_or (set lengths k n) k 0 ≡ n = get_or-set_same lengths k n 0 (omega (arith, st.measured)) in
        let lower : (i : ℕ) (u : Ty) → i < k → Lies m i u → Lies m₁ i u = λ i u less l. lies-kept m m₁ i u
        (get_or-set_other ends k i end 0 (λ e. omega arith)) (get_or-set_other lengths k i n 0 (λ e. omega arith)) refl (packed i u less l.within) (tray i u less) l in
        takes m m₁ like count k t low there lower (record { within = within; long = size-here ∙ long; lying = rw here lying }) ts st

    -- It was put, and stays in the sheet.
    pub put-takes : h₁ ≡ h → d₁ ≡ d → EndsAt s end t → Takes m count k t m₁
    put-takes e f stands = on_top (in_sheet m₁ k t end stands) (λ i u less v. rw f (λ x. x)) (λ i u less is. rw e (λ x. x))

    -- It is packed in its slot.
    pub packed_takes : h₁ ≡ h → d₁ ≡ over d (slot_at k) (pack_ty t) → end ≡ packed_end → scratch_bytes ≤ length d → Takes m count k t m₁
    packed_takes e f is room =
        on_top
        (rw (is, f) (stands-laid d (pack_ty t) (slot_at k) (slot_inside d room t within k low)))
        (λ i u less v. rw f (slot_apart d room t within k low i u v (λ x. omega arith)))
        (λ i u less is. rw e (λ x. x))

    -- It is laid in its tray, where nothing else is needed any more.
    pub in_tray_takes : h₁ ≡ over h (tray_at h k) (write_ty t) → d₁ ≡ d → end ≡ tray_end → size t ≤ tray_bytes h → Free ends k → Takes m count k t m₁
    in_tray_takes e f is fits free =
        on_top
        (rw (is, e) (laid_in_tray h t fits k))
        (λ i u less v. rw f (λ x. x))
        (λ i u less held. rw e (tray_apart h t fits k i u (λ x. free i less x held)))

  -- the same types, of which the k-th ends elsewhere
  module _ (less : k < count) (end : ℕ) (h₁ d₁ : List ℕ) (same : length d₁ ≡ length d) where
    abbrev m₂ : Memory
    m₂ = memory (set ends k end) lengths s h₁ d₁

    elsewhere : ((t : Ty) → Lies m k t → Lying m₂ k end t)
        → ((i : ℕ) (u : Ty) → (i ≡ k → ⊥) → Within u → Stands d (slot_at i) (pack_ty u) → Stands d₁ (slot_at i) (pack_ty u))
        → ((i : ℕ) (u : Ty) → (i ≡ k → ⊥) → i < count → get_or ends i 0 ≡ tray_end → InTray h i u → InTray h₁ i u)
        → Keeps m count m₂
    elsewhere lying packed tray ts st = keeps m m₂ (record { ends = length-set ends k end; lengths = refl; scratch = same }) count one ts st
      where
        one : (i : ℕ) (u : Ty) → i < count → Lies m i u → Lies m₂ i u
        one i u inside l = ⊎_elim here other (alike i k)
          where
            here : i ≡ k → Lies m₂ i u
            here e =
                let end-here : get_or (set ends k end) k 0 ≡ end = get_or-set_same ends k end 0 (omega (arith, st.ended, st.few)) in
                subst (λ j. Lies m₂ j u) (sym e)
                (record { within = l.within; long = rw e at l.long; lying = rw end-here (lying u (subst (λ j. Lies m j u) e l)) })

            other : (i ≡ k → ⊥) → Lies m₂ i u
            other ne = lies-kept m m₂ i u (get_or-set_other ends k i end 0 ne) refl refl (packed i u ne l.within) (tray i u ne inside) l

    -- It leaves its tray for its slot.
    pub packed_keeps : get_or ends k 0 ≡ tray_end → h₁ ≡ h → end ≡ packed_end → {at : ℕ} → at ≡ tray_at h k
        → Packs (take (at + get_or lengths k 0 - at) (drop at h)) d (slot_at k) d₁ → Keeps m count m₂
    packed_keeps held e is begins packs ts st =
        lie-next m count k ts less st.lie λ t l x.
        let laid : (u : Ty) → Lies m k u → d₁ ≡ over d (slot_at k) (pack_ty u) = λ u l. packs u l.within (tray_part m k u l held begins) in
        let low : k < max_stack = omega (arith, st.few) in
        elsewhere
        (λ u l. rw (is, laid u l) (stands-laid d (pack_ty u) (slot_at k) (slot_inside d st.room u l.within k low)))
        (λ i u ne v. rw (laid t l) (slot_apart d st.room t l.within k low i u v ne))
        (λ i u ne inside is. rw e (λ x. x)) ts st

    -- It leaves its slot for its tray, where nothing else is needed.
    pub unpacked-keeps : get_or ends k 0 ≡ packed_end → d₁ ≡ d → end ≡ tray_end → get_or lengths k 0 ≤ tray_bytes h → count ≤ k + 2 → Free ends k
        → Unpacks d (slot_at k) h (tray_at h k) h₁ → Keeps m count m₂
    unpacked-keeps packed f is room top free unpacks ts st =
        lie-next m count k ts less st.lie λ t l x.
        let laid : (u : Ty) → Lies m k u → h₁ ≡ over h (tray_at h k) (write_ty u) = λ u l. unpacks u l.within (lies_packed m k u l packed) in
        let fits : (u : Ty) → Lies m k u → size u ≤ tray_bytes h = λ u l. omega (arith, l.long) in
        elsewhere
        (λ u l. rw (is, laid u l) (laid_in_tray h u (fits u l) k))
        (λ i u ne v. rw f (λ x. x))
        (λ i u ne inside held. rw (laid t l) (tray_apart h t (fits t l) k i u (other i ne inside held))) ts st
      where
        other : (i : ℕ) → (i ≡ k → ⊥) → i < count → get_or ends i 0 ≡ tray_end → i % 2 ≡ k % 2 → ⊥
        other i ne inside held e = ⊎_elim (λ lower. free i lower e held) (λ upper. let next : i ≡ k + 1 = omega arith in absurd (omega arith)) (apart i k ne)

-- Other trays, where no type is in its tray.
pub trays_keep : (ends lengths s h h₁ d : List ℕ) (count : ℕ) → NoneInTray ends count → Keeps (memory ends lengths s h d) count (memory ends lengths s h₁ d)
trays_keep ends lengths s h h₁ d count none =
    keeps (memory ends lengths s h d) (memory ends lengths s h₁ d) (record { ends = refl; lengths = refl; scratch = refl }) count λ i t less l.
    lies-kept (memory ends lengths s h d) (memory ends lengths s h₁ d) i t refl refl refl (λ x. x) (λ is x. absurd (none i less is)) l
