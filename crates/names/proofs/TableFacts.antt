-- More of names and of those in force: what is told of two names byte by byte, of one name's bytes, and of a name that was found.
use Rattle.std.specs.Prelude.{ℕ, suc, ◌+◌, ◌≤◌, ◌<◌, Bool, true, false, List, [], ◌∷◌, ◌≡◌, refl, length, get_or, drop, set, ltb, Some}
use Rattle.std.proofs.Common.{arith, sym, ◌∙◌, ap, ext_get_or, ltb-true, ltb-false}
use Rattle.std.proofs.Math.Option.{none, some}
use Rattle.model.specs.Types.{Ty}
use Rattle.format.specs.Views.{stands-nth}
use Rattle.machine.specs.SheetLimits.{max_names}
use Rattle.machine.specs.Written.{TableName, write_name}
use Rattle.machine.specs.Names.{same_name, Names, type_in_force, declare}
use Rattle.machine.proofs.NamesLaws.{same-name, same_name-refl}
use Rattle.names.specs.Table.{NameStands, Declares, InForce, place_of, LookedUpIs}
use Rattle.names.specs.TableLaws.{name_length, name_inside, nth_in_force, place-few, type_none, type-there, found_is, left_again, left_new}

-- ---- one name

module _ (s : List ℕ) (at : ℕ) (n : TableName) (h : NameStands s at n) where
  pub name-length : get_or s at 0 ≡ length n
  name-length = name_length s at n h

  pub name-inside : at + 1 + length n ≤ length s
  name-inside = name_inside s at n h

  name-byte : (i : ℕ) → i < length n → get_or s (at + 1 + i) 0 ≡ get_or n i 0
  name-byte i less =
      let next : at + 1 + i ≡ at + suc i = omega arith in
      rw next (stands-nth s at (write_name n) (suc i) (omega arith) h.stands)

-- ---- two names

-- The same bytes from two places on, so many of them, or not.
abbrev pub SameStretch : Bool → List ℕ → ℕ → ℕ → ℕ → Type 0
SameStretch true s a b count = (i : ℕ) → i < count → get_or s (a + i) 0 ≡ get_or s (b + i) 0
SameStretch false s a b count = (i : ℕ) × (i < count) × (get_or s (a + i) 0 ≡ get_or s (b + i) 0 → ⊥)

-- bytes that are alike up to the i-th, and there, are alike up to the next
pub alike_next : (s : List ℕ) (a b i : ℕ) → ((j : ℕ) → j < i → get_or s (a + j) 0 ≡ get_or s (b + j) 0) → get_or s (a + i) 0 ≡ get_or s (b + i) 0
    → (j : ℕ) → j < i + 1 → get_or s (a + j) 0 ≡ get_or s (b + j) 0
alike_next s a b i before here j h = go (ltb j i) refl
  where
    go : (t : Bool) → ltb j i ≡ t → get_or s (a + j) 0 ≡ get_or s (b + j) 0
    go true e = before j (ltb-true j i e)
    go false e = let same : j ≡ i = omega (arith, ltb-false j i e) in rw same here

not_same : (m n : TableName) → (m ≡ n → ⊥) → same_name m n ≡ false
not_same m n differ = go (same_name m n) refl
  where
    go : (b : Bool) → same_name m n ≡ b → b ≡ false
    go true e = absurd (differ (same-name m n e))
    go false e = refl

module _ (s : List ℕ) (a b : ℕ) (m n : TableName) (h : NameStands s a m) (k : NameStands s b n) where
  -- not of one length
  pub lengths_differ : (get_or s b 0 ≡ get_or s a 0 → ⊥) → false ≡ same_name m n
  lengths_differ differ = sym (not_same m n λ e. differ (name-length s b n k ∙ sym (ap length e) ∙ sym (name-length s a m h)))

  -- of one length: by their bytes
  pub stretch_tells : (r : Bool) → get_or s b 0 ≡ get_or s a 0 → SameStretch r s (a + 1) (b + 1) (get_or s a 0) → r ≡ same_name m n
  stretch_tells true long same =
      let equally : length m ≡ length n = omega (arith, name-length s a m h, name-length s b n k) in
      let x : m ≡ n = ext_get_or 0 m n equally λ i less.
      sym (name-byte s a m h i less) ∙ same i (omega (arith, name-length s a m h)) ∙ name-byte s b n k i (omega arith) in
      rw x (sym (same_name-refl n))
  stretch_tells false long (i, less, differ) =
      let equally : length m ≡ length n = omega (arith, name-length s a m h, name-length s b n k) in
      let here : i < length m = omega (arith, name-length s a m h) in
      sym (not_same m n λ e. differ (name-byte s a m h i here ∙ ap (λ x. get_or x i 0) e ∙ sym (name-byte s b n k i (omega arith))))

-- ---- which of them a name is

drop_all : {A : Type 0} (l : List A) → drop (length l) l ≡ []
drop_all [] = refl
drop_all (x ∷ l) = drop_all l

pub place_none : (n : TableName) (ns : Names) (k : ℕ) → length ns ≡ k → place_of ns n ≡ k + place_of (drop k ns) n → k ≡ place_of ns n
place_none n ns k many past =
    let none_left : drop k ns ≡ [] = rw (← many) (drop_all ns) in
    let here : place_of (drop k ns) n ≡ 0 = ap (λ x. place_of x n) none_left in
    omega (arith, past, here)

pub type-none : (ns : Names) (n : TableName) → place_of ns n ≡ length ns → type_in_force ns n ≡ none
type-none ns n e = type_none ns n e

-- ---- what was found

module _ (s places bounds : List ℕ) {count : ℕ} (ns : Names) (force : InForce s places bounds count ns) (n : TableName) (k : ℕ) (is : k ≡ place_of ns n) where
  pub found-low : k ≤ count
  found-low = omega (arith, place-few ns n, is, force.many)

  pub found_none : k ≡ count → type_in_force ns n ≡ none
  found_none e = type_none ns n (omega (arith, is, force.many, e))

  module _ (other : k ≡ count → ⊥) where
    pub found-less : k < count
    found-less = go (ltb k count) refl
      where
        go : (b : Bool) → ltb k count ≡ b → k < count
        go true e = ltb-true k count e
        go false e = absurd (other (omega (arith, ltb-false k count e, found-low)))

    -- the name there, whose type is the one in force
    pub found-there : {C : Type 0} → ((m : TableName) (u : Ty) → type_in_force ns n ≡ some u → Declares s (get_or places k 0) (get_or bounds k 0) m u → C) → C
    found-there f = nth_in_force s places bounds ns force k found-less λ m u e d. f m u (type-there ns n k m u (drop (k + 1) ns) e is) d

    pub found-is : (long : ℕ) → long ≡ get_or s (get_or places k 0) 0 → LookedUpIs (Some (record { start = get_or places k 0 + 1 + long; end = get_or bounds k 0 })) s (type_in_force ns n)
    found-is long e = rw e (found_is s places bounds ns force k found-less n is)

-- ---- what a declaration leaves

module _ (s places bounds : List ℕ) {count : ℕ} (ns : Names) (force : InForce s places bounds count ns) (n : TableName) (t : Ty) (at end k : ℕ) (is : k ≡ place_of ns n) (d : Declares s at end n t)
    (other : k ≡ max_names → ⊥) where
  room-left : k < max_names
  room-left = go (ltb k max_names) refl
    where
      go : (b : Bool) → ltb k max_names ≡ b → k < max_names
      go true e = ltb-true k max_names e
      go false e = absurd (other (omega (arith, ltb-false k max_names e, found-low s places bounds ns force n k is, force.few)))

  pub left-again : k < count → (count ≡ length (declare ns n t)) × (count ≤ max_names → InForce s (set places k at) (set bounds k end) count (declare ns n t)) × (count ≤ max_names)
  left-again less = let left = left_again s places bounds ns force n t at end k is d room-left less in (left.0, left.1, force.few)

  pub left-new : count ≤ k → (count + 1 ≡ length (declare ns n t)) × (count + 1 ≤ max_names → InForce s (set places k at) (set bounds k end) (count + 1) (declare ns n t)) × (count + 1 ≤ max_names)
  left-new past = let left = left_new s places bounds ns force n t at end k is d room-left past in (left.0, left.1, omega (arith, room-left))
