-- What stands where a name stands, when two names are the same, and how the names in force are looked through and change.
use Rattle.std.specs.Prelude.{ℕ, zero, suc, ◌+◌, ◌-◌, ◌≤◌, ◌<◌, Bool, true, false, ◌&&◌, cond, List, [], ◌∷◌, ◌≡◌, refl, length, get_or, take, drop, set, eqb, Some}
use Rattle.std.specs.Cmp.Lexicographic.{pointwise}
use Rattle.std.proofs.Common.{arith, sym, ◌∙◌, ap, length-set, get_or-set_same, get_or-set_other}
use Rattle.std.proofs.Math.Option.{none, some}
use Rattle.model.specs.Types.{shape, Ty, ty}
use Rattle.format.specs.Records.{write_shape, write_ty}
use Rattle.format.specs.Views.{stands-byte, stands-second, stands-within, stands-part}
use Rattle.format.specs.Outcome.{accepted, lone}
use Rattle.format.specs.WriteRead.{write_lone}
use Rattle.machine.specs.SheetLimits.{max_names}
use Rattle.machine.specs.Written.{TableName, write_name}
use Rattle.machine.specs.Names.{same_name, naming, Names, type_in_force, declare}
use Rattle.machine.proofs.NamesLaws.{added, declare-length}
use Rattle.names.specs.Table.{NameStands, past_name, Spans, Declares, ListedFrom, InForce, place_of, LookedUpIs}

-- ---- one name

module _ (s : List ℕ) (at : ℕ) (n : TableName) (h : NameStands s at n) where
  pub name_length : get_or s at 0 ≡ length n
  name_length = stands-byte s at (length n) n h.stands

  pub name_inside : at + 1 + length n ≤ length s
  name_inside = omega (arith, stands-within s at (write_name n) (omega arith) h.stands)

  pub name_bytes : take (length n) (drop (at + 1) s) ≡ n
  name_bytes = stands-part s (at + 1) n (stands-second s at (length n ∷ []) n h.stands)

-- ---- a type

-- every type has bytes
some_bytes : (t : Ty) → 0 < length (write_ty t)
unfolding write_ty write_shape
some_bytes (ty (shape o c) k) = omega arith

-- Its bytes are a part of the sheet, and that type alone.
module _ (s : List ℕ) (start end : ℕ) (t : Ty) (h : Spans s start end t) where
  pub spans_forth : start ≤ end
  spans_forth = omega (arith, h.reaches)

  pub spans_there : end ≤ length s
  spans_there = omega (arith, h.reaches, stands-within s start (write_ty t) (some_bytes t) h.stands)

  pub spans_lone : lone (take (end - start) (drop start s)) ≡ accepted t
  spans_lone =
      let long : end - start ≡ length (write_ty t) = omega (arith, h.reaches) in
      let bytes : take (end - start) (drop start s) ≡ write_ty t = ap (λ n. take n (drop start s)) long ∙ stands-part s start (write_ty t) h.stands in
      ap lone bytes ∙ write_lone t h.within

-- ---- two names

pub same_by_bytes : (m n : TableName) → pointwise eqb m n ≡ same_name m n
same_by_bytes [] [] = refl
same_by_bytes [] (y ∷ n) = refl
same_by_bytes (x ∷ m) [] = refl
same_by_bytes (x ∷ m) (y ∷ n) = ap (λ t. eqb x y && t) (same_by_bytes m n)

-- ---- the names in force, one after the other

-- no names
pub none_in_force : (s places bounds : List ℕ) → max_names ≤ length places → max_names ≤ length bounds → InForce s places bounds 0 []
none_in_force s places bounds room ended = record { room = room; ended = ended; many = refl; few = omega arith; listed = tt }

module _ (s places bounds : List ℕ) where
  -- the k-th, and those after it
  listed_nth : {C : Type 0} (j k : ℕ) (ns : Names) → ListedFrom s places bounds j ns → k < length ns
      → ((m : TableName) (u : Ty) → drop k ns ≡ naming m u ∷ drop (suc k) ns → Declares s (get_or places (j + k) 0) (get_or bounds (j + k) 0) m u → C) → C
  listed_nth j k [] h less f = absurd (omega arith)
  listed_nth j zero (naming m u ∷ ns) h less f = let same : j + 0 ≡ j = omega arith in f m u refl (rw same h.0)
  listed_nth j (suc k) (naming m u ∷ ns) h less f =
      let same : j + suc k ≡ suc j + k = omega arith in
      listed_nth (suc j) k ns h.1 (omega arith) λ v w e d. f v w e (rw same d)

  module _ {count : ℕ} (ns : Names) (h : InForce s places bounds count ns) (k : ℕ) (less : k < count) where
    pub nth_in_force : {C : Type 0} → ((m : TableName) (u : Ty) → drop k ns ≡ naming m u ∷ drop (k + 1) ns → Declares s (get_or places k 0) (get_or bounds k 0) m u → C) → C
    nth_in_force f =
        let same : 0 + k ≡ k = omega arith in
        let next : k + 1 ≡ suc k = omega arith in
        listed_nth 0 k ns h.listed (omega (arith, h.many)) λ m u is d. f m u (rw next is) (rw same at d)

-- ---- which of them a name is

pub place-few : (ns : Names) (n : TableName) → place_of ns n ≤ length ns
place-few [] n = omega arith
place-few (naming m u ∷ ns) n = go (same_name m n) (place-few ns n)
  where
    go : (b : Bool) → place_of ns n ≤ length ns → cond b 0 (suc (place_of ns n)) ≤ suc (length ns)
    go true h = omega arith
    go false h = omega arith

-- it is the one that comes after k others, or it comes later
module _ (n m : TableName) (u : Ty) (ns rest : Names) (k : ℕ) (is : drop k ns ≡ naming m u ∷ rest) (past : place_of ns n ≡ k + place_of (drop k ns) n) where
  pub place_here : true ≡ same_name m n → k ≡ place_of ns n
  place_here e =
      let here : place_of (drop k ns) n ≡ 0 = ap (λ x. place_of x n) is ∙ rw (← e) in
      omega (arith, past, here)

  pub place-later : false ≡ same_name m n → place_of ns n ≡ (k + 1) + place_of rest n
  place-later e =
      let here : place_of (drop k ns) n ≡ suc (place_of rest n) = ap (λ x. place_of x n) is ∙ rw (← e) in
      omega (arith, past, here)

-- the type in force is that of the name there, or none
pub type_none : (ns : Names) (n : TableName) → place_of ns n ≡ length ns → type_in_force ns n ≡ none
type_none [] n e = refl
type_none (naming m u ∷ ns) n e = go (same_name m n) e (λ k. type_none ns n k)
  where
    go : (b : Bool) → cond b 0 (suc (place_of ns n)) ≡ suc (length ns) → (place_of ns n ≡ length ns → type_in_force ns n ≡ none) → cond b (some u) (type_in_force ns n) ≡ none
    go true e f = absurd (omega arith)
    go false e f = f (omega arith)

pub type-there : (ns : Names) (n : TableName) (k : ℕ) (m : TableName) (u : Ty) (rest : Names) → drop k ns ≡ naming m u ∷ rest → k ≡ place_of ns n → type_in_force ns n ≡ some u
type-there [] n k m u rest is e = let z : ◌≡◌ {A = ℕ} 0 1 = cc in absurd (omega arith)
type-there (naming v w ∷ ns) n k m u rest is e = go (same_name v n) k is e (λ j is' e'. type-there ns n j m u rest is' e')
  where
    go : (b : Bool) (k : ℕ) → drop k (naming v w ∷ ns) ≡ naming m u ∷ rest → k ≡ cond b 0 (suc (place_of ns n))
        → ((j : ℕ) → drop j ns ≡ naming m u ∷ rest → j ≡ place_of ns n → type_in_force ns n ≡ some u) → cond b (some w) (type_in_force ns n) ≡ some u
    go true zero is e f = let x : w ≡ u = cc in ap some x
    go true (suc j) is e f = absurd (omega arith)
    go false zero is e f = absurd (omega arith)
    go false (suc j) is e f = f j is (omega arith)

-- ---- a declaration

declared-more : (ns : Names) (n : TableName) (t : Ty) → place_of ns n ≡ length ns → length (declare ns n t) ≡ length ns + 1
declared-more ns n t e = omega (arith, declare-length ns n t, ap added (type_none ns n e))

-- a name that is among them has a type in force
type-some : (ns : Names) (n : TableName) → place_of ns n < length ns → added (type_in_force ns n) ≡ 0
type-some [] n e = absurd (omega arith)
type-some (naming m u ∷ ns) n e = go (same_name m n) e (λ k. type-some ns n k)
  where
    go : (b : Bool) → cond b 0 (suc (place_of ns n)) < suc (length ns) → (place_of ns n < length ns → added (type_in_force ns n) ≡ 0) → added (cond b (some u) (type_in_force ns n)) ≡ 0
    go true e f = refl
    go false e f = f (omega arith)

declared_same : (ns : Names) (n : TableName) (t : Ty) → place_of ns n < length ns → length (declare ns n t) ≡ length ns
declared_same ns n t e = omega (arith, declare-length ns n t, type-some ns n e)

module _ (s places bounds : List ℕ) (at end : ℕ) where
  -- names above the i-th stay where one of them is set
  listed_above : (i j : ℕ) (ns : Names) → i < j → ListedFrom s places bounds j ns → ListedFrom s (set places i at) (set bounds i end) j ns
  listed_above i j [] less h = tt
  listed_above i j (naming m u ∷ ns) less h =
      (rw (get_or-set_other places i j at 0 (λ e. omega arith), get_or-set_other bounds i j end 0 (λ e. omega arith)) h.0, listed_above i (suc j) ns (omega arith) h.1)

  listed-set : (n : TableName) (t : Ty) → Declares s at end n t → (i j : ℕ) (ns : Names) → j + place_of ns n ≡ i → i < length places → i < length bounds → ListedFrom s places bounds j ns
      → ListedFrom s (set places i at) (set bounds i end) j (declare ns n t)
  listed-set n t d i j [] is p q h =
      let same : j ≡ i = omega arith in
      (rw (same, get_or-set_same places i at 0 p, get_or-set_same bounds i end 0 q) d, tt)
  listed-set n t d i j (naming m u ∷ ns) is p q h = go (same_name m n) is (λ e. listed-set n t d i (suc j) ns e p q h.1)
    where
      go : (b : Bool) → j + cond b 0 (suc (place_of ns n)) ≡ i → (suc j + place_of ns n ≡ i → ListedFrom s (set places i at) (set bounds i end) (suc j) (declare ns n t))
          → ListedFrom s (set places i at) (set bounds i end) j (cond b (naming n t ∷ ns) (naming m u ∷ declare ns n t))
      go true e f =
          let same : j ≡ i = omega arith in
          (rw (same, get_or-set_same places i at 0 p, get_or-set_same bounds i end 0 q) d, listed_above i (suc j) ns (omega arith) h.1)
      go false e f =
          (rw (get_or-set_other places i j at 0 (λ x. omega arith), get_or-set_other bounds i j end 0 (λ x. omega arith)) h.0, f (omega arith))

  pub declared_in_force : (ns : Names) (n : TableName) (t : Ty) {count : ℕ} (k many : ℕ) → InForce s places bounds count ns → Declares s at end n t → k ≡ place_of ns n → k < max_names
      → length (declare ns n t) ≡ many → many ≤ max_names → InForce s (set places k at) (set bounds k end) many (declare ns n t)
  declared_in_force ns n t k many h d is low counted few = record {
    room = rw (length-set places k at) h.room;
    ended = rw (length-set bounds k end) h.ended;
    many = counted;
    few = few;
    listed = listed-set n t d k 0 ns (omega (arith, is)) (omega (arith, h.room)) (omega (arith, h.ended)) h.listed;
  }

-- ---- what was found

module _ (s places bounds : List ℕ) {count : ℕ} (ns : Names) (force : InForce s places bounds count ns) (k : ℕ) (less : k < count) where
  -- the name there stands inside the bytes
  pub found_inside : get_or places k 0 + 1 + get_or s (get_or places k 0) 0 ≤ length s
  found_inside = nth_in_force s places bounds ns force k less λ m u is d. omega (arith, name_inside s _ m d.name, name_length s _ m d.name)

  -- its type is the one in force
  pub found_is : (n : TableName) → k ≡ place_of ns n → LookedUpIs (Some (record { start = get_or places k 0 + 1 + get_or s (get_or places k 0) 0; end = get_or bounds k 0 })) s (type_in_force ns n)
  found_is n is =
      nth_in_force s places bounds ns force k less λ m u e d.
      let start : get_or places k 0 + 1 + get_or s (get_or places k 0) 0 ≡ past_name (get_or places k 0) m = omega (arith, name_length s (get_or places k 0) m d.name) in
      (u, type-there ns n k m u (drop (k + 1) ns) e is, rw start d.type)

-- ---- what a declaration leaves

module _ (s places bounds : List ℕ) {count : ℕ} (ns : Names) (force : InForce s places bounds count ns) (n : TableName) (t : Ty) (at end k : ℕ) (is : k ≡ place_of ns n) where
  pub no_room : k ≡ max_names → length (declare ns n t) ≡ max_names + 1
  no_room e = let last : place_of ns n ≡ length ns = omega (arith, place-few ns n, is, e, force.many, force.few) in omega (arith, declared-more ns n t last, last, is, e)

  module _ (d : Declares s at end n t) (room : k < max_names) where
    pub left_again : k < count → (count ≡ length (declare ns n t)) × (count ≤ max_names → InForce s (set places k at) (set bounds k end) count (declare ns n t))
    left_again less =
        let many : length (declare ns n t) ≡ count = declared_same ns n t (omega (arith, is, force.many)) ∙ force.many in
        (sym many, λ few. declared_in_force s places bounds at end ns n t k count force d is room many few)

    pub left_new : count ≤ k → (count + 1 ≡ length (declare ns n t)) × (count + 1 ≤ max_names → InForce s (set places k at) (set bounds k end) (count + 1) (declare ns n t))
    left_new past =
        let last : place_of ns n ≡ length ns = omega (arith, place-few ns n, is, force.many) in
        let many : length (declare ns n t) ≡ count + 1 = omega (arith, declared-more ns n t last, force.many) in
        (sym many, λ few. declared_in_force s places bounds at end ns n t k (count + 1) force d is room many few)
