-- Facts about lists that the laws of several rules share: what stands at an index, and what holds of each element.
use Rattle.std.specs.Prelude.{ℕ, zero, suc, ◌+◌, ◌≤◌, ◌<◌, ◌≡◌, refl, length, take, get_or}
use Rattle.std.proofs.Common.{arith}
use mathlib.Core.List.{List, [], ◌∷◌, reverse, reverse_aux}
use Rattle.std.proofs.Math.Option.{none, some}
use Rattle.std.proofs.Math.ListN.{get_elem?}
use Rattle.model.specs.Within.{All}

-- ---- what stands at an index

pub get_elem?_in {ℓ} : {A : Type ℓ} (l : List A) (i : ℕ) (z : A) → i < length l → get_elem? l i ≡ some (get_or l i z)
get_elem?_in [] i z h = absurd (omega arith)
get_elem?_in (a ∷ l) zero z h = refl
get_elem?_in (a ∷ l) (suc i) z h = get_elem?_in l i z (omega arith)

pub get_elem?-out {ℓ} : {A : Type ℓ} (l : List A) (i : ℕ) → length l ≤ i → get_elem? l i ≡ none
get_elem?-out [] i h = refl
get_elem?-out (a ∷ l) zero h = absurd (omega arith)
get_elem?-out (a ∷ l) (suc i) h = get_elem?-out l i (omega arith)

-- from the end: in what is reversed onto r, r stands behind
after_reversed {ℓ} : {A : Type ℓ} (l r : List A) (i k : ℕ) (z : A) → length l + k ≡ i → get_or (reverse_aux l r) i z ≡ get_or r k z
after_reversed [] r i k z h = let e : k ≡ i = omega arith in rw e
after_reversed (a ∷ l) r i k z h = after_reversed l (a ∷ r) i (suc k) z (omega arith)

in_reversed {ℓ} : {A : Type ℓ} (l r : List A) (i j : ℕ) (z : A) → suc (i + j) ≡ length l → get_or (reverse_aux l r) i z ≡ get_or l j z
in_reversed [] r i j z h = absurd (omega arith)
in_reversed (a ∷ l) r i zero z h = after_reversed l (a ∷ r) i 0 z (omega arith)
in_reversed (a ∷ l) r i (suc j) z h = in_reversed l (a ∷ r) i j z (omega arith)

pub get_d_reverse {ℓ} : {A : Type ℓ} (l : List A) (i j : ℕ) (z : A) → suc (i + j) ≡ length l → get_or (reverse l) i z ≡ get_or l j z
get_d_reverse l i j z h = in_reversed l [] i j z h

-- ---- of each element

pub all_take {ℓ} : {A : Type ℓ} (P : A → Type 0) (n : ℕ) (l : List A) → All P l → All P (take n l)
all_take P zero l h = tt
all_take P (suc n) [] h = tt
all_take P (suc n) (a ∷ l) h = (h.0, all_take P n l h.1)

all_reversed {ℓ} : {A : Type ℓ} (P : A → Type 0) (l r : List A) → All P l → All P r → All P (reverse_aux l r)
all_reversed P [] r h k = k
all_reversed P (a ∷ l) r h k = all_reversed P l (a ∷ r) h.1 (h.0, k)

pub all-reverse {ℓ} : {A : Type ℓ} (P : A → Type 0) (l : List A) → All P l → All P (reverse l)
all-reverse P l h = all_reversed P l [] h tt
