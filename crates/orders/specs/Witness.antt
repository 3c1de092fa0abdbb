-- Real shapes for the puts that ask for nothing but what the puts ask for: each ? becomes 1, and the closing sizes of each put
-- stand at places of their own past every opening size, with ones between.
use Rattle.std.specs.Prelude.{ℕ, zero, suc, ◌+◌, ◌-◌, ◌≤◌, ◌<◌, max, Bool, true, false, List, [], ◌∷◌, ◌++◌, map, ◌≡◌, refl, length, replicate, ltb}
use Rattle.std.proofs.Common.{arith, append-nil, sym, ◌∙◌, length-append, ltb-true, ltb-false}
use Rattle.std.proofs.Math.Option.{Option, none, some}
use Rattle.std.proofs.Math.ListN.{get_elem?}
use Rattle.std.proofs.lemmas.List.{length-map, length-replicate}
use Rattle.model.specs.Types.{Dim, static, unknown, Shape, shape, Ty, shape_of}
use Rattle.machine.specs.Steps.{Step, a_join, is_a, put_by}
use Rattle.machine.specs.Real.{RealShape, fits, the_top, FeedOf, Feeds, FitsFeed, FitsPuts}
use Rattle.holding.specs.Fitting.{FitAll, Follows, Fits, of-fits}
use Rattle.orders.specs.Cells.{unnamed, differ, named_in, cell_of, join_named-comm, real_sure}
use Rattle.orders.specs.Play.{laid_down}
use Rattle.orders.specs.PlaySteps.{move_of, moves, feed_move, feed_moves}
use Rattle.orders.specs.Asked.{opening_of, named_at, asked, real_at, real_asked}

-- ---- the real shapes

abbrev size_for : Dim → ℕ
size_for unknown = 1
size_for (static m) = m

abbrev sizes_for : List Dim → RealShape
sizes_for o = map size_for o

-- for one shape, its closing sizes from index b on; and the first index past them
abbrev real_for : Shape → ℕ → RealShape
real_for (shape o none) b = sizes_for o
real_for (shape o (some c)) b = sizes_for o ++ (replicate (b - length o) 1 ++ sizes_for c)

abbrev next_for : Shape → ℕ → ℕ
next_for (shape o none) b = b
next_for (shape o (some c)) b = b + length c

abbrev reals_for : List Shape → ℕ → List RealShape
reals_for [] b = []
reals_for (s ∷ l) b = real_for s b ∷ reals_for l (next_for s b)

abbrev feed_for : (o : Option Ty) (b : Bool) → ℕ → FeedOf o b
feed_for (some t) b n = real_for (shape_of t) n
feed_for none true n = the_top
feed_for none false n = tt

abbrev next_of : Option Ty → ℕ → ℕ
next_of none n = n
next_of (some t) n = next_for (shape_of t) n

abbrev pub witness : (xs : List Step) → ℕ → Feeds xs
witness [] b = tt
witness (x ∷ xs) b = (feed_for (put_by x) (is_a a_join x) b, witness xs (next_of (put_by x) b))

laid-witness : (xs : List Step) (b : ℕ) → laid_down (feed_moves xs (witness xs b)) ≡ reals_for (laid_down (moves xs)) b
laid-witness [] b = refl
laid-witness (x ∷ xs) b = go (put_by x) (is_a a_join x) (laid-witness xs (next_of (put_by x) b))
  where
    go : (o : Option Ty) (j : Bool) → laid_down (feed_moves xs (witness xs (next_of o b))) ≡ reals_for (laid_down (moves xs)) (next_of o b)
        → laid_down (feed_move o j (feed_for o j b) ∷ feed_moves xs (witness xs (next_of o b))) ≡ reals_for (laid_down (move_of o ∷ moves xs)) b
    go none j e = e
    go (some t) j e = rw e

-- ---- they fit

fit_all_sizes : (c : List Dim) → FitAll c (sizes_for c)
fit_all_sizes [] = tt
fit_all_sizes (unknown ∷ c) = (tt, fit_all_sizes c)
fit_all_sizes (static m ∷ c) = (refl, fit_all_sizes c)

fits-sizes : (o : List Dim) (c : Option (List Dim)) (r : RealShape) → Follows c r → Fits o c (sizes_for o ++ r)
fits-sizes [] c r h = h
fits-sizes (unknown ∷ o) c r h = (tt, fits-sizes o c r h)
fits-sizes (static m ∷ o) c r h = (refl, fits-sizes o c r h)

fits_real : (s : Shape) (b : ℕ) → fits s (real_for s b) ≡ true
fits_real (shape o none) b = of-fits o none (sizes_for o) (rw append-nil at (fits-sizes o none [] refl))
fits_real (shape o (some c)) b = of-fits o (some c) _ (fits-sizes o (some c) _ (replicate (b - length o) 1, sizes_for c, refl, fit_all_sizes c))

pub fits-witness : (xs : List Step) (b : ℕ) → FitsPuts xs (witness xs b)
fits-witness [] b = tt
fits-witness (x ∷ xs) b = (go (put_by x) (is_a a_join x), fits-witness xs (next_of (put_by x) b))
  where
    go : (o : Option Ty) (j : Bool) → FitsFeed o j (feed_for o j b)
    go none j = tt
    go (some t) j = fits_real (shape_of t) b

-- ---- below index b a real shape asks for what its shape asks for

sizes-at : (o : List Dim) (i : ℕ) → real_at i (sizes_for o) ≡ named_in (cell_of (get_elem? o i))
sizes-at [] i = refl
sizes-at (unknown ∷ o) zero = refl
sizes-at (static m ∷ o) zero = refl
sizes-at (d ∷ o) (suc i) = sizes-at o i

ones-at : (n i : ℕ) (c : List Dim) → i < n → real_at i (replicate n 1 ++ sizes_for c) ≡ unnamed
ones-at zero i c h = absurd (omega arith)
ones-at (suc n) zero c h = refl
ones-at (suc n) (suc i) c h = ones-at n i c (omega arith)

before-closing : (o c : List Dim) (k i : ℕ) → i < length o + k → real_at i (sizes_for o ++ (replicate k 1 ++ sizes_for c)) ≡ named_in (cell_of (get_elem? o i))
before-closing [] c k i h = ones-at k i c (omega arith)
before-closing (unknown ∷ o) c k zero h = refl
before-closing (static m ∷ o) c k zero h = refl
before-closing (d ∷ o) c k (suc i) h = before-closing o c k i (omega arith)

low : (s : Shape) (b i : ℕ) → length (opening_of s) ≤ b → i < b → real_at i (real_for s b) ≡ named_at i s
low (shape o none) b i h k = sizes-at o i
low (shape o (some c)) b i h k = before-closing o c (b - length o) i (omega arith)

-- ---- past its closing sizes it asks for nothing

past_end : (r : RealShape) (i : ℕ) → length r ≤ i → real_at i r ≡ unnamed
past_end [] i h = refl
past_end (n ∷ r) zero h = absurd (omega arith)
past_end (n ∷ r) (suc i) h = past_end r i (omega arith)

length_real : (s : Shape) (b : ℕ) → length (opening_of s) ≤ b → length (real_for s b) ≤ next_for s b
length_real (shape o none) b h = simp length-map h
length_real (shape o (some c)) b h = simp (length-append, length-map, length-replicate) (omega arith)

next_up : (s : Shape) (b : ℕ) → b ≤ next_for s b
next_up (shape o none) b = omega arith
next_up (shape o (some c)) b = omega arith

-- ---- all of them

abbrev pub longest : List Shape → ℕ
longest [] = 0
longest (s ∷ l) = max (length (opening_of s)) (longest l)

all-low : (l : List Shape) (b i : ℕ) → longest l ≤ b → i < b → real_asked i (reals_for l b) ≡ asked i l
all-low [] b i h k = refl
all-low (s ∷ l) b i h k = rw (low s b i (omega arith) k, all-low l (next_for s b) i (omega (arith, next_up s b)) (omega (arith, next_up s b)))

none-at : (o : List Dim) (i : ℕ) → length o ≤ i → named_in (cell_of (get_elem? o i)) ≡ unnamed
none-at [] i h = refl
none-at (d ∷ o) zero h = absurd (omega arith)
none-at (d ∷ o) (suc i) h = none-at o i (omega arith)

all_none : (l : List Shape) (i : ℕ) → longest l ≤ i → asked i l ≡ unnamed
all_none [] i h = refl
all_none (s ∷ l) i h = rw (none-at (opening_of s) i (omega arith), all_none l i (omega arith))

all-high : (l : List Shape) (b i : ℕ) → longest l ≤ b → b ≤ i → real_asked i (reals_for l b) ≡ differ → ⊥
all-high [] b i h k e = let z : ◌≡◌ {A = ℕ} 0 1 = cc in omega arith
all-high (s ∷ l) b i h k e = go (ltb i (next_for s b)) refl (λ j. all-high l (next_for s b) i (omega (arith, next_up s b)) j)
  where
    go : (t : Bool) → ltb i (next_for s b) ≡ t → (next_for s b ≤ i → real_asked i (reals_for l (next_for s b)) ≡ differ → ⊥) → ⊥
    go true j p =
        let w : real_asked i (reals_for l (next_for s b)) ≡ unnamed = all-low l (next_for s b) i (omega (arith, next_up s b)) (ltb-true i (next_for s b) j) ∙ all_none l i (omega arith) in
        real_sure (get_elem? (real_for s b) i) (sym (join_named-comm (real_at i (real_for s b)) unnamed) ∙ (rw w at e))
    go false j p =
        let w : real_at i (real_for s b) ≡ unnamed = past_end (real_for s b) i (omega (arith, length_real s b (omega arith), ltb-false i (next_for s b) j)) in
        p (ltb-false i (next_for s b) j) (rw w at e)

-- Where the puts ask for different sizes nowhere, neither do these real shapes.
pub witness-agrees : (xs : List Step) → ((i : ℕ) → asked i (laid_down (moves xs)) ≡ differ → ⊥) → (i : ℕ)
    → real_asked i (laid_down (feed_moves xs (witness xs (longest (laid_down (moves xs)))))) ≡ differ → ⊥
witness-agrees xs sure i e = go (ltb i (longest (laid_down (moves xs)))) refl (rw (laid-witness xs (longest (laid_down (moves xs)))) at e)
  where
    go : (t : Bool) → ltb i (longest (laid_down (moves xs))) ≡ t → real_asked i (reals_for (laid_down (moves xs)) (longest (laid_down (moves xs)))) ≡ differ → ⊥
    go true j e = sure i (sym (all-low (laid_down (moves xs)) (longest (laid_down (moves xs))) i (omega arith) (ltb-true i (longest (laid_down (moves xs))) j)) ∙ e)
    go false j e = all-high (laid_down (moves xs)) (longest (laid_down (moves xs))) i (omega arith) (ltb-false i (longest (laid_down (moves xs))) j) e
