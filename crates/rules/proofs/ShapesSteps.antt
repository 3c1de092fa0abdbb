-- What a loop over the indices needs of the list rules of shapes: one index, then the indices after it (`..-step`), the same
-- seen as the result's element (`..-at`), and what is left of a result after some indices (`..-drop`).
use Rattle.std.specs.Prelude.{ℕ, zero, suc, ◌-◌, ◌<◌, max, Bool, true, false, cond, List, [], ◌∷◌, reverse, ◌≡◌, refl, length, drop, get_or, leb}
use Rattle.std.proofs.Common.{arith, sym, get_or-take, leb-true, leb-false, le-leb}
use Rattle.std.proofs.Math.ListN.{get_elem?, get_or-eq_default}
use Rattle.std.proofs.lemmas.List.{length-reverse}
use Rattle.std.proofs.Math.Seq.{drop-nil}
use Rattle.model.specs.Types.{Dim, unknown}
use Rattle.rules.specs.Sizes.{join_dim}
use Rattle.rules.specs.Shapes.{merge_dims, join_dims, join_longer, join_ends}
use Rattle.rules.proofs.SizesLaws.{join_dim-unknown}
use Rattle.rules.proofs.Lists.{get_d_reverse}
use Rattle.rules.specs.ShapesSteps.{merge_at, from_end}

-- ---- merge

pub merge_step : (i : ℕ) (o p : List Dim) → i < max (length o) (length p) → merge_dims (drop i o) (drop i p) ≡ merge_at (get_elem? o i) (get_elem? p i) ∷ merge_dims (drop (suc i) o) (drop (suc i) p)
unfolding merge_dims
merge_step i [] [] h = absurd (omega arith)
merge_step zero [] (e ∷ p) h = refl
merge_step zero (d ∷ []) [] h = refl
merge_step zero (d ∷ f ∷ o) [] h = refl
merge_step zero (d ∷ o) (e ∷ p) h = refl
merge_step (suc i) [] (e ∷ p) h = rw (drop-nil {A = Dim} i) at (merge_step i [] p (omega arith))
merge_step (suc i) (d ∷ o) [] h = rw (drop-nil {A = Dim} i) at (merge_step i o [] (omega arith))
merge_step (suc i) (d ∷ o) (e ∷ p) h = merge_step i o p (omega arith)

merge_nil : (o : List Dim) → merge_dims o [] ≡ o
unfolding merge_dims
merge_nil [] = refl
merge_nil (d ∷ o) = refl

pub merge_drop : (i : ℕ) (o p : List Dim) → drop i (merge_dims o p) ≡ merge_dims (drop i o) (drop i p)
unfolding merge_dims
merge_drop i [] p = rw (drop-nil {A = Dim} i)
merge_drop zero (d ∷ o) [] = refl
merge_drop (suc i) (d ∷ o) [] = sym (merge_nil (drop i o))
merge_drop zero (d ∷ o) (e ∷ p) = refl
merge_drop (suc i) (d ∷ o) (e ∷ p) = merge_drop i o p

pub merge-at : (i : ℕ) (o p : List Dim) (z : Dim) → i < max (length o) (length p) → get_or (merge_dims o p) i z ≡ merge_at (get_elem? o i) (get_elem? p i)
unfolding merge_dims
merge-at i [] [] z h = absurd (omega arith)
merge-at zero [] (e ∷ p) z h = refl
merge-at zero (d ∷ o) [] z h = refl
merge-at zero (d ∷ o) (e ∷ p) z h = refl
merge-at (suc i) [] (e ∷ p) z h = merge-at i [] p z (omega arith)
merge-at (suc i) (d ∷ o) [] z h = rw (merge_nil o) at (merge-at i o [] z (omega arith))
merge-at (suc i) (d ∷ o) (e ∷ p) z h = merge-at i o p z (omega arith)

-- ---- join, opening sizes

pub join_step : (i : ℕ) (o p : List Dim) (z : Dim) → i < length o → i < length p → join_dims (drop i o) (drop i p) ≡ join_dim (get_or o i z) (get_or p i z) ∷ join_dims (drop (suc i) o) (drop (suc i) p)
unfolding join_dims
join_step i [] p z h k = absurd (omega arith)
join_step i (d ∷ o) [] z h k = absurd (omega arith)
join_step zero (d ∷ o) (e ∷ p) z h k = refl
join_step (suc i) (d ∷ o) (e ∷ p) z h k = join_step i o p z (omega arith) (omega arith)

join_nil : (o : List Dim) → join_dims o [] ≡ []
unfolding join_dims
join_nil [] = refl
join_nil (d ∷ o) = refl

pub join-drop : (i : ℕ) (o p : List Dim) → drop i (join_dims o p) ≡ join_dims (drop i o) (drop i p)
unfolding join_dims
join-drop zero o p = refl
join-drop (suc i) [] p = refl
join-drop (suc i) (d ∷ o) [] = sym (join_nil (drop i o))
join-drop (suc i) (d ∷ o) (e ∷ p) = join-drop i o p

pub join-at : (i : ℕ) (o p : List Dim) (z : Dim) → i < length o → i < length p → get_or (join_dims o p) i z ≡ join_dim (get_or o i z) (get_or p i z)
unfolding join_dims
join-at i [] p z h k = absurd (omega arith)
join-at i (d ∷ o) [] z h k = absurd (omega arith)
join-at zero (d ∷ o) (e ∷ p) z h k = refl
join-at (suc i) (d ∷ o) (e ∷ p) z h k = join-at i o p z (omega arith) (omega arith)

-- ---- join, closing sizes

pub join_longer-at : (i : ℕ) (o p : List Dim) → get_or (join_longer o p) i unknown ≡ join_dim (get_or o i unknown) (get_or p i unknown)
unfolding join_longer
join_longer-at i [] [] = sym (join_dim-unknown unknown)
join_longer-at zero [] (e ∷ p) = refl
join_longer-at (suc i) [] (e ∷ p) = join_longer-at i [] p
join_longer-at zero (d ∷ o) [] = refl
join_longer-at (suc i) (d ∷ o) [] = join_longer-at i o []
join_longer-at zero (d ∷ o) (e ∷ p) = refl
join_longer-at (suc i) (d ∷ o) (e ∷ p) = join_longer-at i o p

from_end-zero : (c : List Dim) → from_end 0 c ≡ unknown
from_end-zero c = rw (le-leb 0 (length c) (omega arith)) (get_or-eq_default c unknown (omega arith))

reversed_at : (i : ℕ) (c : List Dim) → get_or (reverse c) i unknown ≡ from_end (suc i) c
reversed_at i c = go (leb (suc i) (length c)) refl
  where
    go : (t : Bool) → leb (suc i) (length c) ≡ t → get_or (reverse c) i unknown ≡ cond t (get_or c (length c - suc i) unknown) unknown
    go true h = let l = leb-true (suc i) (length c) h in get_d_reverse c i (length c - suc i) unknown (omega arith)
    go false h = let l = leb-false (suc i) (length c) h in get_or-eq_default (reverse c) unknown (omega (arith, length-reverse c))

pub join_ends-at : (i : ℕ) (c d : List Dim) → i < max (length c) (length d) → get_or (join_ends c d) i unknown ≡ join_dim (from_end i c) (from_end i d)
unfolding join_ends
join_ends-at zero c d h = rw (get_or-take (max (length c) (length d)) (unknown ∷ join_longer (reverse c) (reverse d)) 0 unknown h, from_end-zero c, from_end-zero d) (sym (join_dim-unknown unknown))
join_ends-at (suc i) c d h = rw (get_or-take (max (length c) (length d)) (unknown ∷ join_longer (reverse c) (reverse d)) (suc i) unknown h, join_longer-at i (reverse c) (reverse d), reversed_at i c, reversed_at i d)
