-- The order of lists, shapes and names: one law for each way out of a function.
use Prim.Native.Nat.{ℕ, suc, ◌+◌, ◌≤◌, ◌<◌}
use native.Mathlib.Numerals.{add-one}
use mathlib.Core.Bool.{Bool, true, false, cond}
use lib.Dec.{eqb, ltb}
use Rattle.std.specs.Ordering.{nat_cmp, ordering_then}
use Rattle.std.specs.Cmp.Lexicographic.{slice_cmp}
use Rattle.std.specs.declared.cmp.Ordering.{Ordering}
use Rattle.std.specs.declared.cmp.Ordering.TheVariants.{Less, Equal, Greater}
use Rattle.shape.specs.Answers.{order_of}
use mathlib.Core.List.{List, [], ◌∷◌}
use mathlib.Core.Path.{◌≡◌, refl, sym, ◌∙◌, ap}
use lib.ListN.{length, drop, get_or}
use Rattle.model.specs.Types.{unknown}
use Rattle.format.specs.Records.{dim_of}
use Rattle.record.specs.Answers.{dims_of}
use Rattle.record.specs.declared.Dims.{Dims}
use Rattle.record.proofs.ByValue.{size-at}
use Rattle.rules.specs.Sizes.{Order, less, same, more, cmp_number, cmp_dim}
use Rattle.rules.specs.Order.{then_by, cmp_list}
use Rattle.rules.proofs.OrderSteps.{cmp_list-step, cmp_list-less, cmp_list-more, cmp_list-end}

-- ---- lists, index by index: the first i elements are the same

module _ {A : Type 0} (cmp : A → A → Order) (x y : List A) (z : A) where
  abbrev pub AlikeUpTo : ℕ → Type 0
  AlikeUpTo i = cmp_list cmp x y ≡ cmp_list cmp (drop i x) (drop i y)

  module _ (i : ℕ) (w : AlikeUpTo i) where
    pub walk-less : length x ≤ i → i < length y → cmp_list cmp x y ≡ less
    walk-less h k = w ∙ cmp_list-less cmp i x y z h k

    pub walk_more : i < length x → length y ≤ i → cmp_list cmp x y ≡ more
    walk_more h k = w ∙ cmp_list-more cmp i x y z h k

    pub walk_end : length x ≤ i → length y ≤ i → cmp_list cmp x y ≡ same
    walk_end h k = w ∙ cmp_list-end cmp i x y h k

    module _ (h : i < length x) (k : i < length y) {o : Order} (e : o ≡ cmp (get_or x i z) (get_or y i z)) where
      step : cmp_list cmp x y ≡ then_by o (cmp_list cmp (drop (suc i) x) (drop (suc i) y))
      step = w ∙ cmp_list-step cmp i x y z h k ∙ ap (λ u. then_by u (cmp_list cmp (drop (suc i) x) (drop (suc i) y))) (sym e)

      pub differs-less : o ≡ less → cmp_list cmp x y ≡ less
      differs-less f = step ∙ rw f

      pub differs_more : o ≡ more → cmp_list cmp x y ≡ more
      differs_more f = step ∙ rw f

      pub agrees : o ≡ same → AlikeUpTo (i + 1)
      agrees f = step ∙ rw (f, add-one)

-- ---- sizes by value

module _ (a b : Dims) where
  abbrev pub SizesAlike : ℕ → Type 0
  SizesAlike i = AlikeUpTo cmp_dim (dims_of a) (dims_of b) unknown i

  module _ (i : ℕ) (w : SizesAlike i) where
    pub sizes_less : length (dims_of a) ≤ i → i < length (dims_of b) → less ≡ cmp_list cmp_dim (dims_of a) (dims_of b)
    sizes_less h k = sym (walk-less cmp_dim (dims_of a) (dims_of b) unknown i w h k)

    pub sizes_more : i < length (dims_of a) → length (dims_of b) ≤ i → more ≡ cmp_list cmp_dim (dims_of a) (dims_of b)
    sizes_more h k = sym (walk_more cmp_dim (dims_of a) (dims_of b) unknown i w h k)

    pub sizes_end : length (dims_of a) ≤ i → length (dims_of b) ≤ i → same ≡ cmp_list cmp_dim (dims_of a) (dims_of b)
    sizes_end h k = sym (walk_end cmp_dim (dims_of a) (dims_of b) unknown i w h k)

    module _ (h : i < length (dims_of a)) (k : i < length (dims_of b)) (o : Ordering) (e : order_of o ≡ cmp_dim (dim_of (get_or a.sizes i 0)) (dim_of (get_or b.sizes i 0))) where
      there : order_of o ≡ cmp_dim (get_or (dims_of a) i unknown) (get_or (dims_of b) i unknown)
      there = e ∙ rw (size-at a i h, size-at b i k)

      pub size_differs : (o ≡ Equal → ⊥) → order_of o ≡ cmp_list cmp_dim (dims_of a) (dims_of b)
      size_differs apart = go o there apart
        where
          go : (o : Ordering) → order_of o ≡ cmp_dim (get_or (dims_of a) i unknown) (get_or (dims_of b) i unknown) → (o ≡ Equal → ⊥) → order_of o ≡ cmp_list cmp_dim (dims_of a) (dims_of b)
          go Less e apart = sym (differs-less cmp_dim (dims_of a) (dims_of b) unknown i w h k e refl)
          go Equal e apart = absurd (apart refl)
          go Greater e apart = sym (differs_more cmp_dim (dims_of a) (dims_of b) unknown i w h k e refl)

      pub size_same : o ≡ Equal → SizesAlike (i + 1)
      size_same f = agrees cmp_dim (dims_of a) (dims_of b) unknown i w h k there (ap order_of f)

pub ruleset walking = (sizes_less, sizes_more, sizes_end, size_differs, size_same)

-- ---- bytes

number_ordered : (m n : ℕ) → order_of (nat_cmp m n) ≡ cmp_number m n
number_ordered m n = go (ltb m n) (eqb m n)
  where
    go : (t u : Bool) → order_of (cond t Less (cond u Equal Greater)) ≡ cond t less (cond u same more)
    go true u = refl
    go false true = refl
    go false false = refl

then_ordered : (o p : Ordering) → order_of (ordering_then o p) ≡ then_by (order_of o) (order_of p)
then_ordered Less p = refl
then_ordered Equal p = refl
then_ordered Greater p = refl

bytes_by : (x y : List ℕ) → order_of (slice_cmp nat_cmp x y) ≡ cmp_list cmp_number x y
unfolding cmp_list
bytes_by [] [] = refl
bytes_by [] (n ∷ y) = refl
bytes_by (m ∷ x) [] = refl
bytes_by (m ∷ x) (n ∷ y) = then_ordered (nat_cmp m n) (slice_cmp nat_cmp x y) ∙ rw (number_ordered m n, bytes_by x y)

pub bytes_ordered : (x y : List ℕ) {o : Ordering} → o ≡ slice_cmp nat_cmp x y → order_of o ≡ cmp_list cmp_number x y
bytes_ordered x y e = ap order_of e ∙ bytes_by x y
