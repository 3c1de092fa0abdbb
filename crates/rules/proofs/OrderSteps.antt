-- What a loop over the indices needs of the order of two lists: one index, then the indices after it; and where a list ends.
use Rattle.std.specs.Prelude.{ℕ, suc, ◌≤◌, ◌<◌, List, ◌≡◌, length, drop, get_or}
use Rattle.std.proofs.Math.ListN.{drop_of_length-le}
use Rattle.std.proofs.Math.Seq.{drop-cons}
use Rattle.rules.specs.Sizes.{Order, less, same, more}
use Rattle.rules.specs.Order.{then_by, cmp_list}

module _ {ℓ} {A : Type ℓ} (cmp : A → A → Order) where
  pub cmp_list-step : (i : ℕ) (x y : List A) (z : A) → i < length x → i < length y → cmp_list cmp (drop i x) (drop i y) ≡ then_by (cmp (get_or x i z) (get_or y i z)) (cmp_list cmp (drop (suc i) x) (drop (suc i) y))
  unfolding cmp_list
  cmp_list-step i x y z h k = rw (drop-cons x i z h, drop-cons y i z k)

  pub cmp_list-less : (i : ℕ) (x y : List A) (z : A) → length x ≤ i → i < length y → cmp_list cmp (drop i x) (drop i y) ≡ less
  unfolding cmp_list
  cmp_list-less i x y z h k = rw (drop_of_length-le x {i = i} h, drop-cons y i z k)

  pub cmp_list-more : (i : ℕ) (x y : List A) (z : A) → i < length x → length y ≤ i → cmp_list cmp (drop i x) (drop i y) ≡ more
  unfolding cmp_list
  cmp_list-more i x y z h k = rw (drop_of_length-le y {i = i} k, drop-cons x i z h)

  pub cmp_list-end : (i : ℕ) (x y : List A) → length x ≤ i → length y ≤ i → cmp_list cmp (drop i x) (drop i y) ≡ same
  unfolding cmp_list
  cmp_list-end i x y h k = rw (drop_of_length-le x {i = i} h, drop_of_length-le y {i = i} k)
