-- Shape records that are passed over.
use Prim.Native.Nat.{ℕ, zero, suc, ◌+◌, ◌-◌, ◌<◌}
use native.Mathlib.Omega.{arith}
use native.Mathlib.Nat.{zero-add, suc-add}
use mathlib.Core.List.{List, [], ◌∷◌}
use mathlib.Core.Path.{◌≡◌, refl, sym, ◌∙◌, ap}
use Rattle.model.specs.Limits.{max_sizes}
use Rattle.model.specs.Types.{Dim, Shape, shape}
use Rattle.format.specs.Reader.{Read, got, stopped, and_then, map_read, give, judged}
use Rattle.format.specs.Records.{shape_mark, dim_number, is_count, is_optional, list_count, optional, read_mark, read_dim, read_dims, shape_from, read_shape}
use Rattle.record.specs.Answers.{nothing}

-- ---- sizes that are passed over: by the first of some, and where none is left

rest-of_sizes : (d : Dim) (r : Read (List Dim)) → map_read nothing (and_then r (λ ds. give (d ∷ ds))) ≡ map_read nothing r
rest-of_sizes d (got ds n) = refl
rest-of_sizes d (stopped k q) = refl

module _ (s : List ℕ) (k p at : ℕ) where
  pub sizes_step : 0 < k → map_read nothing (read_dims s k p at) ≡ and_then (map_read dim_number (read_dim s p at)) (λ _ n. map_read nothing (read_dims s (k - 1) p n))
  unfolding read_dims
  sizes_step h = go k h
    where
      first : (k : ℕ) (r : Read Dim) → map_read nothing (and_then r (λ d m. and_then (read_dims s k p m) (λ ds. give (d ∷ ds)))) ≡ and_then (map_read dim_number r) (λ _ m. map_read nothing (read_dims s k p m))
      first k (got d m) = rest-of_sizes d (read_dims s k p m)
      first k (stopped j q) = refl

      go : (k : ℕ) → 0 < k → map_read nothing (read_dims s k p at) ≡ and_then (map_read dim_number (read_dim s p at)) (λ _ n. map_read nothing (read_dims s (k - 1) p n))
      go zero h = absurd (omega arith)
      go (suc k) h = let x : suc k - 1 ≡ k = omega arith in rw x (first k (read_dim s p at))

  pub sizes_end : k ≡ 0 → map_read nothing (read_dims s k p at) ≡ got 0 at
  unfolding read_dims
  sizes_end e = rw e

-- ---- one list after another is passed over as one

module _ (s : List ℕ) (p : ℕ) where
  then_give : (f : List Dim → Shape) (r : Read (List Dim)) → map_read nothing (and_then r (λ c. give (f c))) ≡ map_read nothing r
  then_give f (got c n) = refl
  then_give f (stopped j q) = refl

  -- as many sizes after those that were read, and f of both
  abbrev and_sizes : ℕ → (List Dim → List Dim → Shape) → Read (List Dim) → Read Shape
  and_sizes k f r = and_then r (λ o n. and_then (read_dims s k p n) (λ c. give (f o c)))

  -- one size, and as many after it
  abbrev and_more : ℕ → Read Dim → Read (List Dim)
  and_more m r = and_then r (λ d n. and_then (read_dims s m p n) (λ ds. give (d ∷ ds)))

  sizes-both : (k m at : ℕ) (f : List Dim → List Dim → Shape) → map_read nothing (and_sizes k f (read_dims s m p at)) ≡ map_read nothing (read_dims s (m + k) p at)
  unfolding read_dims
  sizes-both k zero at f = rw zero-add (then_give (f []) (read_dims s k p at))
  sizes-both k (suc m) at f = rw suc-add (go (read_dim s p at) (λ n g. sizes-both k m n g))
    where
      regroup : (d : Dim) (r : Read (List Dim)) → and_sizes k f (and_then r (λ ds. give (d ∷ ds))) ≡ and_sizes k (λ o c. f (d ∷ o) c) r
      regroup d (got ds n) = refl
      regroup d (stopped j q) = refl

      go :
          (r : Read Dim) →
          ((n : ℕ) (g : List Dim → List Dim → Shape) → map_read nothing (and_sizes k g (read_dims s m p n)) ≡ map_read nothing (read_dims s (m + k) p n)) →
          map_read nothing (and_sizes k f (and_more m r)) ≡ map_read nothing (and_more (m + k) r)
      go (got d n) below = ap (map_read nothing) (regroup d (read_dims s m p n)) ∙ below n (λ o c. f (d ∷ o) c) ∙ sym (rest-of_sizes d (read_dims s (m + k) p n))
      go (stopped j q) below = refl

-- ---- a whole record: what follows its mark and its counts is one list of sizes

module _ (s : List ℕ) (at : ℕ) where
  -- what follows the count of opening sizes, read and passed over
  abbrev closing : ℕ → Read ℕ → Read Shape
  closing m r = and_then r (λ n c. and_then (read_dims s m at c) (λ o d. and_then (read_dims s (list_count n) at d) (λ e. give (shape o (optional n e)))))

  abbrev past_closing : ℕ → Read ℕ → Read ℕ
  past_closing m r = and_then r (λ n c. map_read nothing (read_dims s (m + list_count n) at c))

  closing_passed : (m : ℕ) (r : Read ℕ) → map_read nothing (closing m r) ≡ past_closing m r
  closing_passed m (got n c) = sizes-both s at (list_count n) m c (λ o ds. shape o (optional n ds))
  closing_passed m (stopped k q) = refl

  -- what follows the mark
  abbrev opening : Read ℕ → Read Shape
  opening r = and_then r (λ m b. closing m (judged s (is_optional max_sizes) at b))

  abbrev past_opening : Read ℕ → Read ℕ
  past_opening r = and_then r (λ m b. past_closing m (judged s (is_optional max_sizes) at b))

  opening_passed : (r : Read ℕ) → map_read nothing (opening r) ≡ past_opening r
  opening_passed (got m b) = closing_passed m (judged s (is_optional max_sizes) at b)
  opening_passed (stopped k q) = refl

  pub shape_passed : map_read nothing (read_shape s at) ≡ and_then (read_mark s shape_mark at at) (λ _ a. past_opening (judged s (is_count max_sizes) at a))
  unfolding shape_from
  shape_passed = go (read_mark s shape_mark at at)
    where
      go : (r : Read (Unit {0})) → map_read nothing (and_then r (λ _ a. opening (judged s (is_count max_sizes) at a))) ≡ and_then r (λ _ a. past_opening (judged s (is_count max_sizes) at a))
      go (got u a) = opening_passed (judged s (is_count max_sizes) at a)
      go (stopped k q) = refl
