-- Shapes by value: a rule of shapes by the counts of their sizes and by whether they are closed.
use Prim.Native.Nat.{ℕ, suc, ◌+◌, ◌≤◌, ◌<◌}
use native.Mathlib.Omega.{arith}
use mathlib.Core.Bool.{Bool, true, false, not, ◌&&◌, ◌||◌, cond}
use mathlib.Core.List.{List, [], ◌∷◌}
use mathlib.Core.Option.{Option, none, some}
use mathlib.Core.Path.{◌≡◌, refl, sym}
use lib.Dec.{eqb}
use lib.ListN.{length, drop, get_elem?}
use borrow.Author.Tests.{ne_eqb}
use Rattle.std.specs.Prelude as code
use Rattle.std.specs.Prelude.{Some, None, unwrap_or}
use Rattle.model.specs.Limits.{ones}
use Rattle.model.specs.Types.{Dim, shape}
use Rattle.format.specs.Records.{dim_of}
use Rattle.rules.specs.Shapes.{is_scalar, is_any, row_count, rank, row_shape, merge_dims, merge_closing, join_dims, join_ends, join_closing, join_shapes}
use Rattle.shape.specs.Answers.{spot_of}

-- ---- row count and rank

module _ (o : List Dim) (closed : Bool) (l : List Dim) where
  pub rows_closed : (r : code.Option ℕ) → spot_of r ≡ get_elem? o 0 → closed ≡ true → dim_of (unwrap_or r 1) ≡ row_count (shape o (cond closed none (some l)))
  unfolding row_count
  rows_closed r e h = rw h (go o r e)
    where
      go : (o : List Dim) (r : code.Option ℕ) → spot_of r ≡ get_elem? o 0 → dim_of (unwrap_or r 1) ≡ row_count (shape o none)
      go [] None e = refl
      go [] (Some n) e = cc
      go (x ∷ o) None e = cc
      go (x ∷ o) (Some n) e = cc

  pub rows_open : (r : code.Option ℕ) → spot_of r ≡ get_elem? o 0 → closed ≡ false → dim_of (unwrap_or r ones) ≡ row_count (shape o (cond closed none (some l)))
  unfolding row_count
  rows_open r e h = rw h (go o r e)
    where
      go : (o : List Dim) (r : code.Option ℕ) → spot_of r ≡ get_elem? o 0 → dim_of (unwrap_or r ones) ≡ row_count (shape o (some l))
      go [] None e = refl
      go [] (Some n) e = cc
      go (x ∷ o) None e = cc
      go (x ∷ o) (Some n) e = cc

  pub rank_by_counts : rank (shape o (cond closed none (some l))) ≡ length o + cond closed 0 (length l)
  unfolding rank
  rank_by_counts = go closed
    where
      go : (t : Bool) → rank (shape o (cond t none (some l))) ≡ length o + cond t 0 (length l)
      go true = refl
      go false = refl

-- ---- [..] and []

pub any_by_counts : (o : List Dim) (closed : Bool) (l : List Dim) → is_any (shape o (cond closed none (some l))) ≡ eqb (length o) 0 && not closed && eqb (length l) 0
unfolding is_any
any_by_counts [] true l = refl
any_by_counts [] false [] = refl
any_by_counts [] false (x ∷ l) = sym (ne_eqb (suc (length l)) 0 (λ z. omega arith))
any_by_counts (d ∷ o) closed l = rw (ne_eqb (suc (length o)) 0 (λ z. omega arith))

pub scalar_by_count : (o : List Dim) (closed : Bool) (l : List Dim) → is_scalar (shape o (cond closed none (some l))) ≡ eqb (length o) 0 && closed
unfolding is_scalar
scalar_by_count [] true l = refl
scalar_by_count [] false l = refl
scalar_by_count (d ∷ o) closed l = rw (ne_eqb (suc (length o)) 0 (λ z. omega arith))

-- ---- row

pub row_opening : (o : List Dim) (c : Option (List Dim)) → 0 < length o → shape (drop 1 o) c ≡ row_shape (shape o c)
unfolding row_shape
row_opening [] c h = absurd (omega arith)
row_opening (d ∷ o) c h = refl

pub row_closing : (o : List Dim) (closed : Bool) (l : List Dim) → length o ≤ 0 → shape o (cond closed none (some (drop 1 l))) ≡ row_shape (shape o (cond closed none (some l)))
unfolding row_shape
row_closing [] true l h = refl
row_closing [] false [] h = refl
row_closing [] false (x ∷ l) h = refl
row_closing (d ∷ o) closed l h = absurd (omega arith)

pub ruleset rows = (row_opening, row_closing)

-- ---- merge and join

module _ (closed : Bool) (l : List Dim) where
  pub merge_closed : (d : Option (List Dim)) → closed ≡ true → merge_closing (cond closed none (some l)) d ≡ d
  unfolding merge_closing
  merge_closed d e = rw e

  module _ (other : Bool) (m : List Dim) (e : closed ≡ false) where
    pub merge_unnamed : other ≡ true → merge_closing (cond closed none (some l)) (cond other none (some m)) ≡ cond (eqb (length l) 0) none (some l)
    unfolding merge_closing
    merge_unnamed h = rw (e, h) (go l)
      where
        go : (l : List Dim) → merge_closing (some l) none ≡ cond (eqb (length l) 0) none (some l)
        go [] = refl
        go (x ∷ l) = rw (ne_eqb (suc (length l)) 0 (λ z. omega arith))

    pub merge_named : other ≡ false → merge_closing (cond closed none (some l)) (cond other none (some m)) ≡ some (merge_dims l m)
    unfolding merge_closing
    merge_named h = rw (e, h)

pub ruleset merging = (merge_closed, merge_unnamed, merge_named)

pub join_by_parts : (o p : List Dim) (closed other : Bool) (l m : List Dim)
    → join_shapes (shape o (cond closed none (some l))) (shape p (cond other none (some m))) ≡ shape (join_dims o p) (cond (closed || other) none (some (join_ends l m)))
unfolding join_shapes join_closing
join_by_parts o p true other l m = refl
join_by_parts o p false true l m = refl
join_by_parts o p false false l m = refl
