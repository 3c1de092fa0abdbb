-- The walk over a list of numbers that puts down the size of each: the sizes so far stand in an array, of which the walk fills one place
-- after the other. Assumes nothing.
use mathlib.Core.Path.{◌≡◌, refl, ap, sym, ◌∙◌}
use mathlib.Core.Bool.{Bool, true, false, cond}
use mathlib.Core.List.{List, [], ◌∷◌, ◌++◌, append_assoc, append-nil}
use Prim.Native.Nat.{ℕ, suc, ◌+◌, ◌≤◌, ◌<◌}
use native.Mathlib.Numerals.{add-one}
use borrow.Author.Tests.{eqb-true}
use lib.Dec.{eqb}
use lib.ListN.{length, take, drop, get_or, set, length-set, drop_of_length-le}
use lib.Seq.{take-suc-set, drop-cons}
use lib.Ieee.{Float, nan}
use Rattle.std.specs.Prelude.{Ok, Err}
use Rattle.model.specs.Limits.{max_sizes, ones}
use Rattle.limits.specs.Answers.{number_of}
use Rattle.limits.specs.declared.refusal.Reason.{Reason}
use Rattle.number.specs.Size.{size, unknown, listed_dim}
use Rattle.number.specs.Sizes.{SizesOutcome, sizes, refused_at, before, at_index, sizes_from}
use Rattle.number.specs.Answers.{size_outcome}

-- sizes that stand before what a walk gives
abbrev behind : List ℕ → SizesOutcome → SizesOutcome
behind ns (sizes ms) = sizes (ns ++ ms)
behind ns (refused_at k p) = refused_at k p

behind-one : (ns : List ℕ) (n : ℕ) (o : SizesOutcome) → behind ns (before n o) ≡ behind (ns ++ (n ∷ [])) o
behind-one ns n (sizes ms) = ap sizes (sym (append_assoc ns (n ∷ []) ms))
behind-one ns n (refused_at k p) = refl

-- a size that was put down as a number, ? among them
at_size : (i n : ℕ) (o : SizesOutcome) → at_index i (size_outcome (Ok n)) o ≡ before n o
at_size i n o = by-test (eqb n ones) refl
  where
    by-test : (t : Bool) → eqb n ones ≡ t → at_index i (cond t unknown (size n)) o ≡ before n o
    by-test true e = ap (λ (k : ℕ). before k o) (sym (eqb-true n ones e))
    by-test false e = refl

-- ---- the walk over xs at the index i, with the array d

-- the array keeps its length
pub room_after : (d : List ℕ) (i n : ℕ) → length d ≡ max_sizes → length (set d i n) ≡ max_sizes
room_after d i n l = length-set d i n ∙ l

module _ (xs : List Float) where
  abbrev pub Walked : List ℕ → ℕ → Type 0
  Walked d i = sizes_from 0 xs ≡ behind (take i d) (sizes_from i (drop i xs))

  module _ (d : List ℕ) (i : ℕ) (w : Walked d i) where
    next : i < length xs → sizes_from i (drop i xs) ≡ at_index i (listed_dim (get_or xs i nan)) (sizes_from (suc i) (drop (suc i) xs))
    unfolding sizes_from
    next h = rw (drop-cons xs i nan h)

    pub walk_puts : (n : ℕ) → i < length xs → i < length d → size_outcome (Ok n) ≡ listed_dim (get_or xs i nan) → Walked (set d i n) (i + 1)
    walk_puts n h l e =
        w
        ∙ ap (behind (take i d)) (next h ∙ ap (λ o. at_index i o (sizes_from (suc i) (drop (suc i) xs))) (sym e) ∙ at_size i n (sizes_from (suc i) (drop (suc i) xs)))
        ∙ behind-one (take i d) n (sizes_from (suc i) (drop (suc i) xs))
        ∙ rw (add-one, take-suc-set d i n)

    pub walk_refuses : (r : Reason) → i < length xs → size_outcome (Err r) ≡ listed_dim (get_or xs i nan) → sizes_from 0 xs ≡ refused_at (number_of r) i
    walk_refuses r h e = w ∙ ap (behind (take i d)) (next h ∙ ap (λ o. at_index i o (sizes_from (suc i) (drop (suc i) xs))) (sym e))

    pub walk_ends : length xs ≤ i → sizes_from 0 xs ≡ sizes (take i d)
    unfolding sizes_from
    walk_ends h = w ∙ ap (λ (ys : List Float). behind (take i d) (sizes_from i ys)) (drop_of_length-le xs h) ∙ ap sizes (append-nil (take i d))
