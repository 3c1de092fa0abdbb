-- What a loop over the indices needs of pervading, by either rule: one index, then the indices after it; and what is done so far, in
-- front of the rest. The loop's invariant is `walk rule o p ≡ after done (walk rule (drop i o) (drop i p))`.
use Prim.Native.Nat.{ℕ, zero, suc, ◌+◌, ◌≤◌, ◌<◌, max}
use Rattle.std.proofs.Common.{arith, sym, ap, length-append}
use mathlib.Core.List.{List, [], ◌∷◌, ◌++◌, append_assoc, append-nil}
use Rattle.std.proofs.Math.Option.{none, some}
use Rattle.std.specs.Prelude.{◌≡◌, length, drop}
use Rattle.std.proofs.Math.Path.{refl}
use Rattle.std.proofs.Math.ListN.{get_elem?, drop_of_length-le}
use Rattle.std.proofs.Math.Seq.{drop-nil}
use Rattle.model.specs.Types.{Dim}
use Rattle.rules.specs.Pervade.{IndexRule, Pervaded, sizes, clash, then_rest, walk}

-- ---- one index, then the indices after it

module _ (rule : IndexRule) where
  pub walk_step : (i : ℕ) (o p : List Dim) → i < max (length o) (length p) → walk rule (drop i o) (drop i p) ≡ then_rest (rule (get_elem? o i) (get_elem? p i)) (walk rule (drop (suc i) o) (drop (suc i) p))
  unfolding walk
  walk_step i [] [] h = absurd (omega arith)
  walk_step zero [] (e ∷ p) h = refl
  walk_step zero (d ∷ o) [] h = refl
  walk_step zero (d ∷ o) (e ∷ p) h = refl
  walk_step (suc i) [] (e ∷ p) h = rw (drop-nil {A = Dim} i) at (walk_step i [] p (omega arith))
  walk_step (suc i) (d ∷ o) [] h = rw (drop-nil {A = Dim} i) at (walk_step i o [] (omega arith))
  walk_step (suc i) (d ∷ o) (e ∷ p) h = walk_step i o p (omega arith)

  pub walk_end : (i : ℕ) (o p : List Dim) → max (length o) (length p) ≤ i → walk rule (drop i o) (drop i p) ≡ sizes []
  unfolding walk
  walk_end i o p h = rw (drop_of_length-le o {i = i} (omega arith), drop_of_length-le p {i = i} (omega arith))

-- ---- what is done so far

-- The sizes of the indices done so far, in front of what the indices after them give.
abbrev pub after : List Dim → Pervaded → Pervaded
after x (sizes y) = sizes (x ++ y)
after x (clash i) = clash (length x + i)

pub after-start : (r : Pervaded) → after [] r ≡ r
after-start (sizes y) = refl
after-start (clash i) = ap clash (omega arith)

pub after_more : (x : List Dim) (d : Dim) (r : Pervaded) → after x (then_rest (some d) r) ≡ after (x ++ (d ∷ [])) r
after_more x d (sizes y) = ap sizes (sym (append_assoc x (d ∷ []) y))
after_more x d (clash i) = ap clash (simp length-append (omega arith))

pub after_stop : (x : List Dim) (r : Pervaded) → after x (then_rest none r) ≡ clash (length x)
after_stop x r = ap clash (omega arith)

pub after-end : (x : List Dim) → after x (sizes []) ≡ sizes x
after-end x = ap sizes (append-nil x)
