-- What a loop over the indices needs of `check_shape`'s list test: one index, then the indices after it (`..-step`), and where the lists
-- end (`..-end`), from the front and from the end.
use Prim.Native.Nat.{ℕ, zero, suc, ◌≤◌, ◌<◌}
use Rattle.std.proofs.Common.{arith, drop_of_length-le}
use Rattle.std.specs.Prelude.{Bool, true, ◌&&◌, ◌≡◌, length, drop, get_or}
use mathlib.Core.List.{List, [], ◌∷◌, reverse}
use Rattle.std.proofs.Math.Path.{refl}
use Rattle.std.proofs.lemmas.List.{length-reverse}
use Rattle.model.specs.Types.{Dim}
use Rattle.validation.specs.CheckShape.{agree}

module _ (test : Dim → Dim → Bool) where
  -- ---- from the front

  pub agree-step : (i : ℕ) (o p : List Dim) (z : Dim) → i < length o → i < length p → agree test (drop i o) (drop i p) ≡ (test (get_or o i z) (get_or p i z) && agree test (drop (suc i) o) (drop (suc i) p))
  unfolding agree
  agree-step i [] p z h k = absurd (omega arith)
  agree-step i (d ∷ o) [] z h k = absurd (omega arith)
  agree-step zero (d ∷ o) (e ∷ p) z h k = refl
  agree-step (suc i) (d ∷ o) (e ∷ p) z h k = agree-step i o p z (omega arith) (omega arith)

  agree_nil : (o : List Dim) → agree test o [] ≡ true
  unfolding agree
  agree_nil [] = refl
  agree_nil (d ∷ o) = refl

  -- as soon as either list has ended
  pub agree-end : (i : ℕ) (o p : List Dim) → length o ≤ i → agree test (drop i o) (drop i p) ≡ true
  unfolding agree
  agree-end i o p h = rw (drop_of_length-le o {i = i} h)

  pub agree_end' : (i : ℕ) (o p : List Dim) → length p ≤ i → agree test (drop i o) (drop i p) ≡ true
  agree_end' i o p h = rw (drop_of_length-le p {i = i} h) (agree_nil (drop i o))

  -- ---- from the end

  pub agree_ends_end : (i : ℕ) (o p : List Dim) → length o ≤ i → agree test (drop i (reverse o)) (drop i (reverse p)) ≡ true
  agree_ends_end i o p h = agree-end i (reverse o) (reverse p) (omega (arith, length-reverse o))

  pub agree_ends_end' : (i : ℕ) (o p : List Dim) → length p ≤ i → agree test (drop i (reverse o)) (drop i (reverse p)) ≡ true
  agree_ends_end' i o p h = agree_end' i (reverse o) (reverse p) (omega (arith, length-reverse p))
