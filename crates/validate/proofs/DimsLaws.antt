-- A test of two lists of sizes, index by index: what is left at an index decides.
use Prim.Native.Nat.{ℕ, ◌+◌, ◌-◌, ◌≤◌, ◌<◌, min}
use native.Mathlib.Omega.{arith}
use native.Mathlib.Numerals.{add-one}
use mathlib.Core.Bool.{Bool, true, false, ◌&&◌, cond}
use mathlib.Core.List.{List, reverse}
use mathlib.Core.Path.{◌≡◌, refl, sym, ◌∙◌, ap}
use lib.ListN.{length, drop, get_or, length-drop, length-reverse}
use lib.Seq.{get_or-drop}
use lib.Dec.{eqb, leb}
use borrow.Author.Tests.{eqb-true, eqb-false, eq-eqb, ne_eqb, leb-true, leb-false}
use Rattle.model.specs.Limits.{ones}
use Rattle.model.specs.Types.{Dim, static, unknown}
use Rattle.format.specs.Records.{dim_of}
use Rattle.record.specs.Answers.{dims_of}
use Rattle.record.specs.declared.Dims.{Dims}
use Rattle.record.proofs.ByValue.{size-at}
use Rattle.rules.proofs.Lists.{get_d_reverse}
use Rattle.validation.specs.CheckShape.{agree, equal_dim}
use Rattle.validation.proofs.CheckShapeSteps.{agree-step, agree-end, agree_end'}

-- equal sizes are equal numbers
pub equal_numbers : (x y : ℕ) → eqb x y ≡ equal_dim (dim_of x) (dim_of y)
unfolding equal_dim
equal_numbers x y = go (eqb x ones) (eqb y ones) refl refl
  where
    go : (s t : Bool) → eqb x ones ≡ s → eqb y ones ≡ t → eqb x y ≡ equal_dim (cond s unknown (static x)) (cond t unknown (static y))
    go true true e f = eq-eqb x y (eqb-true x ones e ∙ sym (eqb-true y ones f))
    go true false e f = ne_eqb x y (λ q. eqb-false y ones f (sym q ∙ eqb-true x ones e))
    go false true e f = ne_eqb x y (λ q. eqb-false x ones e (q ∙ eqb-true y ones f))
    go false false e f = refl

-- what stands at an index from the end, of what is left after the first sizes
module _ (d : Dims) (skipped : ℕ) {n : ℕ} (e : n ≡ length (dims_of d)) where
  abbrev rest : List Dim
  rest = drop skipped (dims_of d)

  pub size_rest : (i : ℕ) → i < n - skipped → dim_of (get_or d.sizes (n - 1 - i) 0) ≡ get_or (reverse rest) i unknown
  size_rest i h =
      let j : ℕ = n - skipped - 1 - i in
      let place : skipped + j ≡ n - 1 - i = omega arith in
      let turned = get_d_reverse rest i j unknown (omega (arith, length-drop skipped (dims_of d))) in
      size-at d (n - 1 - i) (omega arith) ∙ sym (turned ∙ get_or-drop skipped (dims_of d) j unknown ∙ ap (λ k. get_or (dims_of d) k unknown) place)

  pub rest_long : length (reverse rest) ≡ n - skipped
  rest_long = length-reverse rest ∙ length-drop skipped (dims_of d) ∙ ap (λ k. k - skipped) (sym e)

-- o and p agree by the rule if what is left of them from index i on does
module _ (rule : Dim → Dim → Bool) (o p : List Dim) (i : ℕ) (left : agree rule o p ≡ agree rule (drop i o) (drop i p)) where
  -- the sizes at that index, and what the rule says of them
  module _ (m : i < length o) (n : i < length p) {x y : Dim} {t : Bool} (e : x ≡ get_or o i unknown) (f : y ≡ get_or p i unknown) (w : t ≡ rule x y) where
    one-index : agree rule o p ≡ (t && agree rule (drop (i + 1) o) (drop (i + 1) p))
    one-index =
        let at : t ≡ rule (get_or o i unknown) (get_or p i unknown) = w ∙ ap (λ v. rule v y) e ∙ ap (rule (get_or o i unknown)) f in
        left ∙ rw (add-one, at) (agree-step rule i o p unknown m n)

    pub agree-more : t ≡ true → agree rule o p ≡ agree rule (drop (i + 1) o) (drop (i + 1) p)
    agree-more u = rw u at one-index

    pub agree-stop : t ≡ false → false ≡ agree rule o p
    agree-stop u = sym (rw u at one-index)

  -- where either list has ended
  pub agree-ended : min (length o) (length p) ≤ i → true ≡ agree rule o p
  agree-ended h = sym (left ∙ go (leb (length o) i) refl)
    where
      go : (b : Bool) → leb (length o) i ≡ b → agree rule (drop i o) (drop i p) ≡ true
      go true e = agree-end rule i o p (leb-true (length o) i e)
      go false e = let l = leb-false (length o) i e in agree_end' rule i o p (omega arith)
