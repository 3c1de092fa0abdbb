-- `compatible_with` (document 01; document 02, 2026-07): what each answer says of the two lists is so, and is so of no other answer; yes is
-- said to just the pairs that the Rust's test lets pass; and either way round the answer is the same.
use Rattle.std.specs.Prelude.{ℕ, zero, suc, ◌+◌, ◌≤◌, ◌<◌, max, Bool, true, false, ◌&&◌, cond, ◌≡◌, refl, eqb, length, get_or}
use Rattle.std.proofs.Common.{arith, sym, ◌∙◌, ap, eq-eqb, ne_eqb}
use mathlib.Core.List.{List, [], ◌∷◌, foldr}
use Rattle.std.proofs.Math.Option.{Option, none, some}
use Rattle.model.specs.Types.{Dim, unknown, Shape, shape}
use Rattle.rules.specs.Sizes.{row_compatible}
use Rattle.rules.specs.Shapes.{Compatibility, says_yes, says_no, failing_from, greatest, yes_unless, compatible_dims, compatible_with, is_yes, compatible_shapes}
use Rattle.rules.proofs.SizesLaws.{row_compatible-refl, row_compatible-comm}

-- ---- what an answer says

module _ (o p : List Dim) where
  -- The sizes at an index are equal, or either is 1 or ?.
  abbrev pub Passes : ℕ → Type 0
  Passes i = row_compatible (get_or o i unknown) (get_or p i unknown) ≡ true

  abbrev pub Fails : ℕ → Type 0
  Fails i = row_compatible (get_or o i unknown) (get_or p i unknown) ≡ false

  -- Of lists of equal counts, the greatest index that fails.
  pub record GreatestFailing (i : ℕ) : Type 0 where
    pub counts : length o ≡ length p
    pub inside : i < length o
    pub fails : Fails i
    pub behind : (j : ℕ) → i < j → j < length o → Passes j

  abbrev pub IsSo : Compatibility → Type 0
  IsSo says_yes = (length o ≡ length p) × ((i : ℕ) → i < length o → Passes i)
  IsSo (says_no (some i)) = GreatestFailing i
  IsSo (says_no none) = length o ≡ length p → ⊥

-- ---- the greatest of the indices that fail

none_failing : (n : ℕ) (o p : List Dim) → ((i : ℕ) → i < length o → Passes o p i) → failing_from n o p ≡ []
unfolding failing_from
none_failing n [] p h = refl
none_failing n (d ∷ o) [] h = refl
none_failing n (d ∷ o) (e ∷ p) h =
    let first : row_compatible d e ≡ true = h 0 (omega arith) in
    rw first (none_failing (suc n) o p λ i k. h (suc i) (omega arith))

max-front : (m n : ℕ) (ns : List ℕ) → max m (foldr max n ns) ≡ max n (foldr max m ns)
max-front m n [] = omega arith
max-front m n (k ∷ ns) = let h = max-front m n ns in omega arith

smaller_front : (n : ℕ) (ns : List ℕ) {m : ℕ} → n ≤ m → greatest ns ≡ some m → greatest (n ∷ ns) ≡ some m
smaller_front n [] h e = cc
smaller_front n (k ∷ ns) {m} h e =
    let same : foldr max k ns ≡ m = cc in
    ap some (max-front k n ns ∙ omega arith)

greatest_failing :
    (n i : ℕ) (o p : List Dim)
    → i < length o
    → i < length p
    → Fails o p i
    → ((j : ℕ) → i < j → j < length o → Passes o p j)
    → greatest (failing_from n o p) ≡ some (n + i)
unfolding failing_from
greatest_failing n i [] p h k fails behind = absurd (omega arith)
greatest_failing n i (d ∷ o) [] h k fails behind = absurd (omega arith)
greatest_failing n zero (d ∷ o) (e ∷ p) h k fails behind =
    let first : row_compatible d e ≡ false = fails in
    rw (first, none_failing (suc n) o p λ i l. behind (suc i) (omega arith) (omega arith)) (ap some (omega arith))
greatest_failing n (suc i) (d ∷ o) (e ∷ p) h k fails behind =
    go (row_compatible d e) (greatest_failing (suc n) i o p (omega arith) (omega arith) fails λ j l m. behind (suc j) (omega arith) (omega arith))
  where
    go : (t : Bool) → greatest (failing_from (suc n) o p) ≡ some (suc n + i) → greatest (cond t (failing_from (suc n) o p) (n ∷ failing_from (suc n) o p)) ≡ some (n + suc i)
    go true g = g ∙ ap some (omega arith)
    go false g = smaller_front n (failing_from (suc n) o p) (omega arith) g ∙ ap some (omega arith)

-- ---- no other answer could be given

pub is_so_once : (o p : List Dim) (c : Compatibility) → IsSo o p c → c ≡ compatible_dims o p
unfolding compatible_dims
is_so_once o p says_yes h = rw (eq-eqb (length o) (length p) h.0, none_failing 0 o p h.1)
is_so_once o p (says_no (some i)) h =
    rw (eq-eqb (length o) (length p) h.counts, greatest_failing 0 i o p h.inside (omega (arith, h.counts, h.inside)) h.fails h.behind) (ap (λ k. says_no (some k)) (omega arith))
is_so_once o p (says_no none) h = rw (ne_eqb (length o) (length p) h)

-- ---- what is answered is so

some-answer : (o p : List Dim) → (c : Compatibility) × IsSo o p c
some-answer [] [] = (says_yes, (refl, λ i h. absurd (omega arith)))
some-answer [] (e ∷ p) = (says_no none, λ h. absurd (omega arith))
some-answer (d ∷ o) [] = (says_no none, λ h. absurd (omega arith))
some-answer (d ∷ o) (e ∷ p) = go (some-answer o p).0 (some-answer o p).1
  where
    all : IsSo o p says_yes → (t : Bool) → row_compatible d e ≡ t → (c : Compatibility) × IsSo (d ∷ o) (e ∷ p) c
    all h true first = (says_yes, (ap suc h.0, every))
      where
        every : (i : ℕ) → i < suc (length o) → Passes (d ∷ o) (e ∷ p) i
        every zero k = first
        every (suc i) k = h.1 i (omega arith)
    all h false first = (says_no (some 0), record { counts = ap suc h.0; inside = omega arith; fails = first; behind = behind })
      where
        behind : (j : ℕ) → 0 < j → j < suc (length o) → Passes (d ∷ o) (e ∷ p) j
        behind zero k l = absurd (omega arith)
        behind (suc j) k l = h.1 j (omega arith)

    go : (c : Compatibility) → IsSo o p c → (c : Compatibility) × IsSo (d ∷ o) (e ∷ p) c
    go says_yes h = all h (row_compatible d e) refl
    go (says_no (some i)) h = (says_no (some (suc i)), record { counts = ap suc h.counts; inside = omega (arith, h.inside); fails = h.fails; behind = behind })
      where
        behind : (j : ℕ) → suc i < j → j < suc (length o) → Passes (d ∷ o) (e ∷ p) j
        behind zero k l = absurd (omega arith)
        behind (suc j) k l = h.behind j (omega arith) (omega arith)
    go (says_no none) h = (says_no none, λ k. h (omega (arith, k)))

pub is_so : (o p : List Dim) → IsSo o p (compatible_dims o p)
is_so o p = rw (← is_so_once o p (some-answer o p).0 (some-answer o p).1) (some-answer o p).1

-- ---- yes to just the same pairs as the Rust

unfoldable pub pairs_pass : List Dim → List Dim → Bool
pairs_pass [] p = true
pairs_pass (d ∷ o) [] = true
pairs_pass (d ∷ o) (e ∷ p) = row_compatible d e && pairs_pass o p

-- The Rust's test: equal lengths, and all pairs of sizes pass, as far as both lists go.
abbrev pub rust_compatible : List Dim → List Dim → Bool
rust_compatible o p = eqb (length o) (length p) && pairs_pass o p

yes-by_pairs : (n : ℕ) (o p : List Dim) → is_yes (yes_unless (greatest (failing_from n o p))) ≡ pairs_pass o p
unfolding failing_from pairs_pass
yes-by_pairs n [] p = refl
yes-by_pairs n (d ∷ o) [] = refl
yes-by_pairs n (d ∷ o) (e ∷ p) = go (row_compatible d e) (yes-by_pairs (suc n) o p)
  where
    go : (t : Bool) → is_yes (yes_unless (greatest (failing_from (suc n) o p))) ≡ pairs_pass o p → is_yes (yes_unless (greatest (cond t (failing_from (suc n) o p) (n ∷ failing_from (suc n) o p)))) ≡ (t && pairs_pass o p)
    go true h = h
    go false h = refl

pub same_pairs : (o p : List Dim) (c d : Option (List Dim)) → compatible_shapes (shape o c) (shape p d) ≡ rust_compatible o p
unfolding compatible_shapes compatible_with compatible_dims
same_pairs o p c d = go (eqb (length o) (length p))
  where
    go : (t : Bool) → is_yes (cond t (yes_unless (greatest (failing_from 0 o p))) (says_no none)) ≡ (t && pairs_pass o p)
    go true = yes-by_pairs 0 o p
    go false = refl

pub compatible_shapes-refl : (s : Shape) → compatible_shapes s s ≡ true
unfolding compatible_shapes compatible_with
compatible_shapes-refl (shape o c) = ap is_yes (sym (is_so_once o o says_yes (refl, λ i h. row_compatible-refl (get_or o i unknown))))

-- ---- either way round the same answer

pub compatible_dims-comm : (o p : List Dim) → compatible_dims o p ≡ compatible_dims p o
compatible_dims-comm o p = is_so_once p o (compatible_dims o p) (turned (compatible_dims o p) (is_so o p))
  where
    test : (i : ℕ) → row_compatible (get_or p i unknown) (get_or o i unknown) ≡ row_compatible (get_or o i unknown) (get_or p i unknown)
    test i = row_compatible-comm (get_or p i unknown) (get_or o i unknown)

    turned : (c : Compatibility) → IsSo o p c → IsSo p o c
    turned says_yes h = (sym h.0, λ i k. test i ∙ h.1 i (omega (arith, h.0, k)))
    turned (says_no (some i)) h = record {
      counts = sym h.counts;
      inside = omega (arith, h.counts, h.inside);
      fails = test i ∙ h.fails;
      behind = λ j m k. test j ∙ h.behind j m (omega (arith, h.counts, k));
    }
    turned (says_no none) h = λ e. h (sym e)
