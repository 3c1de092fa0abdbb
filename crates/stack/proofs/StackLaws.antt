-- What follows where the stack has types: how many, which lies where, and how long each is.
use Prim.{tt}
use Rattle.std.specs.Prelude.{ℕ, zero, suc, ◌+◌, ◌-◌, ◌≤◌, ◌<◌, ◌≡◌, refl, length, get_or, take, drop}
use Rattle.std.proofs.Common.{arith, add-one, sym, ◌∙◌, ap, subst, take-suc, drop-drop}
use mathlib.Core.List.{List, [], ◌∷◌, ◌++◌, map, reverse, reverse_aux, append_assoc, append-nil}
use Rattle.model.specs.Types.{Ty}
use Rattle.machine.specs.SheetLimits.{max_stack, scratch_bytes}
use Rattle.stack.specs.Stack.{Memory, size, Lies, HasOne, Lie, Stacked, HasStack, lowest}

-- ---- none yet, whatever the scratch holds

pub stacked-none : (m : Memory) → scratch_bytes ≤ length m.scratch → max_stack ≤ length m.ends → max_stack ≤ length m.lengths → Stacked m 0 []
stacked-none m a b c = record { room = a; ended = b; measured = c; few = omega arith; lie = tt }

module _ (m : Memory) where
  -- ---- how many

  lie-count : (k : ℕ) (ts : List Ty) → Lie m k ts → length ts ≡ k
  lie-count zero [] h = refl
  lie-count zero (t ∷ ts) h = absurd h
  lie-count (suc k) [] h = absurd h
  lie-count (suc k) (t ∷ ts) h = rw (lie-count k ts h.1)

  -- ---- which lies where

  lie-lower : (j k count : ℕ) (ts : List Ty) → count ≡ j + k → Lie m count ts → Lie m k (drop j ts)
  lie-lower zero k count ts e h = let a : count ≡ k = omega arith in subst (λ n. Lie m n ts) a h
  lie-lower (suc j) k zero ts e h = absurd (omega arith)
  lie-lower (suc j) k (suc count) [] e h = absurd h
  lie-lower (suc j) k (suc count) (t ∷ ts) e h = lie-lower j k count ts (omega arith) h.1

  lie_top : (n : ℕ) (t : Ty) (ts : List Ty) → Lie m n (t ∷ ts) → Lies m (n - 1) t × Lie m (n - 1) ts
  lie_top zero t ts h = absurd h
  lie_top (suc n) t ts h = let a : suc n - 1 ≡ n = omega arith in rw a h

  module _ (count : ℕ) where
    pub stacked-count : {ts : List Ty} → Stacked m count ts → length ts ≡ count
    stacked-count {ts} h = lie-count count ts h.lie

    pub stacked_top : {t : Ty} {ts : List Ty} → Stacked m count (t ∷ ts) → Lies m (count - 1) t
    stacked_top {t} {ts} h = (lie_top count t ts h.lie).0

    pub stacked-below : {t u : Ty} {ts : List Ty} → Stacked m count (t ∷ u ∷ ts) → Lies m (count - 2) u
    stacked-below {t} {u} {ts} h =
        let a : count - 1 - 1 ≡ count - 2 = omega arith in
        rw a at (lie_top (count - 1) u ts (lie_top count t (u ∷ ts) h.lie).1).0

    pub lie-lowest : (k : ℕ) (ts : List Ty) → k ≤ count → Lie m count ts → Lie m k (lowest count k ts)
    lie-lowest k ts less h = lie-lower (count - k) k count ts (omega arith) h

    -- the next from the bottom
    pub lie-next : {C : Type 0} (k : ℕ) (ts : List Ty) → k < count → Lie m count ts → ((t : Ty) → Lies m k t → lowest count (k + 1) ts ≡ t ∷ lowest count k ts → C) → C
    lie-next {C} k ts less h f =
        let j : count - k ≡ count - (k + 1) + 1 = omega arith in
        go (lowest count (k + 1) ts) refl (subst (λ n. Lie m n (lowest count (k + 1) ts)) (add-one k) (lie-lowest (k + 1) ts (omega arith) h)) (rw j (sym (drop-drop 1 (count - (k + 1)) ts)))
      where
        go : (l : List Ty) → lowest count (k + 1) ts ≡ l → Lie m (suc k) l → lowest count k ts ≡ drop 1 (lowest count (k + 1) ts) → C
        go [] e lies rest = absurd lies
        go (t ∷ us) e lies rest = let same : lowest count k ts ≡ us = rest ∙ ap (drop 1) e in f t lies.0 (e ∙ ap (λ l. t ∷ l) (sym same))

    pub one_at : (k : ℕ) → k < count → HasStack m count → HasOne m k
    one_at k less has = lie-next k has.types less has.stacked.lie λ t lies e. record { type = t; lies = lies }

    -- ---- how long each is

    sizes : max_stack ≤ length m.lengths → count ≤ max_stack → (n : ℕ) → n ≤ count → (ts rest : List Ty) → Lie m n ts → take n m.lengths ++ map size rest ≡ map size (reverse_aux ts rest)
    sizes l c zero h [] rest e = refl
    sizes l c zero h (t ∷ ts) rest e = absurd e
    sizes l c (suc n) h [] rest e = absurd e
    sizes l c (suc n) h (t ∷ ts) rest e =
        ap (λ x. x ++ map size rest) (take-suc m.lengths n 0 (omega arith))
        ∙ append_assoc (take n m.lengths) (get_or m.lengths n 0 ∷ []) (map size rest) ∙ rw e.0.long (sizes l c n (omega arith) ts (t ∷ rest) e.1)

    pub stacked-sizes : {ts : List Ty} → Stacked m count ts → take count m.lengths ≡ map size (reverse ts)
    stacked-sizes {ts} h = sym (append-nil (take count m.lengths)) ∙ sizes h.measured h.few count (omega arith) ts [] h.lie
