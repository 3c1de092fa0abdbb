-- Unfilled pervading joins what the two shapes say of each index, and is refused only where two sizes differ; unfilled real
-- pervading does the same with the sizes alone.
use Rattle.std.specs.Prelude.{ℕ, zero, suc, Bool, true, false, cond, List, [], ◌∷◌, ◌≡◌, refl, eqb}
use Rattle.std.proofs.Common.{arith, sym, ◌∙◌}
use Rattle.std.proofs.Math.Option.{Option, none, some}
use Rattle.std.proofs.Math.ListN.{get_elem?}
use Rattle.model.specs.Types.{Dim, static, unknown}
use Rattle.rules.specs.Pervade.{against_absent, together, sizes, clash, walk, pervade_dims}
use Rattle.rules.proofs.PervadeLaws.{together-unknown, together-unfilled, together-comm, then_rest-sizes, then_rest-clash}
use Rattle.machine.specs.Real.{RealShape, real_dim, cons_both, real_pervade}
use Rattle.orders.specs.Cells.{unnamed, differ, cell, named_in, join_named, join_cell, cell_static, cell_of, named_by, join_named-comm, join_cell-comm}
use Rattle.machine.proofs.RealLaws.{real_dim-unfilled, cons_both-some}

-- ---- pervading joins cells

cell_against : (d : Dim) → cell_of (some (against_absent d)) ≡ join_cell (cell_of none) (cell_of (some d))
unfolding against_absent
cell_against unknown = refl
cell_against (static m) = go (eqb m 1) refl
  where
    go : (t : Bool) → eqb m 1 ≡ t → cell_of (some (cond t unknown (static m))) ≡ join_cell (cell true false unnamed) (cell_static t m)
    go true h = refl
    go false h = rw h

-- ? against a size is absent against it
cell-unknown : (d : Dim) → join_cell (cell_of none) (cell_of (some d)) ≡ join_cell (cell_of (some unknown)) (cell_of (some d))
cell-unknown unknown = refl
cell-unknown (static m) = go (eqb m 1)
  where
    go : (t : Bool) → join_cell (cell true false unnamed) (cell_static t m) ≡ join_cell (cell true true unnamed) (cell_static t m)
    go true = refl
    go false = refl

cell-statics : (m n : ℕ) (x : Dim) → together false false (static m) (static n) ≡ some x → cell_of (some x) ≡ join_cell (cell_of (some (static m))) (cell_of (some (static n)))
cell-statics m n x e = go (eqb m 1) (eqb n 1) (eqb m n) refl refl refl (sym (together-unfilled m n) ∙ e)
  where
    go : (t u v : Bool) → eqb m 1 ≡ t → eqb n 1 ≡ u → eqb m n ≡ v → cond t (some (static n)) (cond u (some (static m)) (cond v (some (static m)) none)) ≡ some x
        → cell_of (some x) ≡ join_cell (cell_static t m) (cell_static u n)
    go true true v j k l h = let w : static n ≡ x = cc in rw (← w, k)
    go true false v j k l h = let w : static n ≡ x = cc in rw (← w, k)
    go false true v j k l h = let w : static m ≡ x = cc in rw (← w, j)
    go false false true j k l h = let w : static m ≡ x = cc in rw (← w, j, l)
    go false false false j k l h = let w : ◌≡◌ {A = ℕ} 0 1 = cc in absurd (omega arith)

cell-together : (d e x : Dim) → together false false d e ≡ some x → cell_of (some x) ≡ join_cell (cell_of (some d)) (cell_of (some e))
cell-together unknown e x h =
    let w : against_absent e ≡ x = let v = together-unknown false false e in cc in
    rw (← w) (cell_against e ∙ cell-unknown e)
cell-together (static m) unknown x h =
    let w : against_absent (static m) ≡ x = let v = together-unknown false false (static m) in let u = together-comm false false (static m) unknown in cc in
    rw (← w) (cell_against (static m) ∙ cell-unknown (static m) ∙ join_cell-comm (cell_of (some unknown)) (cell_of (some (static m))))
cell-together (static m) (static n) x h = cell-statics m n x h

pub cell-pervade : (o p x : List Dim) → pervade_dims false false o p ≡ sizes x → (i : ℕ) → cell_of (get_elem? x i) ≡ join_cell (cell_of (get_elem? o i)) (cell_of (get_elem? p i))
unfolding walk
cell-pervade [] [] x e i = let w : [] ≡ x = cc in rw (← w)
cell-pervade [] (d ∷ p) x e zero =
    then_rest-sizes (some (against_absent d)) (pervade_dims false false [] p) e λ x₀ x₁ e₀ e₁ v.
    let u : against_absent d ≡ x₀ = cc in rw (← v, ← u) (cell_against d)
cell-pervade [] (d ∷ p) x e (suc i) =
    then_rest-sizes (some (against_absent d)) (pervade_dims false false [] p) e λ x₀ x₁ e₀ e₁ v.
    rw (← v) (cell-pervade [] p x₁ e₁ i)
cell-pervade (d ∷ o) [] x e zero =
    then_rest-sizes (some (against_absent d)) (pervade_dims false false o []) e λ x₀ x₁ e₀ e₁ v.
    let u : against_absent d ≡ x₀ = cc in rw (← v, ← u) (cell_against d ∙ join_cell-comm (cell_of none) (cell_of (some d)))
cell-pervade (d ∷ o) [] x e (suc i) =
    then_rest-sizes (some (against_absent d)) (pervade_dims false false o []) e λ x₀ x₁ e₀ e₁ v.
    rw (← v) (cell-pervade o [] x₁ e₁ i)
cell-pervade (d ∷ o) (f ∷ p) x e zero =
    then_rest-sizes (together false false d f) (pervade_dims false false o p) e λ x₀ x₁ e₀ e₁ v.
    rw (← v) (cell-together d f x₀ e₀)
cell-pervade (d ∷ o) (f ∷ p) x e (suc i) =
    then_rest-sizes (together false false d f) (pervade_dims false false o p) e λ x₀ x₁ e₀ e₁ v.
    rw (← v) (cell-pervade o p x₁ e₁ i)

-- ---- and is refused only where two sizes differ

differ-statics : (m n : ℕ) → together false false (static m) (static n) ≡ none → named_in (join_cell (cell_of (some (static m))) (cell_of (some (static n)))) ≡ differ
differ-statics m n e = go (eqb m 1) (eqb n 1) (eqb m n) refl (sym (together-unfilled m n) ∙ e)
  where
    go : (t u v : Bool) → eqb m n ≡ v → cond t (some (static n)) (cond u (some (static m)) (cond v (some (static m)) none)) ≡ none → named_in (join_cell (cell_static t m) (cell_static u n)) ≡ differ
    go true u v l h = let w : ◌≡◌ {A = ℕ} 0 1 = cc in absurd (omega arith)
    go false true v l h = let w : ◌≡◌ {A = ℕ} 0 1 = cc in absurd (omega arith)
    go false false true l h = let w : ◌≡◌ {A = ℕ} 0 1 = cc in absurd (omega arith)
    go false false false l h = rw l

differ-together : (d e : Dim) → together false false d e ≡ none → named_in (join_cell (cell_of (some d)) (cell_of (some e))) ≡ differ
differ-together unknown e h = let v = together-unknown false false e in let w : ◌≡◌ {A = ℕ} 0 1 = cc in absurd (omega arith)
differ-together (static m) unknown h =
    let v = together-unknown false false (static m) in
    let u = together-comm false false (static m) unknown in
    let w : ◌≡◌ {A = ℕ} 0 1 = cc in absurd (omega arith)
differ-together (static m) (static n) h = differ-statics m n h

pub differ-pervade : (o p : List Dim) (i : ℕ) → pervade_dims false false o p ≡ clash i → named_in (join_cell (cell_of (get_elem? o i)) (cell_of (get_elem? p i))) ≡ differ
unfolding walk
differ-pervade [] [] i e = let z : ◌≡◌ {A = ℕ} 0 1 = cc in absurd (omega arith)
differ-pervade [] (d ∷ p) i e =
    then_rest-clash (some (against_absent d)) (pervade_dims false false [] p) e
    (λ x w. let z : ◌≡◌ {A = ℕ} 0 1 = cc in absurd (omega arith))
    (λ j x w. rw (← w) (differ-pervade [] p j x))
differ-pervade (d ∷ o) [] i e =
    then_rest-clash (some (against_absent d)) (pervade_dims false false o []) e
    (λ x w. let z : ◌≡◌ {A = ℕ} 0 1 = cc in absurd (omega arith))
    (λ j x w. rw (← w) (differ-pervade o [] j x))
differ-pervade (d ∷ o) (f ∷ p) i e =
    then_rest-clash (together false false d f) (pervade_dims false false o p) e
    (λ x w. rw (← w) (differ-together d f x))
    (λ j x w. rw (← w) (differ-pervade o p j x))

-- ---- the same of real shapes

named-real_dim : (m n z : ℕ) → real_dim false false m n ≡ some z → named_by (some z) ≡ join_named (named_by (some m)) (named_by (some n))
named-real_dim m n z h = go (eqb m 1) (eqb n 1) (eqb m n) refl refl refl (sym (real_dim-unfilled m n) ∙ h)
  where
    go : (t u v : Bool) → eqb m 1 ≡ t → eqb n 1 ≡ u → eqb m n ≡ v → cond t (some n) (cond u (some m) (cond v (some m) none)) ≡ some z
        → named_by (some z) ≡ join_named (named_in (cell_static t m)) (named_in (cell_static u n))
    go true u v j k l h = let w : n ≡ z = cc in rw (← w, k)
    go false true v j k l h = let w : m ≡ z = cc in rw (← w, j)
    go false false true j k l h = let w : m ≡ z = cc in rw (← w, j, l)
    go false false false j k l h = let w : ◌≡◌ {A = ℕ} 0 1 = cc in absurd (omega arith)

differ-real_dim : (m n : ℕ) → real_dim false false m n ≡ none → join_named (named_by (some m)) (named_by (some n)) ≡ differ
differ-real_dim m n h = go (eqb m 1) (eqb n 1) (eqb m n) refl (sym (real_dim-unfilled m n) ∙ h)
  where
    go : (t u v : Bool) → eqb m n ≡ v → cond t (some n) (cond u (some m) (cond v (some m) none)) ≡ none → join_named (named_in (cell_static t m)) (named_in (cell_static u n)) ≡ differ
    go true u v l h = let w : ◌≡◌ {A = ℕ} 0 1 = cc in absurd (omega arith)
    go false true v l h = let w : ◌≡◌ {A = ℕ} 0 1 = cc in absurd (omega arith)
    go false false true l h = let w : ◌≡◌ {A = ℕ} 0 1 = cc in absurd (omega arith)
    go false false false l h = rw l

pub named-real_pervade : (r q z : RealShape) → real_pervade false false r q ≡ some z → (i : ℕ) → named_by (get_elem? z i) ≡ join_named (named_by (get_elem? r i)) (named_by (get_elem? q i))
unfolding real_pervade
named-real_pervade [] q z e i = let w : q ≡ z = cc in rw (← w)
named-real_pervade (m ∷ r) [] z e i = let w : m ∷ r ≡ z = cc in rw (← w) (sym (join_named-comm (named_by (get_elem? (m ∷ r) i)) unnamed))
named-real_pervade (m ∷ r) (n ∷ q) z e zero = cons_both-some (real_dim false false m n) (real_pervade false false r q) e λ x₀ x₁ e₀ e₁ v. rw (← v) (named-real_dim m n x₀ e₀)
named-real_pervade (m ∷ r) (n ∷ q) z e (suc i) = cons_both-some (real_dim false false m n) (real_pervade false false r q) e λ x₀ x₁ e₀ e₁ v. rw (← v) (named-real_pervade r q x₁ e₁ i)

cons_both-none : {A C : Type 0} (x : Option A) (r : Option (List A)) → cons_both x r ≡ none → (x ≡ none → C) → (r ≡ none → C) → C
cons_both-none none r e j k = j refl
cons_both-none (some a) none e j k = k refl
cons_both-none (some a) (some l) e j k = let z : ◌≡◌ {A = ℕ} 0 1 = cc in absurd (omega arith)

pub differ-real_pervade : (r q : RealShape) → real_pervade false false r q ≡ none → (i : ℕ) × (join_named (named_by (get_elem? r i)) (named_by (get_elem? q i)) ≡ differ)
unfolding real_pervade
differ-real_pervade [] q e = let w : ◌≡◌ {A = ℕ} 0 1 = cc in absurd (omega arith)
differ-real_pervade (m ∷ r) [] e = let w : ◌≡◌ {A = ℕ} 0 1 = cc in absurd (omega arith)
differ-real_pervade (m ∷ r) (n ∷ q) e =
    cons_both-none (real_dim false false m n) (real_pervade false false r q) e (λ x. (0, differ-real_dim m n x)) (λ y. let (i, h) = differ-real_pervade r q y in (suc i, h))
