-- What shapes ask of each index, and what real shapes do: pervading is refused exactly where different sizes are asked for, and a
-- real shape that fits asks for no less.
use Rattle.std.specs.Prelude.{ℕ, zero, suc, Bool, true, false, List, [], ◌∷◌, ◌≡◌, refl}
use Rattle.std.proofs.Common.{arith, sym, ◌∙◌, ap}
use Rattle.std.proofs.Math.Option.{Option, none, some}
use Rattle.std.proofs.Math.ListN.{get_elem?}
use Rattle.model.specs.Types.{Dim, static, unknown, Shape, shape, Ty, shape_of}
use Rattle.rules.specs.Pervade.{Pervaded, sizes, clash, pervade_dims, pervade_closing, closed_by, pervade}
use Rattle.machine.specs.Steps.{Step, a_join, is_a, put_by}
use Rattle.machine.specs.Real.{RealShape, fits, real_pervade, FeedOf, Feeds, FitsFeed, FitsPuts}
use Rattle.holding.specs.Fitting.{Fits, fits-of}
use Rattle.holding.proofs.PervadeHolds.{closed_by-some}
use Rattle.orders.specs.Cells.{Named, unnamed, differ, Cell, cell, named_in, join_named, join_cell, cell_of, named_by, join_named_idem, join_named-comm, join_named-assoc}
use Rattle.orders.specs.Cells.{join_cell-comm, join_cell-assoc, named-join}
use Rattle.orders.specs.CellsPervade.{cell-pervade, differ-pervade, named-real_pervade, differ-real_pervade}
use Rattle.orders.specs.Play.{Commutes, Joins, gather, laid_down}
use Rattle.orders.specs.PlaySteps.{move_of, moves, feed_move, feed_moves}

pub named_commutes : Commutes unnamed join_named
named_commutes = record { unital = λ x. refl; comm = join_named-comm; assoc = join_named-assoc }

cell-unital : (x : Cell) → join_cell (cell false false unnamed) x ≡ x
cell-unital (cell a b x) = refl

pub cell_commutes : Commutes (cell false false unnamed) join_cell
cell_commutes = record { unital = cell-unital; comm = join_cell-comm; assoc = join_cell-assoc }

-- ---- shapes

abbrev pub opening_of : Shape → List Dim
opening_of (shape o c) = o

abbrev pub closing_of : Shape → Option (List Dim)
closing_of (shape o c) = c

abbrev pub cell_at : ℕ → Shape → Cell
cell_at i s = cell_of (get_elem? (opening_of s) i)

abbrev pub named_at : ℕ → Shape → Named
named_at i s = named_in (cell_at i s)

-- what a list of shapes says of index i, and which sizes it asks for there
abbrev pub said : ℕ → List Shape → Cell
said i l = gather (cell false false unnamed) join_cell (cell_at i) l

abbrev pub asked : ℕ → List Shape → Named
asked i l = gather unnamed join_named (named_at i) l

pub asked-said : (i : ℕ) (l : List Shape) → asked i l ≡ named_in (said i l)
asked-said i [] = refl
asked-said i (s ∷ l) = rw (asked-said i l) (sym (named-join (cell_at i s) (said i l)))

pub pervade-cell : (i : ℕ) (s t x : Shape) → pervade false false s t ≡ some x → cell_at i x ≡ join_cell (cell_at i s) (cell_at i t)
unfolding pervade
pervade-cell i (shape o c) (shape p d) x e =
    closed_by-some (pervade_closing c d) (pervade_dims false false o p) e λ l e₀ w.
    rw (← w) (cell-pervade o p l e₀ i)

pervade-named : (i : ℕ) (s t x : Shape) → pervade false false s t ≡ some x → named_at i x ≡ join_named (named_at i s) (named_at i t)
pervade-named i s t x e = ap named_in (pervade-cell i s t x e) ∙ named-join (cell_at i s) (cell_at i t)

pervade-differ : (s t : Shape) → pervade false false s t ≡ none → (i : ℕ) × (join_named (named_at i s) (named_at i t) ≡ differ)
unfolding pervade
pervade-differ (shape o c) (shape p d) e = go (pervade_dims false false o p) refl e
  where
    go : (r : Pervaded) → pervade_dims false false o p ≡ r → closed_by (pervade_closing c d) r ≡ none → (i : ℕ) × (join_named (named_in (cell_of (get_elem? o i))) (named_in (cell_of (get_elem? p i))) ≡ differ)
    go (sizes l) h e = let z : ◌≡◌ {A = ℕ} 0 1 = cc in absurd (omega arith)
    go (clash i) h e = (i, sym (named-join (cell_of (get_elem? o i)) (cell_of (get_elem? p i))) ∙ differ-pervade o p i h)

pub pervade-joins : Joins join_named named_at differ (pervade false false)
pervade-joins = record { absorbs = λ x. refl; joins = pervade-named; refuses = pervade-differ }

-- ---- real shapes

abbrev pub real_at : ℕ → RealShape → Named
real_at i r = named_by (get_elem? r i)

abbrev pub real_asked : ℕ → List RealShape → Named
real_asked i l = gather unnamed join_named (real_at i) l

pub real_pervade-joins : Joins join_named real_at differ (real_pervade false false)
real_pervade-joins = record { absorbs = λ x. refl; joins = λ i r q z e. named-real_pervade r q z e i; refuses = differ-real_pervade }

-- ---- a real shape that fits asks for no less

abbrev Below : Named → Named → Type 0
Below x y = join_named x y ≡ y

below-join : (x y z w : Named) → Below x y → Below z w → Below (join_named x z) (join_named y w)
below-join x y z w p q =
    join_named-assoc x z (join_named y w)
    ∙ ap (join_named x) (sym (join_named-assoc z y w) ∙ ap (λ v. join_named v w) (join_named-comm z y) ∙ join_named-assoc y z w ∙ ap (join_named y) q)
    ∙ sym (join_named-assoc x y w) ∙ ap (λ v. join_named v w) p

below-fits : (o : List Dim) (c : Option (List Dim)) (r : RealShape) (i : ℕ) → Fits o c r → Below (named_in (cell_of (get_elem? o i))) (real_at i r)
below-fits [] c r i h = refl
below-fits (d ∷ o) c [] i h = absurd h
below-fits (unknown ∷ o) c (n ∷ r) zero h = refl
below-fits (static m ∷ o) c (n ∷ r) zero h = rw h.0 (join_named_idem (named_by (some n)))
below-fits (d ∷ o) c (n ∷ r) (suc i) h = below-fits o c r i h.1

below_holds : (s : Shape) (r : RealShape) (i : ℕ) → fits s r ≡ true → Below (named_at i s) (real_at i r)
below_holds (shape o c) r i h = below-fits o c r i (fits-of o c r h)

asked-below : (xs : List Step) (f : Feeds xs) (i : ℕ) → FitsPuts xs f → Below (asked i (laid_down (moves xs))) (real_asked i (laid_down (feed_moves xs f)))
asked-below [] f i h = refl
asked-below (x ∷ xs) f i h = go (put_by x) (is_a a_join x) f.0 h.0 (asked-below xs f.1 i h.1)
  where
    go : (o : Option Ty) (b : Bool) (a : FeedOf o b) → FitsFeed o b a → Below (asked i (laid_down (moves xs))) (real_asked i (laid_down (feed_moves xs f.1)))
        → Below (asked i (laid_down (move_of o ∷ moves xs))) (real_asked i (laid_down (feed_move o b a ∷ feed_moves xs f.1)))
    go none b a k l = l
    go (some t) b a k l = below-join (named_at i (shape_of t)) (real_at i a) (asked i (laid_down (moves xs))) (real_asked i (laid_down (feed_moves xs f.1))) (below_holds (shape_of t) a i k) l

-- Where the puts ask for different sizes, so do all real shapes that fit them.
pub asked-differ : (xs : List Step) (f : Feeds xs) (i : ℕ) → FitsPuts xs f → asked i (laid_down (moves xs)) ≡ differ → real_asked i (laid_down (feed_moves xs f)) ≡ differ
asked-differ xs f i h e = sym (rw e at (asked-below xs f i h))
