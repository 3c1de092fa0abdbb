-- What the puts of a sheet say of one index, gathered part by part: a semilattice, so that order and grouping do not matter.
use Rattle.std.specs.Prelude.{ℕ, suc, Bool, true, false, ◌||◌, List, [], ◌∷◌, ◌≡◌, refl, eqb}
use Rattle.std.proofs.Common.{arith, sym, ◌∙◌, ap, eqb-true, eq-eqb}
use Rattle.std.proofs.Math.Bool.{or_comm, or_assoc}
use Rattle.std.proofs.Math.Option.{Option, none, some}
use Rattle.std.proofs.Math.ListN.{get_elem?}
use Rattle.std.proofs.lemmas.Bool.{eqb-false}
use Rattle.model.specs.Types.{Dim, static, unknown}

-- ---- one index

-- The sizes other than 1 that are named there: none, this one, or two that differ.
pub data Named : Type 0 where
  unnamed : Named
  only : ℕ → Named
  differ : Named

-- Whether it is absent somewhere, whether 1 stands somewhere, and the other sizes. A ? counts as absent and as 1.
pub data Cell : Type 0 where
  cell : Bool → Bool → Named → Cell

abbrev pub named_in : Cell → Named
named_in (cell a b x) = x

abbrev pub only_if : Bool → ℕ → Named
only_if true m = only m
only_if false m = differ

abbrev pub join_named : Named → Named → Named
join_named unnamed y = y
join_named (only m) unnamed = only m
join_named (only m) (only n) = only_if (eqb m n) m
join_named (only m) differ = differ
join_named differ y = differ

abbrev pub join_cell : Cell → Cell → Cell
join_cell (cell a b x) (cell c d y) = cell (a || c) (b || d) (join_named x y)

-- a static size, and whether it is 1
abbrev pub cell_static : Bool → ℕ → Cell
cell_static true m = cell false true unnamed
cell_static false m = cell true true (only m)

abbrev pub cell_of : Option Dim → Cell
cell_of none = cell true false unnamed
cell_of (some unknown) = cell true true unnamed
cell_of (some (static m)) = cell_static (eqb m 1) m

-- of a real size
abbrev pub named_by : Option ℕ → Named
named_by none = unnamed
named_by (some m) = named_in (cell_static (eqb m 1) m)

-- ---- laws

eqb_comm : (m n : ℕ) → eqb m n ≡ eqb n m
eqb_comm m n = go (eqb m n) (eqb n m) refl refl
  where
    go : (p q : Bool) → eqb m n ≡ p → eqb n m ≡ q → p ≡ q
    go true true h k = refl
    go false false h k = refl
    go true false h k = absurd (eqb-false n m k (sym (eqb-true m n h)))
    go false true h k = absurd (eqb-false m n h (sym (eqb-true n m k)))

pub join_named-differ : (x : Named) → join_named x differ ≡ differ
join_named-differ unnamed = refl
join_named-differ (only m) = refl
join_named-differ differ = refl

pub join_named_idem : (x : Named) → join_named x x ≡ x
join_named_idem unnamed = refl
join_named_idem (only m) = rw (eq-eqb m m refl)
join_named_idem differ = refl

pub join_named-comm : (x y : Named) → join_named x y ≡ join_named y x
join_named-comm unnamed unnamed = refl
join_named-comm unnamed (only n) = refl
join_named-comm unnamed differ = refl
join_named-comm (only m) unnamed = refl
join_named-comm (only m) (only n) = go (eqb m n) refl
  where
    go : (t : Bool) → eqb m n ≡ t → join_named (only m) (only n) ≡ join_named (only n) (only m)
    go true h = rw (← eqb_comm m n, h) (ap only (eqb-true m n h))
    go false h = rw (← eqb_comm m n, h) refl
join_named-comm (only m) differ = refl
join_named-comm differ y = sym (join_named-differ y)

pub join_named-assoc : (x y z : Named) → join_named (join_named x y) z ≡ join_named x (join_named y z)
join_named-assoc unnamed y z = refl
join_named-assoc differ y z = refl
join_named-assoc (only m) unnamed z = refl
join_named-assoc (only m) differ z = refl
join_named-assoc (only m) (only n) unnamed = go (eqb m n)
  where
    go : (t : Bool) → join_named (only_if t m) unnamed ≡ only_if t m
    go true = refl
    go false = refl
join_named-assoc (only m) (only n) differ = join_named-differ (only_if (eqb m n) m)
join_named-assoc (only m) (only n) (only k) = go (eqb m n) (eqb n k) refl refl
  where
    go : (t u : Bool) → eqb m n ≡ t → eqb n k ≡ u → join_named (only_if t m) (only k) ≡ join_named (only m) (only_if u n)
    go true true h j = rw (eqb-true m n h, j, eq-eqb n n refl) refl
    go true false h j = rw (eqb-true m n h, j) refl
    go false true h j = rw h refl
    go false false h j = refl

pub join_cell-comm : (x y : Cell) → join_cell x y ≡ join_cell y x
join_cell-comm (cell a b x) (cell c d y) = rw (or_comm a c, or_comm b d, join_named-comm x y)

pub join_cell-assoc : (x y z : Cell) → join_cell (join_cell x y) z ≡ join_cell x (join_cell y z)
join_cell-assoc (cell a b x) (cell c d y) (cell e i z) = rw (or_assoc a c e, or_assoc b d i, join_named-assoc x y z)

pub named-join : (x y : Cell) → named_in (join_cell x y) ≡ join_named (named_in x) (named_in y)
named-join (cell a b x) (cell c d y) = refl

-- ---- what a cell says

-- One size never differs from itself.
static_sure : (t : Bool) (m : ℕ) → named_in (cell_static t m) ≡ differ → ⊥
static_sure true m h = let w : ◌≡◌ {A = ℕ} 0 1 = cc in omega arith
static_sure false m h = let w : ◌≡◌ {A = ℕ} 0 1 = cc in omega arith

pub cell_sure : (d : Option Dim) → named_in (cell_of d) ≡ differ → ⊥
cell_sure none h = let w : ◌≡◌ {A = ℕ} 0 1 = cc in omega arith
cell_sure (some unknown) h = let w : ◌≡◌ {A = ℕ} 0 1 = cc in omega arith
cell_sure (some (static m)) h = static_sure (eqb m 1) m h

pub real_sure : (n : Option ℕ) → named_by n ≡ differ → ⊥
real_sure none h = let w : ◌≡◌ {A = ℕ} 0 1 = cc in omega arith
real_sure (some m) h = static_sure (eqb m 1) m h

-- The size is told by its cell, so that lists with the same cells are equal.
dim_of : Cell → Option Dim
dim_of (cell a b (only m)) = some (static m)
dim_of (cell a b differ) = none
dim_of (cell true true unnamed) = some unknown
dim_of (cell true false unnamed) = none
dim_of (cell false true unnamed) = some (static 1)
dim_of (cell false false unnamed) = none

dim_of-cell : (d : Option Dim) → dim_of (cell_of d) ≡ d
unfolding dim_of
dim_of-cell none = refl
dim_of-cell (some unknown) = refl
dim_of-cell (some (static m)) = go (eqb m 1) refl
  where
    go : (t : Bool) → eqb m 1 ≡ t → dim_of (cell_static t m) ≡ some (static m)
    go true h = ap (λ n. some (static n)) (sym (eqb-true m 1 h))
    go false h = refl

elements_same : (o p : List Dim) → ((i : ℕ) → get_elem? o i ≡ get_elem? p i) → o ≡ p
elements_same [] [] h = refl
elements_same [] (e ∷ p) h = let x = h 0 in let w : ◌≡◌ {A = ℕ} 0 1 = cc in absurd (omega arith)
elements_same (d ∷ o) [] h = let x = h 0 in let w : ◌≡◌ {A = ℕ} 0 1 = cc in absurd (omega arith)
elements_same (d ∷ o) (e ∷ p) h = let x = h 0 in let w : d ≡ e = cc in rw (w, elements_same o p (λ i. h (suc i)))

pub cells_same : (o p : List Dim) → ((i : ℕ) → cell_of (get_elem? o i) ≡ cell_of (get_elem? p i)) → o ≡ p
cells_same o p h = elements_same o p (λ i. sym (dim_of-cell (get_elem? o i)) ∙ ap dim_of (h i) ∙ dim_of-cell (get_elem? p i))
