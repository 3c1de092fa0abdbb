-- Laws about pervading in sheets: with no side filled it is that of the separate call; filled or not, it refuses where that refuses; it
-- keeps to the limits; and the two sides may change places together with their fills.
use Rattle.std.specs.Prelude.{ℕ, Bool, true, false, not, ◌&&◌, ◌||◌, cond, List, ◌↔◌, ◌≡◌, refl, eqb}
use Rattle.std.proofs.Common.{arith, sym, ◌∙◌}
use Rattle.std.proofs.Math.Bool.{or_comm}
use Rattle.std.proofs.Math.Option.{Option, none, some}
use Rattle.model.specs.Types.{Dim, static, unknown, Shape, shape}
use Rattle.model.specs.Within.{Each, DimWithin, ShapeWithin}
use Rattle.rules.specs.Shapes.{is_open}
use Rattle.rules.specs.Pervade.{pervade_at, clash, walk, pervade_dims, pervade}
use Rattle.rules.specs.PervadeInSheets.{may_grow, in_sheets_at, pervade_in_sheets}
use Rattle.rules.proofs.PervadeLaws.{together-unknown, together-comm, walk-clash-alike, KeepsWithin, pervade_at-within, walk-within, pervade_at-comm, walk-comm, pervade_closing-comm}

-- ---- no side filled

pub in_sheets_unfilled : (s t : Shape) → pervade_in_sheets false false s t ≡ pervade false false s t
unfolding in_sheets_at pervade_in_sheets pervade
in_sheets_unfilled (shape o c) (shape p d) = refl

-- ---- where it refuses

-- Where a size may grow, what it meets is not static, and there the separate call refuses nothing.
grows-gives : (f g b : Bool) (x y : Option Dim) → may_grow f b x y ≡ true → pervade_at f g x y ≡ none → ⊥
grows-gives false g b x y h e = let z : ◌≡◌ {A = ℕ} 0 1 = cc in absurd (omega arith)
grows-gives true g b none y h e = let z : ◌≡◌ {A = ℕ} 0 1 = cc in absurd (omega arith)
grows-gives true g b (some unknown) y h e = let z : ◌≡◌ {A = ℕ} 0 1 = cc in absurd (omega arith)
grows-gives true g b (some (static m)) none h e = let z : ◌≡◌ {A = ℕ} 0 1 = cc in absurd (omega arith)
grows-gives true g b (some (static m)) (some unknown) h e =
    let v = together-unknown g true (static m) in
    let u = together-comm true g (static m) unknown in
    let z : ◌≡◌ {A = ℕ} 0 1 = cc in absurd (omega arith)
grows-gives true g b (some (static m)) (some (static n)) h e = go (eqb m 1) h
  where
    go : (t : Bool) → not t && false ≡ true → ⊥
    go true h = let z : ◌≡◌ {A = ℕ} 0 1 = cc in absurd (omega arith)
    go false h = let z : ◌≡◌ {A = ℕ} 0 1 = cc in absurd (omega arith)

-- An index refuses in a sheet exactly where it refuses in the separate call.
index-refuses : (f g a b : Bool) (x y : Option Dim) → (in_sheets_at f g a b x y ≡ none) ↔ (pervade_at f g x y ≡ none)
unfolding in_sheets_at
index-refuses f g a b x y = (there (may_grow f b x y || may_grow g a y x), here (may_grow f b x y) (may_grow g a y x) refl refl)
  where
    there : (t : Bool) → cond t (some unknown) (pervade_at f g x y) ≡ none → pervade_at f g x y ≡ none
    there true e = let z : ◌≡◌ {A = ℕ} 0 1 = cc in absurd (omega arith)
    there false e = e

    here : (t u : Bool) → may_grow f b x y ≡ t → may_grow g a y x ≡ u → pervade_at f g x y ≡ none → cond (t || u) (some unknown) (pervade_at f g x y) ≡ none
    here true u h k e = absurd (grows-gives f g b x y h e)
    here false true h k e = absurd (grows-gives g f a y x k (sym (pervade_at-comm f g x y) ∙ e))
    here false false h k e = e

-- So both stop at the same index.
pub in_sheets_clash : (f g a b : Bool) (o p : List Dim) (i : ℕ) → (walk (in_sheets_at f g a b) o p ≡ clash i) ↔ (pervade_dims f g o p ≡ clash i)
in_sheets_clash f g a b o p i = (
  walk-clash-alike (in_sheets_at f g a b) (pervade_at f g) (index-refuses f g a b) o p i,
  walk-clash-alike (pervade_at f g) (in_sheets_at f g a b) (λ x y. let (h, k) = index-refuses f g a b x y in (k, h)) o p i,
)

-- ---- limits

in_sheets_at-within : (f g a b : Bool) → KeepsWithin (in_sheets_at f g a b)
unfolding in_sheets_at
in_sheets_at-within f g a b x y h k = go (may_grow f b x y || may_grow g a y x)
  where
    go : (t : Bool) → Each DimWithin (cond t (some unknown) (pervade_at f g x y))
    go true = tt
    go false = pervade_at-within f g x y h k

pub in_sheets_within : (f g : Bool) (s t : Shape) → ShapeWithin s → ShapeWithin t → Each ShapeWithin (pervade_in_sheets f g s t)
unfolding pervade_in_sheets
in_sheets_within f g (shape o c) (shape p d) h k = walk-within (in_sheets_at f g (is_open c) (is_open d)) (in_sheets_at-within f g (is_open c) (is_open d)) o p c d h k

-- ---- the two sides

pub in_sheets_at-comm : (f g a b : Bool) (x y : Option Dim) → in_sheets_at f g a b x y ≡ in_sheets_at g f b a y x
unfolding in_sheets_at
in_sheets_at-comm f g a b x y = rw (or_comm (may_grow f b x y) (may_grow g a y x), pervade_at-comm f g x y)

pub in_sheets_comm : (f g : Bool) (s t : Shape) → pervade_in_sheets f g s t ≡ pervade_in_sheets g f t s
unfolding pervade_in_sheets
in_sheets_comm f g (shape o c) (shape p d) =
    rw (walk-comm (in_sheets_at f g (is_open c) (is_open d)) (in_sheets_at g f (is_open d) (is_open c)) (in_sheets_at-comm f g (is_open c) (is_open d)) o p, pervade_closing-comm c d)
