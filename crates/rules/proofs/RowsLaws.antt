-- Laws about rows: they keep to the limits. A row can lengthen: of a Def without fields it is a box with [..] of Any in it, two
-- types and two deep; in all other cases it has no more types and is no deeper.
use Rattle.std.specs.Prelude.{ℕ, ◌≤◌, max, Bool, cond, List, ◌≡◌, refl, eqb}
use native.Mathlib.Omega.{arith}
use Rattle.std.proofs.Math.Bool.{true, false}
use Rattle.std.proofs.Math.Option.{Option}
use Rattle.model.specs.Types.{Shape, Scalar, plain, box_any, box_all, box_def, Fields, Ty, ty, box_of, types, depth, inside, below}
use Rattle.model.specs.Within.{ScalarWithin, RecordsWithin, Within}
use Rattle.rules.specs.Shapes.{rank}
use Rattle.rules.specs.Types.{first_field, last_field, nth_field, row_scalar, row_by, into_row, into_first_row, into_last_row, into_nth_row}
use Rattle.rules.proofs.ShapesLaws.{row_shape-within}
use Rattle.rules.proofs.FieldsLaws.{fields_within, fields-among, fields-deepest, Chooses, first_chooses, last_chooses, nth_chooses, any_ty-within}

-- ---- a type in a box

box-within : (t : Ty) → RecordsWithin t → ScalarWithin (box_of t)
box-within (ty s k) h = h

box-inside : (t : Ty) → inside (box_of t) ≡ types t
unfolding inside
box-inside (ty s k) = refl

box-below : (t : Ty) → below (box_of t) ≡ depth t
unfolding below
box-below (ty s k) = refl

-- ---- rows

module _ (choose : Fields → Ty) (chooses : Chooses choose) where
  -- what holds of a scalar, and of a box of what is chosen, holds of the row's scalar
  row_scalar-either : (P : Scalar → Type 0) (s : Shape) (k : Scalar) → P k → ((n : Option (List ℕ)) (f : Fields) → P (box_def n f) → P (box_of (choose f))) → P (row_scalar choose s k)
  unfolding row_scalar
  row_scalar-either P s (plain k) p q = p
  row_scalar-either P s box_any p q = p
  row_scalar-either P s (box_all t k) p q = p
  row_scalar-either P s (box_def n f) p q = go (eqb (rank s) 1)
    where
      go : (t : Bool) → P (cond t (box_of (choose f)) (box_def n f))
      go true = q n f p
      go false = p

  row_scalar-within : (s : Shape) (k : Scalar) → ScalarWithin k → ScalarWithin (row_scalar choose s k)
  row_scalar-within s k h = row_scalar-either ScalarWithin s k h λ n f p. box-within (choose f) (chooses RecordsWithin f (fields_within f p.2) any_ty-within)

  row_scalar-inside : (n : ℕ) (s : Shape) (k : Scalar) → 1 ≤ n → inside k ≤ n → inside (row_scalar choose s k) ≤ n
  unfolding inside
  row_scalar-inside n s k o h = row_scalar-either (λ x. inside x ≤ n) s k h λ m f p. rw (box-inside (choose f)) (chooses (λ t. types t ≤ n) f (fields-among n f p) o)

  row_scalar-below : (d : ℕ) (s : Shape) (k : Scalar) → 1 ≤ d → below k ≤ d → below (row_scalar choose s k) ≤ d
  unfolding below
  row_scalar-below d s k o h = row_scalar-either (λ x. below x ≤ d) s k h λ m f p. rw (box-below (choose f)) (chooses (λ t. depth t ≤ d) f (fields-deepest d f p) o)

  pub row-records : (t : Ty) → RecordsWithin t → RecordsWithin (row_by choose t)
  unfolding row_by
  row-records (ty s k) h = (row_shape-within s h.0, row_scalar-within s k h.1)

  pub row-types : (t : Ty) → types (row_by choose t) ≤ max 2 (types t)
  unfolding row_by
  row-types (ty s k) = let h = row_scalar-inside (max 1 (inside k)) s k (omega arith) (omega arith) in omega arith

  pub row-depth : (t : Ty) → depth (row_by choose t) ≤ max 2 (depth t)
  unfolding row_by
  row-depth (ty s k) = let h = row_scalar-below (max 1 (below k)) s k (omega arith) (omega arith) in omega arith

  pub row_within : (t : Ty) → Within t → Within (row_by choose t)
  row_within t w =
      let a = row-types t in
      let b = row-depth t in
      let c = w.few in
      let d = w.shallow in
      record { records = row-records t w.records; few = omega arith; shallow = omega arith }

pub into_row-within : (t : Ty) → Within t → Within (into_row t)
into_row-within = row_within first_field first_chooses

pub into_first_row-within : (t : Ty) → Within t → Within (into_first_row t)
into_first_row-within = row_within first_field first_chooses

pub into_last_row-within : (t : Ty) → Within t → Within (into_last_row t)
into_last_row-within = row_within last_field last_chooses

pub into_nth_row-within : (n : ℕ) (t : Ty) → Within t → Within (into_nth_row n t)
into_nth_row-within n = row_within (nth_field n) (nth_chooses n)
