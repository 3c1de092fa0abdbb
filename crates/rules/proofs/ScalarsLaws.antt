-- Laws about scalars: a scalar is a superset of itself and compatible with itself; a union is one of the two or a plain Any or a
-- box Any, so it passes no limit that both keep; unrefining twice is unrefining once, and changes no count, depth or limit.
use Rattle.std.specs.Prelude.{ℕ, ◌≤◌, Bool, ◌&&◌, cond, ◌≡◌, refl}
use Rattle.std.proofs.Common.{arith, ap, eq-eqb}
use Rattle.std.proofs.Math.Bool.{true, false, or-true}
use Rattle.model.specs.Types.{Kind, bool, nat, int, num, complex, ascii, char, stream, any, Scalar, plain, box_any, box_all, box_def, Fields, no_fields, field, ty, box_of, field_count, inside, among, below, deepest}
use Rattle.model.specs.Within.{ScalarWithin, FieldsWithin}
use Rattle.rules.specs.Shapes.{compatible_shapes}
use Rattle.rules.specs.Order.{code_of, compare}
use Rattle.rules.specs.Scalars.{superset_codes, compatible_codes, superset_of, compatible_scalars, compatible_with_boxes, wider, later_ty, union, unrefine_kind, unrefine, unrefine_fields}
use Rattle.rules.proofs.SizesLaws.{later_by-either}
use Rattle.rules.proofs.CompatibleLaws.{compatible_shapes-refl}

-- ---- superset and compatible

pub superset_codes-refl : (k : ℕ) → superset_codes k k ≡ true
unfolding superset_codes
superset_codes-refl k = simp (eq-eqb k k refl, or-true)

pub superset_of-refl : (k : Scalar) → superset_of k k ≡ true
unfolding superset_of
superset_of-refl k = superset_codes-refl (code_of k)

pub compatible_scalars-refl : (k : Scalar) → compatible_scalars k k ≡ true
unfolding compatible_scalars compatible_codes
compatible_scalars-refl k = rw (superset_codes-refl (code_of k))

pub compatible_with_boxes-refl : (k : Scalar) → compatible_with_boxes k k ≡ true
unfolding compatible_with_boxes
compatible_with_boxes-refl (plain k) = compatible_scalars-refl (plain k)
compatible_with_boxes-refl box_any = compatible_scalars-refl box_any
compatible_with_boxes-refl (box_all s k) = rw (compatible_with_boxes-refl k, compatible_shapes-refl s)
compatible_with_boxes-refl (box_def n f) = compatible_scalars-refl (box_def n f)

-- ---- union

module _ {κ} (P : Scalar → Type κ) where
  wider-either : (k l : Scalar) → P k → P l → P (plain any) → P (wider k l)
  wider-either k l p q r = go (superset_of k l) (superset_of l k)
    where
      go : (t u : Bool) → P (cond t k (cond u l (plain any)))
      go true u = p
      go false true = q
      go false false = r

  -- What holds of both, of Any and of box Any, holds of the union.
  pub union-either : (k l : Scalar) → P k → P l → P (plain any) → P box_any → P (union k l)
  unfolding union
  union-either (plain k) l p q r b = wider-either (plain k) l p q r
  union-either box_any l p q r b = wider-either box_any l p q r
  union-either (box_def n f) l p q r b = wider-either (box_def n f) l p q r
  union-either (box_all s k) (plain l) p q r b = wider-either (box_all s k) (plain l) p q r
  union-either (box_all s k) box_any p q r b = wider-either (box_all s k) box_any p q r
  union-either (box_all s k) (box_def n g) p q r b = wider-either (box_all s k) (box_def n g) p q r
  union-either (box_all s k) (box_all t l) p q r b = go (compatible_with_boxes k l && compatible_shapes s t)
    where
      go : (c : Bool) → P (cond c (box_of (later_ty (ty s k) (ty t l))) box_any)
      go true = later_by-either (λ u. P (box_of u)) (compare (ty s k) (ty t l)) (ty s k) (ty t l) p q
      go false = b

pub union-within : (k l : Scalar) → ScalarWithin k → ScalarWithin l → ScalarWithin (union k l)
union-within k l h j = union-either ScalarWithin k l h j tt tt

-- no more types inside, and no deeper
pub union-inside : (n : ℕ) (k l : Scalar) → inside k ≤ n → inside l ≤ n → inside (union k l) ≤ n
unfolding inside
union-inside n k l h j = union-either (λ x. inside x ≤ n) k l h j (omega arith) (omega arith)

pub union-below : (d : ℕ) (k l : Scalar) → below k ≤ d → below l ≤ d → below (union k l) ≤ d
unfolding below
union-below d k l h j = union-either (λ x. below x ≤ d) k l h j (omega arith) (omega arith)

pub union_idem : (k : Scalar) → union k k ≡ k
unfolding union
union_idem (plain k) = rw (superset_of-refl (plain k))
union_idem box_any = rw (superset_of-refl box_any)
union_idem (box_def n f) = rw (superset_of-refl (box_def n f))
union_idem (box_all s k) = rw (compatible_with_boxes-refl k, compatible_shapes-refl s) (later_by-either (λ u. box_of u ≡ box_all s k) (compare (ty s k) (ty s k)) (ty s k) (ty s k) refl refl)

-- ---- unrefine

unrefine_kind_idem : (k : Kind) → unrefine_kind (unrefine_kind k) ≡ unrefine_kind k
unfolding unrefine_kind
unrefine_kind_idem bool = refl
unrefine_kind_idem nat = refl
unrefine_kind_idem int = refl
unrefine_kind_idem num = refl
unrefine_kind_idem complex = refl
unrefine_kind_idem ascii = refl
unrefine_kind_idem char = refl
unrefine_kind_idem stream = refl
unrefine_kind_idem any = refl

mutual
  unfolding unrefine

  pub unrefine_idem : (k : Scalar) → unrefine (unrefine k) ≡ unrefine k
  unrefine_idem (plain k) = ap plain (unrefine_kind_idem k)
  unrefine_idem box_any = refl
  unrefine_idem (box_all s k) = rw (unrefine_idem k)
  unrefine_idem (box_def n f) = rw (unrefine_fields_idem f)

  pub unrefine_fields_idem : (f : Fields) → unrefine_fields (unrefine_fields f) ≡ unrefine_fields f
  unrefine_fields_idem no_fields = refl
  unrefine_fields_idem (field s k f) = rw (unrefine_idem k, unrefine_fields_idem f)

mutual
  unfolding unrefine inside

  pub unrefine-inside : (k : Scalar) → inside (unrefine k) ≡ inside k
  unrefine-inside (plain k) = refl
  unrefine-inside box_any = refl
  unrefine-inside (box_all s k) = rw (unrefine-inside k)
  unrefine-inside (box_def n f) = unrefine-among f

  pub unrefine-among : (f : Fields) → among (unrefine_fields f) ≡ among f
  unrefine-among no_fields = refl
  unrefine-among (field s k f) = rw (unrefine-inside k, unrefine-among f)

mutual
  unfolding unrefine below

  pub unrefine-below : (k : Scalar) → below (unrefine k) ≡ below k
  unrefine-below (plain k) = refl
  unrefine-below box_any = refl
  unrefine-below (box_all s k) = rw (unrefine-below k)
  unrefine-below (box_def n f) = unrefine-deepest f

  pub unrefine-deepest : (f : Fields) → deepest (unrefine_fields f) ≡ deepest f
  unrefine-deepest no_fields = refl
  unrefine-deepest (field s k f) = rw (unrefine-below k, unrefine-deepest f)

pub unrefine-field_count : (f : Fields) → field_count (unrefine_fields f) ≡ field_count f
unfolding unrefine_fields
unrefine-field_count no_fields = refl
unrefine-field_count (field s k f) = rw (unrefine-field_count f)

mutual
  unfolding unrefine

  pub unrefine-within : (k : Scalar) → ScalarWithin k → ScalarWithin (unrefine k)
  unrefine-within (plain k) h = tt
  unrefine-within box_any h = tt
  unrefine-within (box_all s k) h = (h.0, unrefine-within k h.1)
  unrefine-within (box_def n f) h = (h.0, rw (unrefine-field_count f) h.1, unrefine_fields-within f h.2)

  pub unrefine_fields-within : (f : Fields) → FieldsWithin f → FieldsWithin (unrefine_fields f)
  unrefine_fields-within no_fields h = tt
  unrefine_fields-within (field s k f) h = (h.0, unrefine-within k h.1, unrefine_fields-within f h.2)
