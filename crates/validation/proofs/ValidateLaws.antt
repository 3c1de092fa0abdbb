-- Laws about validation on whole types: the shape of what is accepted; that it keeps to the limits, so that what validation writes
-- can be read and 4,992 bytes suffice for it.
use Rattle.std.specs.Prelude.{ℕ, ◌≤◌, true, ◌≡◌, length, leb}
use Rattle.std.proofs.Common.{arith, sym, ◌∙◌, le-leb, leb-true}
use Rattle.std.proofs.Math.Option.{none, some}
use Rattle.model.specs.Limits.{max_types, max_depth, max_bytes}
use Rattle.model.specs.Types.{Shape, Scalar, Ty, ty, shape_of, types, depth}
use Rattle.model.specs.Within.{Within}
use Rattle.format.specs.Records.{write_ty}
use Rattle.format.specs.Outcome.{accepted, lone}
use Rattle.format.specs.WriteRead.{write_lone}
use Rattle.format.specs.Suffices.{suffices}
use Rattle.rules.specs.Shapes.{merge_from}
use Rattle.validation.specs.CheckShape.{Side, unsided, shape_mismatch, sided_shape, check_shape}
use Rattle.validation.specs.AsFields.{keeps_limits}
use Rattle.validation.specs.CheckScalar.{check_scalar}
use Rattle.validation.specs.Validate.{outermost, validate, check_scalar_only, check_shape_only}
use Rattle.validation.proofs.OutcomeLaws.{both_true, mapped-accepted, in_turn-accepted}
use Rattle.validation.proofs.CheckShapeLaws.{check_shape-accepted, check_shape-within}
use Rattle.validation.proofs.RecordsLaws.{check_scalar-records}
use Rattle.validation.proofs.KeepsLaws.{Counts, check_scalar-keeps}

-- ---- the shape

-- An accepted type has the merged shape, for each side.
pub validate-merged : (side : Side) (s t u : Ty) → validate side s t ≡ accepted u → shape_of u ≡ merge_from (shape_of t) (sided_shape side (shape_of s))
unfolding validate
validate-merged side (ty s k) (ty t l) u e =
    in_turn-accepted (check_scalar k (outermost t) t l) (check_shape side s t) e λ x v e₁ e₂ w.
    check_shape-accepted side s t e₂ λ m y.
    rw (← w) (sym y)

-- The shapes were no mismatch.
pub validate_match : (side : Side) (s t u : Ty) → validate side s t ≡ accepted u → shape_mismatch side (shape_of s) (shape_of t) ≡ none
unfolding validate
validate_match side (ty s k) (ty t l) u e =
    in_turn-accepted (check_scalar k (outermost t) t l) (check_shape side s t) e λ x v e₁ e₂ w.
    check_shape-accepted side s t e₂ λ m y.
    m

pub validate-mismatch : (side : Side) (s t u : Ty) {n : ℕ} → shape_mismatch side (shape_of s) (shape_of t) ≡ some n → validate side s t ≡ accepted u → ⊥
validate-mismatch side s t u {n} h e = let q : none ≡ some n = sym (validate_match side s t u e) ∙ h in let z : ◌≡◌ {A = ℕ} 0 1 = cc in absurd (omega arith)

-- Without a side, the spec's shape itself is merged.
pub validate-shape : (s t u : Ty) → validate unsided s t ≡ accepted u → shape_of u ≡ merge_from (shape_of t) (shape_of s)
unfolding sided_shape
validate-shape s t u e = validate-merged unsided s t u e

-- ---- the limits

pub keeps_limits-true : (t : Ty) → keeps_limits t ≡ true → (types t ≤ max_types) × (depth t ≤ max_depth)
unfolding keeps_limits
keeps_limits-true t h =
    let r = both_true (leb (types t) max_types) (leb (depth t) max_depth) h in
    (leb-true (types t) max_types r.0, leb-true (depth t) max_depth r.1)

pub within-keeps_limits : (t : Ty) → Within t → keeps_limits t ≡ true
unfolding keeps_limits
within-keeps_limits t w = rw (le-leb (types t) max_types w.few, le-leb (depth t) max_depth w.shallow)

pub outermost-counts : (t : Shape) → Counts (outermost t)
unfolding keeps_limits
outermost-counts t x y h j = rw (h, j)

-- the scalar of a type, checked
scalar-within : (s : Shape) (k : Scalar) (t : Shape) (l x : Scalar) → Within (ty s k) → Within (ty t l) → check_scalar k (outermost t) t l ≡ accepted x → Within (ty t x)
scalar-within s k t l x v w e =
    let r = keeps_limits-true (ty t x) (check_scalar-keeps k (outermost t) (outermost-counts t) t l x (within-keeps_limits (ty t l) w) e) in
    record {
      records = (w.records.0, check_scalar-records k v.records.1 (outermost t) t l x w.records.1 e);
      few = r.0;
      shallow = r.1;
    }

pub check_scalar_only-within : (s t u : Ty) → Within s → Within t → check_scalar_only s t ≡ accepted u → Within u
unfolding check_scalar_only
check_scalar_only-within (ty s k) (ty t l) u v w e =
    mapped-accepted (ty t) (check_scalar k (outermost t) t l) e λ x e₁ y.
    rw (← y) (scalar-within s k t l x v w e₁)

pub check_shape_only-within : (side : Side) (s t u : Ty) → Within s → Within t → check_shape_only side s t ≡ accepted u → Within u
unfolding check_shape_only
check_shape_only-within side (ty s k) (ty t l) u v w e =
    mapped-accepted (λ r. ty r l) (check_shape side s t) e λ r e₁ y.
    rw (← y) record {
      records = (check_shape-within side s t r v.records.0 w.records.0 e₁, w.records.1);
      few = w.few;
      shallow = w.shallow;
    }

pub validate-within : (side : Side) (s t u : Ty) → Within s → Within t → validate side s t ≡ accepted u → Within u
unfolding validate
validate-within side (ty s k) (ty t l) u v w e =
    in_turn-accepted (check_scalar k (outermost t) t l) (check_shape side s t) e λ x r e₁ e₂ y.
    let h = scalar-within s k t l x v w e₁ in
    rw (← y) record {
      records = (check_shape-within side s t r v.records.0 w.records.0 e₂, h.records.1);
      few = h.few;
      shallow = h.shallow;
    }

-- ---- the bytes

-- What validation writes can be read, and 4,992 bytes suffice for it.
pub validate-written : (side : Side) (s t u : Ty) → Within s → Within t → validate side s t ≡ accepted u → (lone (write_ty u) ≡ accepted u) × (length (write_ty u) ≤ max_bytes)
validate-written side s t u v w e = let h = validate-within side s t u v w e in (write_lone u h, suffices u h)
