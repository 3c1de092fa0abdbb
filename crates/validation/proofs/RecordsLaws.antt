-- Laws about `check_scalar`: every record of what it accepts keeps to the limits, the number of a Def's fields among them, if every
-- record of the spec and of the type did.
use Prim.Native.Nat.{ℕ, suc}
use Rattle.std.proofs.Common.{arith, leb-true}
use Rattle.std.specs.Prelude.{Bool, true, false, cond, List, ◌≡◌, refl, eqb, leb}
use Rattle.std.proofs.Math.Option.{Option, none, some}
use Rattle.std.proofs.Math.Path.{ap}
use Rattle.model.specs.Limits.{max_fields}
use Rattle.model.specs.Refusals.{too_many}
use Rattle.model.specs.Types.{Shape, any, Scalar, plain, box_any, box_all, box_def, Fields, no_fields, field, Ty, ty, field_of, field_count}
use Rattle.model.specs.Within.{Each, NameWithin, ShapeWithin, ScalarWithin, FieldsWithin, RecordsWithin}
use Rattle.format.specs.Records.{code}
use Rattle.format.specs.Outcome.{accepted}
use Rattle.rules.specs.Types.{any_ty, copies}
use Rattle.rules.proofs.FieldsLaws.{any_ty-within, copies-count, copies-within}
use Rattle.validation.specs.CheckShape.{unsided, check_shape}
use Rattle.validation.specs.AsFields.{measured, fields_for, as_box, copied, or_name, named, as_fields}
use Rattle.validation.specs.CheckScalar.{superset, Content, Contents, each_field, on_all, on_def, check_scalar, check_fields}
use Rattle.validation.proofs.CheckShapeLaws.{check_shape-within}
use Rattle.validation.proofs.OutcomeLaws.{was_true, measured-accepted, superset-accepted, any-accepted, then_accepted, mapped-accepted, box-accepted, field-accepted}

-- ---- `as_mut_fields`

copied-records : (keeps : Scalar → Bool) (name : List ℕ) (n : ℕ) (t : Ty) (x : Scalar) → NameWithin name → RecordsWithin t → copied keeps name n t ≡ accepted x → ScalarWithin x
unfolding copied
copied-records keeps name n t x h j e =
    was_true (leb n max_fields) (measured keeps (box_def (some name) (copies n t))) too_many 0 e λ l e₁.
    measured-accepted keeps (box_def (some name) (copies n t)) e₁ λ _ w.
    rw (← w) (h, omega (arith, copies-count n t, leb-true n max_fields l), copies-within n t j)

or_name-within : (m : Option (List ℕ)) (name : List ℕ) → Each NameWithin m → NameWithin name → NameWithin (or_name m name)
or_name-within none name h j = j
or_name-within (some m) name h j = h

named-records : (keeps : Scalar → Bool) (name : List ℕ) (n : ℕ) (l x : Scalar) → NameWithin name → ScalarWithin l → named keeps name n l ≡ accepted x → ScalarWithin x
unfolding named
named-records keeps name n (plain k) x h j e = let w : plain k ≡ x = cc in rw (← w) tt
named-records keeps name n box_any x h j e = copied-records keeps name n any_ty x h any_ty-within e
named-records keeps name n (box_all s k) x h j e = copied-records keeps name n (ty s k) x h j e
named-records keeps name n (box_def m f) x h j e = let w : box_def (some (or_name m name)) f ≡ x = cc in rw (← w) (or_name-within m name j.0 h, j.1, j.2)

as_box-within : (l : Scalar) → ScalarWithin l → ScalarWithin (as_box l)
unfolding as_box
as_box-within (plain k) h = go (eqb (code k) (code any))
  where
    go : (t : Bool) → ScalarWithin (cond t box_any (plain k))
    go true = tt
    go false = tt
as_box-within box_any h = h
as_box-within (box_all s k) h = h
as_box-within (box_def n f) h = h

as_fields-records : (keeps : Scalar → Bool) (name : Option (List ℕ)) (n : ℕ) (t : Shape) (l x : Scalar) → Each NameWithin name → ScalarWithin l → as_fields keeps name n t l ≡ accepted x → ScalarWithin x
unfolding as_fields
as_fields-records keeps none n t l x h j e = let w : l ≡ x = cc in rw (← w) j
as_fields-records keeps (some name) n t l x h j e = named-records keeps name (fields_for t n) (as_box l) x h (as_box-within l j) e

-- ---- boxes, whatever validates their contents

abbrev RecordsKept : Content → Type 0
RecordsKept content = (keeps : Scalar → Bool) (t : Shape) (l x : Scalar) → ScalarWithin l → content keeps t l ≡ accepted x → ScalarWithin x

module _ (content : Content) (kept : RecordsKept content) (s : Shape) (hs : ShapeWithin s) where
  each_field-records : (keeps : Fields → Bool) (g h : Fields) → FieldsWithin g → each_field content s keeps g ≡ accepted h → FieldsWithin h × (field_count h ≡ field_count g)
  unfolding each_field
  each_field-records keeps no_fields h j e = let w : no_fields ≡ h = cc in rw (← w) (tt, refl)
  each_field-records keeps (field t l g) h j e =
      field-accepted (content (λ x. keeps (field t x g)) t l) (check_shape unsided s t) (λ r. each_field content s (λ f. keeps (field_of r f)) g) e λ x v f (e₁, e₂, e₃, w).
      let r = each_field-records (λ f. keeps (field v x f)) g f j.2 e₃ in
      rw (← w) ((check_shape-within unsided s t v hs j.0 e₂, kept (λ x. keeps (field t x g)) t l x j.1 e₁, r.0), ap suc r.1)

  on_all-records : (k : Scalar) → ScalarWithin k → (keeps : Scalar → Bool) (l x : Scalar) → ScalarWithin l → on_all content s k keeps l ≡ accepted x → ScalarWithin x
  unfolding on_all
  on_all-records k hk keeps (plain l) x j e = superset-accepted (box_all s k) (plain l) e λ _ w. rw (← w) tt
  on_all-records k hk keeps box_any x j e = measured-accepted keeps (box_all s k) e λ _ w. rw (← w) (hs, hk)
  on_all-records k hk keeps (box_all t l) x j e =
      box-accepted (content (λ y. keeps (box_all t y)) t l) (check_shape unsided s t) e λ y v e₁ e₂ w.
      rw (← w) (check_shape-within unsided s t v hs j.0 e₂, kept (λ y. keeps (box_all t y)) t l y j.1 e₁)
  on_all-records k hk keeps (box_def m g) x j e =
      mapped-accepted (box_def m) (each_field content s (λ f. keeps (box_def m f)) g) e λ h e₁ w.
      let r = each_field-records (λ f. keeps (box_def m f)) g h j.2 e₁ in
      rw (← w) (j.0, rw r.1 j.1, r.0)

abbrev FieldsKept : Contents → Type 0
FieldsKept contents = (keeps : Fields → Bool) (g h : Fields) → FieldsWithin g → contents keeps g ≡ accepted h → FieldsWithin h × (field_count h ≡ field_count g)

module _ (contents : Contents) (kept : FieldsKept contents) (n : Option (List ℕ)) (f : Fields) (hf : ScalarWithin (box_def n f)) where
  on_def-records : (keeps : Scalar → Bool) (l x : Scalar) → ScalarWithin l → on_def contents n f keeps l ≡ accepted x → ScalarWithin x
  unfolding on_def
  on_def-records keeps (plain l) x j e = superset-accepted (box_def n f) (plain l) e λ _ w. rw (← w) tt
  on_def-records keeps box_any x j e = measured-accepted keeps (box_def n f) e λ _ w. rw (← w) hf
  on_def-records keeps (box_all t l) x j e = let w : box_all t l ≡ x = cc in rw (← w) j
  on_def-records keeps (box_def m g) x j e =
      mapped-accepted (box_def m) (contents (λ h. keeps (box_def m h)) g) e λ h e₁ w.
      let r = kept (λ h. keeps (box_def m h)) g h j.2 e₁ in
      rw (← w) (j.0, rw r.1 j.1, r.0)

-- ---- `check_scalar`

mutual
  unfolding check_scalar

  pub check_scalar-records : (k : Scalar) → ScalarWithin k → (keeps : Scalar → Bool) (t : Shape) (l x : Scalar) → ScalarWithin l → check_scalar k keeps t l ≡ accepted x → ScalarWithin x
  check_scalar-records (plain k) h keeps t l x j e =
      any-accepted keeps (plain k) t l (superset (plain k) l) e (λ _ _ w. rw (← w) tt) λ _ e₁.
      superset-accepted (plain k) l e₁ λ _ w. rw (← w) j
  check_scalar-records box_any h keeps t l x j e =
      any-accepted keeps box_any t l (superset box_any l) e (λ _ _ w. rw (← w) tt) λ _ e₁.
      superset-accepted box_any l e₁ λ _ w. rw (← w) j
  check_scalar-records (box_all s k) h keeps t l x j e =
      any-accepted keeps (box_all s k) t l (on_all (λ c u y. check_scalar k c u y) s k keeps l) e (λ _ _ w. rw (← w) h) λ _ e₁.
      on_all-records (λ c u y. check_scalar k c u y) (λ c u y z i d. check_scalar-records k h.1 c u y z i d) s h.0 k h.1 keeps l x j e₁
  check_scalar-records (box_def n f) h keeps t l x j e =
      any-accepted keeps (box_def n f) t l _ e (λ _ _ w. rw (← w) h) λ _ e₁.
      then_accepted (as_fields keeps n (field_count f) t l) (λ y. on_def (λ c g. check_fields f c g) n f keeps y) e₁ λ y e₂ e₃.
      on_def-records (λ c g. check_fields f c g) (λ c g g' i d. check_fields-records f h.2 c g g' i d) n f h keeps y x (as_fields-records keeps n (field_count f) t l y h.0 j e₂) e₃

  check_fields-records : (f : Fields) → FieldsWithin f → (keeps : Fields → Bool) (g h : Fields) → FieldsWithin g → check_fields f keeps g ≡ accepted h → FieldsWithin h × (field_count h ≡ field_count g)
  check_fields-records no_fields i keeps g h j e = let w : g ≡ h = cc in rw (← w) (j, refl)
  check_fields-records (field s k f) i keeps no_fields h j e = let w : no_fields ≡ h = cc in rw (← w) (tt, refl)
  check_fields-records (field s k f) i keeps (field t l g) h j e =
      field-accepted (check_scalar k (λ x. keeps (field t x g)) t l) (check_shape unsided s t) (λ r. check_fields f (λ q. keeps (field_of r q)) g) e λ x v q (e₁, e₂, e₃, w).
      let r = check_fields-records f i.2 (λ q. keeps (field v x q)) g q j.2 e₃ in
      rw (← w) ((check_shape-within unsided s t v i.0 j.0 e₂, check_scalar-records k i.1 (λ x. keeps (field t x g)) t l x j.1 e₁, r.0), ap suc r.1)
