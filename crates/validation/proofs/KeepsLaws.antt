-- Laws about `check_scalar` and the limits: if the outermost type kept to them before, it keeps to them with what is accepted in its
-- place. All that is asked of the measure is that it goes by the number of types inside and by the depth.
use Rattle.std.specs.Prelude.{ℕ, suc, Bool, true, false, cond, List, ◌≡◌, refl, eqb, leb}
use Rattle.std.proofs.Math.Option.{Option, none, some}
use Rattle.std.proofs.Common.{◌∙◌, ap}
use Rattle.model.specs.Limits.{max_fields}
use Rattle.model.specs.Refusals.{too_many}
use Rattle.model.specs.Types.{Shape, any, Scalar, plain, box_any, box_all, box_def, Fields, no_fields, field, Ty, ty, field_of, field_count, inside, among, below, deepest}
use Rattle.format.specs.Records.{code}
use Rattle.format.specs.Outcome.{accepted}
use Rattle.rules.specs.Types.{any_ty, copies}
use Rattle.validation.specs.CheckShape.{unsided, check_shape}
use Rattle.validation.specs.AsFields.{measured, fields_for, as_box, copied, or_name, named, as_fields}
use Rattle.validation.specs.CheckScalar.{superset, Content, Contents, each_field, on_all, on_def, check_scalar, check_fields}
use Rattle.validation.proofs.OutcomeLaws.{was_true, measured-accepted, superset-accepted, any-accepted, then_accepted, mapped-accepted, box-accepted, field-accepted}

-- ---- a measure goes by count and depth

abbrev pub Counts : (Scalar → Bool) → Type 0
Counts keeps = (x y : Scalar) → inside x ≡ inside y → below x ≡ below y → keeps x ≡ keeps y

abbrev pub FieldsCount : (Fields → Bool) → Type 0
FieldsCount keeps = (f g : Fields) → among f ≡ among g → deepest f ≡ deepest g → keeps f ≡ keeps g

in_all : (keeps : Scalar → Bool) → Counts keeps → (t : Shape) → Counts (λ x. keeps (box_all t x))
unfolding inside below
in_all keeps c t x y h j = c (box_all t x) (box_all t y) (ap suc h) (ap suc j)

in_def : (keeps : Scalar → Bool) → Counts keeps → (m : Option (List ℕ)) → FieldsCount (λ f. keeps (box_def m f))
unfolding inside below
in_def keeps c m f g h j = c (box_def m f) (box_def m g) h j

at_field : (keeps : Fields → Bool) → FieldsCount keeps → (t : Shape) (g : Fields) → Counts (λ x. keeps (field t x g))
unfolding among deepest
at_field keeps c t g x y h j = c (field t x g) (field t y g) (rw h) (rw j)

past-field : (keeps : Fields → Bool) → FieldsCount keeps → (t : Shape) (x : Scalar) → FieldsCount (λ g. keeps (field t x g))
unfolding among deepest
past-field keeps c t x f g h j = c (field t x f) (field t x g) (rw h) (rw j)

-- another shape weighs the same
reshaped : (keeps : Scalar → Bool) → Counts keeps → (s t : Shape) (x : Scalar) → keeps (box_all s x) ≡ keeps (box_all t x)
unfolding inside below
reshaped keeps c s t x = c (box_all s x) (box_all t x) refl refl

reshaped-field : (keeps : Fields → Bool) → FieldsCount keeps → (s t : Shape) (x : Scalar) (g : Fields) → keeps (field s x g) ≡ keeps (field t x g)
unfolding among deepest
reshaped-field keeps c s t x g = c (field s x g) (field t x g) refl refl

-- ---- `as_mut_fields`

copied-keeps : (keeps : Scalar → Bool) (name : List ℕ) (n : ℕ) (t : Ty) (x : Scalar) → copied keeps name n t ≡ accepted x → keeps x ≡ true
unfolding copied
copied-keeps keeps name n t x e =
    was_true (leb n max_fields) (measured keeps (box_def (some name) (copies n t))) too_many 0 e λ _ e₁.
    measured-accepted keeps (box_def (some name) (copies n t)) e₁ λ h w.
    rw (← w) h

as_box-keeps : (keeps : Scalar → Bool) → Counts keeps → (l : Scalar) → keeps (as_box l) ≡ keeps l
unfolding as_box inside below
as_box-keeps keeps c (plain k) = go (eqb (code k) (code any))
  where
    go : (t : Bool) → keeps (cond t box_any (plain k)) ≡ keeps (plain k)
    go true = c box_any (plain k) refl refl
    go false = refl
as_box-keeps keeps c box_any = refl
as_box-keeps keeps c (box_all s k) = refl
as_box-keeps keeps c (box_def n f) = refl

named-keeps : (keeps : Scalar → Bool) → Counts keeps → (name : List ℕ) (n : ℕ) (l x : Scalar) → keeps l ≡ true → named keeps name n l ≡ accepted x → keeps x ≡ true
unfolding named inside below
named-keeps keeps c name n (plain k) x h e = let w : plain k ≡ x = cc in rw (← w) h
named-keeps keeps c name n box_any x h e = copied-keeps keeps name n any_ty x e
named-keeps keeps c name n (box_all s k) x h e = copied-keeps keeps name n (ty s k) x e
named-keeps keeps c name n (box_def m f) x h e = let w : box_def (some (or_name m name)) f ≡ x = cc in rw (← w) (c (box_def (some (or_name m name)) f) (box_def m f) refl refl ∙ h)

pub as_fields-keeps : (keeps : Scalar → Bool) → Counts keeps → (name : Option (List ℕ)) (n : ℕ) (t : Shape) (l x : Scalar) → keeps l ≡ true → as_fields keeps name n t l ≡ accepted x → keeps x ≡ true
unfolding as_fields
as_fields-keeps keeps c none n t l x h e = let w : l ≡ x = cc in rw (← w) h
as_fields-keeps keeps c (some name) n t l x h e = named-keeps keeps c name (fields_for t n) (as_box l) x (as_box-keeps keeps c l ∙ h) e

-- ---- boxes, whatever validates their contents

abbrev pub Keeping : Content → Type 0
Keeping content = (keeps : Scalar → Bool) → Counts keeps → (t : Shape) (l x : Scalar) → keeps l ≡ true → content keeps t l ≡ accepted x → keeps x ≡ true

-- a field as validated, the rest as it was
module _ (content : Content) (keeping : Keeping content) (keeps : Fields → Bool) (c : FieldsCount keeps) where
  pub field-keeps : (t v : Shape) (l x : Scalar) (g : Fields) → keeps (field t l g) ≡ true → content (λ y. keeps (field t y g)) t l ≡ accepted x → keeps (field v x g) ≡ true
  field-keeps t v l x g h e = reshaped-field keeps c v t x g ∙ keeping (λ y. keeps (field t y g)) (at_field keeps c t g) t l x h e

module _ (content : Content) (keeping : Keeping content) (s : Shape) where
  pub each_field-keeps : (keeps : Fields → Bool) → FieldsCount keeps → (g h : Fields) → keeps g ≡ true → each_field content s keeps g ≡ accepted h → keeps h ≡ true
  unfolding each_field
  each_field-keeps keeps c no_fields h i e = let w : no_fields ≡ h = cc in rw (← w) i
  each_field-keeps keeps c (field t l g) h i e =
      field-accepted (content (λ x. keeps (field t x g)) t l) (check_shape unsided s t) (λ r. each_field content s (λ f. keeps (field_of r f)) g) e λ x v f (e₁, e₂, e₃, w).
      rw (← w) (each_field-keeps (λ f. keeps (field v x f)) (past-field keeps c v x) g f (field-keeps content keeping keeps c t v l x g i e₁) e₃)

  on_all-keeps : (k : Scalar) (keeps : Scalar → Bool) → Counts keeps → (l x : Scalar) → keeps l ≡ true → on_all content s k keeps l ≡ accepted x → keeps x ≡ true
  unfolding on_all
  on_all-keeps k keeps c (plain l) x h e = superset-accepted (box_all s k) (plain l) e λ _ w. rw (← w) h
  on_all-keeps k keeps c box_any x h e = measured-accepted keeps (box_all s k) e λ i w. rw (← w) i
  on_all-keeps k keeps c (box_all t l) x h e =
      box-accepted (content (λ y. keeps (box_all t y)) t l) (check_shape unsided s t) e λ y v e₁ e₂ w.
      rw (← w) (reshaped keeps c v t y ∙ keeping (λ y. keeps (box_all t y)) (in_all keeps c t) t l y h e₁)
  on_all-keeps k keeps c (box_def m g) x h e =
      mapped-accepted (box_def m) (each_field content s (λ f. keeps (box_def m f)) g) e λ f e₁ w.
      rw (← w) (each_field-keeps (λ f. keeps (box_def m f)) (in_def keeps c m) g f h e₁)

abbrev pub FieldsKeeping : Contents → Type 0
FieldsKeeping contents = (keeps : Fields → Bool) → FieldsCount keeps → (g h : Fields) → keeps g ≡ true → contents keeps g ≡ accepted h → keeps h ≡ true

module _ (contents : Contents) (keeping : FieldsKeeping contents) (n : Option (List ℕ)) (f : Fields) (keeps : Scalar → Bool) (c : Counts keeps) where
  on_def-keeps : (l x : Scalar) → keeps l ≡ true → on_def contents n f keeps l ≡ accepted x → keeps x ≡ true
  unfolding on_def
  on_def-keeps (plain l) x h e = superset-accepted (box_def n f) (plain l) e λ _ w. rw (← w) h
  on_def-keeps box_any x h e = measured-accepted keeps (box_def n f) e λ i w. rw (← w) i
  on_def-keeps (box_all t l) x h e = let w : box_all t l ≡ x = cc in rw (← w) h
  on_def-keeps (box_def m g) x h e =
      mapped-accepted (box_def m) (contents (λ q. keeps (box_def m q)) g) e λ q e₁ w.
      rw (← w) (keeping (λ q. keeps (box_def m q)) (in_def keeps c m) g q h e₁)

-- ---- `check_scalar`

mutual
  unfolding check_scalar

  pub check_scalar-keeps : (k : Scalar) (keeps : Scalar → Bool) → Counts keeps → (t : Shape) (l x : Scalar) → keeps l ≡ true → check_scalar k keeps t l ≡ accepted x → keeps x ≡ true
  check_scalar-keeps (plain k) keeps c t l x h e =
      any-accepted keeps (plain k) t l (superset (plain k) l) e (λ _ i w. rw (← w) i) λ _ e₁.
      superset-accepted (plain k) l e₁ λ _ w. rw (← w) h
  check_scalar-keeps box_any keeps c t l x h e =
      any-accepted keeps box_any t l (superset box_any l) e (λ _ i w. rw (← w) i) λ _ e₁.
      superset-accepted box_any l e₁ λ _ w. rw (← w) h
  check_scalar-keeps (box_all s k) keeps c t l x h e =
      any-accepted keeps (box_all s k) t l (on_all (λ d u y. check_scalar k d u y) s k keeps l) e (λ _ i w. rw (← w) i) λ _ e₁.
      on_all-keeps (λ d u y. check_scalar k d u y) (λ d i u y z j e₂. check_scalar-keeps k d i u y z j e₂) s k keeps c l x h e₁
  check_scalar-keeps (box_def n f) keeps c t l x h e =
      any-accepted keeps (box_def n f) t l _ e (λ _ i w. rw (← w) i) λ _ e₁.
      then_accepted (as_fields keeps n (field_count f) t l) (λ y. on_def (λ d g. check_fields f d g) n f keeps y) e₁ λ y e₂ e₃.
      on_def-keeps (λ d g. check_fields f d g) (λ d i g q j e₄. check_fields-keeps f d i g q j e₄) n f keeps c y x (as_fields-keeps keeps c n (field_count f) t l y h e₂) e₃

  pub check_fields-keeps : (f : Fields) (keeps : Fields → Bool) → FieldsCount keeps → (g h : Fields) → keeps g ≡ true → check_fields f keeps g ≡ accepted h → keeps h ≡ true
  check_fields-keeps no_fields keeps c g h i e = let w : g ≡ h = cc in rw (← w) i
  check_fields-keeps (field s k f) keeps c no_fields h i e = let w : no_fields ≡ h = cc in rw (← w) i
  check_fields-keeps (field s k f) keeps c (field t l g) h i e =
      field-accepted (check_scalar k (λ x. keeps (field t x g)) t l) (check_shape unsided s t) (λ r. check_fields f (λ q. keeps (field_of r q)) g) e λ x v q (e₁, e₂, e₃, w).
      rw (← w) (check_fields-keeps f (λ q. keeps (field v x q)) (past-field keeps c v x) g q (field-keeps (λ d u y. check_scalar k d u y) (λ d i u y z j e₄. check_scalar-keeps k d i u y z j e₄) keeps c t v l x g i e₁) e₃)
