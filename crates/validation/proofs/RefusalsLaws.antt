-- Validation refuses by 5, 9, 10 and 14 alone, at place 0.
use Rattle.std.specs.Prelude.{ℕ, Bool, true, false, cond, List, ◌≡◌, refl, leb}
use Rattle.std.proofs.Common.{⊎_elim}
use Rattle.std.proofs.Math.Option.{Option, none, some}
use Rattle.model.specs.Limits.{max_fields}
use Rattle.model.specs.Refusals.{too_many, wrong_scalar}
use Rattle.model.specs.Types.{Shape, Scalar, plain, box_any, box_all, box_def, Fields, no_fields, field, Ty, ty, box_of, field_of, field_count}
use Rattle.format.specs.Outcome.{Outcome, accepted, refused, mapped}
use Rattle.rules.specs.Scalars.{superset_of}
use Rattle.rules.specs.Types.{any_ty, wholly_any, copies}
use Rattle.validation.specs.CheckShape.{Side, unsided, check_shape}
use Rattle.validation.proofs.CheckShapeLaws.{check_shape-refused}
use Rattle.validation.specs.AsFields.{measured, fields_for, as_box, copied, named, as_fields}
use Rattle.validation.specs.CheckScalar.{◌>>=◌, in_turn, superset, unless_any, Content, Contents, each_field, on_all, on_def, check_scalar, check_fields}
use Rattle.validation.specs.Validate.{outermost, validate, check_scalar_only, check_shape_only}
use Rattle.validation.proofs.OutcomeLaws.{and_rest}
use Rattle.validation.proofs.Claims.{Listed}

-- ---- what the rules are made of

either_listed : {A : Type 0} (t : Bool) (r q : Outcome A) → Listed r → Listed q → Listed (cond t r q)
either_listed true r q h k = h
either_listed false r q h k = k

measured-listed : (keeps : Scalar → Bool) (k : Scalar) → Listed (measured keeps k)
measured-listed keeps k = either_listed (keeps k) (accepted k) (refused too_many 0) tt (refl, refl)

superset-listed : (k l : Scalar) → Listed (superset k l)
superset-listed k l = either_listed (superset_of k l) (accepted l) (refused wrong_scalar 0) tt (refl, refl)

any-listed : (keeps : Scalar → Bool) (k : Scalar) (t : Shape) (l : Scalar) (r : Outcome Scalar) → Listed r → Listed (unless_any keeps k t l r)
any-listed keeps k t l r h = either_listed (wholly_any (ty t l)) (measured keeps k) r (measured-listed keeps k) h

then_listed : {A B : Type 0} (r : Outcome A) (f : A → Outcome B) → Listed r → ((a : A) → Listed (f a)) → Listed (r >>= f)
then_listed (accepted a) f h k = k a
then_listed (refused n p) f h k = h

mapped-listed : {A B : Type 0} (f : A → B) (r : Outcome A) → Listed r → Listed (mapped f r)
mapped-listed f (accepted a) h = tt
mapped-listed f (refused n p) h = h

in_turn-listed : (r : Outcome Scalar) (q : Outcome Shape) → Listed r → Listed q → Listed (in_turn r q)
in_turn-listed (accepted k) (accepted s) h j = tt
in_turn-listed (accepted k) (refused n p) h j = j
in_turn-listed (refused n p) q h j = h

field-listed : (r : Outcome Scalar) (q : Outcome Shape) (f : Ty → Outcome Fields) → Listed r → Listed q → ((u : Ty) → Listed (f u)) → Listed (and_rest (in_turn r q) f)
field-listed r q f h j k = then_listed (in_turn r q) _ (in_turn-listed r q h j) λ u. then_listed (f u) _ (k u) λ _. tt

-- ---- `check_shape` and `as_mut_fields`

pub check_shape-listed : (side : Side) (s t : Shape) → Listed (check_shape side s t)
check_shape-listed side s t = go (check_shape side s t) refl
  where
    go : (r : Outcome Shape) → check_shape side s t ≡ r → Listed r
    go (accepted u) e = tt
    go (refused n p) e = let h = check_shape-refused side s t e in (⊎_elim (λ q. rw q) (λ q. rw q) h.0, h.1)

copied-listed : (keeps : Scalar → Bool) (name : List ℕ) (n : ℕ) (t : Ty) → Listed (copied keeps name n t)
unfolding copied
copied-listed keeps name n t = either_listed (leb n max_fields) (measured keeps (box_def (some name) (copies n t))) (refused too_many 0) (measured-listed keeps (box_def (some name) (copies n t))) (refl, refl)

named-listed : (keeps : Scalar → Bool) (name : List ℕ) (n : ℕ) (l : Scalar) → Listed (named keeps name n l)
unfolding named
named-listed keeps name n (plain k) = tt
named-listed keeps name n box_any = copied-listed keeps name n any_ty
named-listed keeps name n (box_all s k) = copied-listed keeps name n (ty s k)
named-listed keeps name n (box_def m f) = tt

as_fields-listed : (keeps : Scalar → Bool) (name : Option (List ℕ)) (n : ℕ) (t : Shape) (l : Scalar) → Listed (as_fields keeps name n t l)
unfolding as_fields
as_fields-listed keeps none n t l = tt
as_fields-listed keeps (some name) n t l = named-listed keeps name (fields_for t n) (as_box l)

-- ---- boxes, whatever validates their contents

module _ (content : Content) (listed : (keeps : Scalar → Bool) (t : Shape) (l : Scalar) → Listed (content keeps t l)) (s : Shape) where
  each_field-listed : (keeps : Fields → Bool) (g : Fields) → Listed (each_field content s keeps g)
  unfolding each_field
  each_field-listed keeps no_fields = tt
  each_field-listed keeps (field t l g) =
      field-listed (content (λ x. keeps (field t x g)) t l) (check_shape unsided s t) (λ r. each_field content s (λ h. keeps (field_of r h)) g)
      (listed (λ x. keeps (field t x g)) t l) (check_shape-listed unsided s t) λ r. each_field-listed (λ h. keeps (field_of r h)) g

  on_all-listed : (k : Scalar) (keeps : Scalar → Bool) (l : Scalar) → Listed (on_all content s k keeps l)
  unfolding on_all
  on_all-listed k keeps (plain l) = superset-listed (box_all s k) (plain l)
  on_all-listed k keeps box_any = measured-listed keeps (box_all s k)
  on_all-listed k keeps (box_all t l) =
      let inner : Outcome Scalar = content (λ x. keeps (box_all t x)) t l in
      mapped-listed box_of (in_turn inner (check_shape unsided s t)) (in_turn-listed inner (check_shape unsided s t) (listed (λ x. keeps (box_all t x)) t l) (check_shape-listed unsided s t))
  on_all-listed k keeps (box_def m g) = mapped-listed (box_def m) (each_field content s (λ h. keeps (box_def m h)) g) (each_field-listed (λ h. keeps (box_def m h)) g)

on_def-listed : (contents : Contents) → ((keeps : Fields → Bool) (g : Fields) → Listed (contents keeps g)) → (n : Option (List ℕ)) (f : Fields) (keeps : Scalar → Bool) (l : Scalar) → Listed (on_def contents n f keeps l)
unfolding on_def
on_def-listed contents listed n f keeps (plain l) = superset-listed (box_def n f) (plain l)
on_def-listed contents listed n f keeps box_any = measured-listed keeps (box_def n f)
on_def-listed contents listed n f keeps (box_all t l) = tt
on_def-listed contents listed n f keeps (box_def m g) = mapped-listed (box_def m) (contents (λ h. keeps (box_def m h)) g) (listed (λ h. keeps (box_def m h)) g)

-- ---- `check_scalar`, and validation

mutual
  unfolding check_scalar

  pub check_scalar-listed : (k : Scalar) (keeps : Scalar → Bool) (t : Shape) (l : Scalar) → Listed (check_scalar k keeps t l)
  check_scalar-listed (plain k) keeps t l = any-listed keeps (plain k) t l (superset (plain k) l) (superset-listed (plain k) l)
  check_scalar-listed box_any keeps t l = any-listed keeps box_any t l (superset box_any l) (superset-listed box_any l)
  check_scalar-listed (box_all s k) keeps t l =
      any-listed keeps (box_all s k) t l (on_all (λ c u x. check_scalar k c u x) s k keeps l)
      (on_all-listed (λ c u x. check_scalar k c u x) (λ c u x. check_scalar-listed k c u x) s k keeps l)
  check_scalar-listed (box_def n f) keeps t l =
      any-listed keeps (box_def n f) t l (as_fields keeps n (field_count f) t l >>= λ x. on_def (λ c g. check_fields f c g) n f keeps x)
      (then_listed (as_fields keeps n (field_count f) t l) _ (as_fields-listed keeps n (field_count f) t l) λ x. on_def-listed (λ c g. check_fields f c g) (λ c g. check_fields-listed f c g) n f keeps x)

  check_fields-listed : (f : Fields) (keeps : Fields → Bool) (g : Fields) → Listed (check_fields f keeps g)
  check_fields-listed no_fields keeps g = tt
  check_fields-listed (field s k f) keeps no_fields = tt
  check_fields-listed (field s k f) keeps (field t l g) =
      field-listed (check_scalar k (λ x. keeps (field t x g)) t l) (check_shape unsided s t) (λ r. check_fields f (λ h. keeps (field_of r h)) g)
      (check_scalar-listed k (λ x. keeps (field t x g)) t l) (check_shape-listed unsided s t) λ r. check_fields-listed f (λ h. keeps (field_of r h)) g

pub validate-listed : (side : Side) (s t : Ty) → Listed (validate side s t)
unfolding validate
validate-listed side (ty s k) (ty t l) = in_turn-listed (check_scalar k (outermost t) t l) (check_shape side s t) (check_scalar-listed k (outermost t) t l) (check_shape-listed side s t)

pub check_scalar_only-listed : (s t : Ty) → Listed (check_scalar_only s t)
unfolding check_scalar_only
check_scalar_only-listed (ty s k) (ty t l) = mapped-listed (ty t) (check_scalar k (outermost t) t l) (check_scalar-listed k (outermost t) t l)

pub check_shape_only-listed : (side : Side) (s t : Ty) → Listed (check_shape_only side s t)
unfolding check_shape_only
check_shape_only-listed side (ty s k) (ty t l) = mapped-listed (λ u. ty u l) (check_shape side s t) (check_shape-listed side s t)
