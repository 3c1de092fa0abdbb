-- The limits change no answer but to 5: validation is refused by 5, or answers what it answers where nothing is measured. (The number
-- of copies is not measured but tested beforehand; `copied-limited` says that this is the same.)
use Rattle.std.specs.Prelude.{ℕ, Bool, true, false, cond, List, ◌≡◌, leb}
use Rattle.std.proofs.Math.Option.{Option, none, some}
use Rattle.std.proofs.Math.Path.{refl}
use Rattle.std.proofs.Common.{◌∙◌, ap}
use Rattle.model.specs.Limits.{max_fields}
use Rattle.model.specs.Refusals.{too_many}
use Rattle.model.specs.Types.{Shape, Scalar, plain, box_any, box_all, box_def, Fields, no_fields, field, Ty, ty, box_of, field_of, field_count}
use Rattle.format.specs.Outcome.{Outcome, accepted, refused, mapped}
use Rattle.rules.specs.Types.{any_ty, wholly_any, copies}
use Rattle.validation.specs.CheckShape.{Side, unsided, check_shape}
use Rattle.validation.specs.AsFields.{measured, fields_for, as_box, copied, named, as_fields}
use Rattle.validation.specs.CheckScalar.{◌>>=◌, in_turn, superset, unless_any, Content, Contents, each_field, on_all, on_def, check_scalar, check_fields}
use Rattle.validation.specs.Validate.{outermost, validate}
use Rattle.validation.proofs.OutcomeLaws.{scalar-first, over-at_once, and_rest}
use Rattle.validation.proofs.Claims.{unlimited, validate_unlimited, LimitsOnly, over, free}

-- ---- what the rules are made of

measured-limits : (keeps : Scalar → Bool) (k : Scalar) → LimitsOnly (measured keeps k) (accepted k)
measured-limits keeps k = go (keeps k) refl
  where
    go : (t : Bool) → keeps k ≡ t → LimitsOnly (measured keeps k) (accepted k)
    go true h = free (rw h)
    go false h = over (over-at_once keeps k h)

either-limits : {A : Type 0} (t : Bool) (r r' q q' : Outcome A) → LimitsOnly r r' → LimitsOnly q q' → LimitsOnly (cond t r q) (cond t r' q')
either-limits true r r' q q' h k = h
either-limits false r r' q q' h k = k

then_limits : {A B : Type 0} (r q : Outcome A) (f g : A → Outcome B) → LimitsOnly r q → ((a : A) → LimitsOnly (f a) (g a)) → LimitsOnly (r >>= f) (q >>= g)
then_limits r q f g (over e) k = over (ap (λ x. x >>= f) e)
then_limits r q f g (free e) k = rw e (go q)
  where
    go : (x : Outcome _) → LimitsOnly (x >>= f) (x >>= g)
    go (accepted a) = k a
    go (refused n p) = free refl

in_turn-limits : (r q : Outcome Scalar) (s : Outcome Shape) → LimitsOnly r q → LimitsOnly (in_turn r s) (in_turn q s)
in_turn-limits r q s (over e) = over (ap (λ x. in_turn x s) e ∙ scalar-first too_many 0 s)
in_turn-limits r q s (free e) = free (ap (λ x. in_turn x s) e)

mapped-limits : {A B : Type 0} (f : A → B) (r q : Outcome A) → LimitsOnly r q → LimitsOnly (mapped f r) (mapped f q)
mapped-limits f r q (over e) = over (ap (mapped f) e)
mapped-limits f r q (free e) = free (ap (mapped f) e)

-- ---- `as_mut_fields`

copied-limits : (keeps : Scalar → Bool) (name : List ℕ) (n : ℕ) (t : Ty) → LimitsOnly (copied keeps name n t) (copied unlimited name n t)
unfolding copied
copied-limits keeps name n t = either-limits (leb n max_fields) _ _ _ _ (measured-limits keeps (box_def (some name) (copies n t))) (free refl)

named-limits : (keeps : Scalar → Bool) (name : List ℕ) (n : ℕ) (l : Scalar) → LimitsOnly (named keeps name n l) (named unlimited name n l)
unfolding named
named-limits keeps name n (plain k) = free refl
named-limits keeps name n box_any = copied-limits keeps name n any_ty
named-limits keeps name n (box_all s k) = copied-limits keeps name n (ty s k)
named-limits keeps name n (box_def m f) = free refl

as_fields-limits : (keeps : Scalar → Bool) (name : Option (List ℕ)) (n : ℕ) (t : Shape) (l : Scalar) → LimitsOnly (as_fields keeps name n t l) (as_fields unlimited name n t l)
unfolding as_fields
as_fields-limits keeps none n t l = free refl
as_fields-limits keeps (some name) n t l = named-limits keeps name (fields_for t n) (as_box l)

-- ---- boxes, whatever validates their contents

abbrev ContentLimits : Content → Type 0
ContentLimits content = (keeps : Scalar → Bool) (t : Shape) (l : Scalar) → LimitsOnly (content keeps t l) (content unlimited t l)

-- a field, then those after it
field-limits : (r q : Outcome Scalar) (s : Outcome Shape) (f g : Ty → Outcome Fields) → LimitsOnly r q → ((u : Ty) → LimitsOnly (f u) (g u)) → LimitsOnly (and_rest (in_turn r s) f) (and_rest (in_turn q s) g)
field-limits r q s f g h k =
    then_limits (in_turn r s) (in_turn q s) _ _ (in_turn-limits r q s h) λ u.
    then_limits (f u) (g u) _ _ (k u) λ _. free refl

module _ (content : Content) (only : ContentLimits content) (s : Shape) where
  each_field-limits : (keeps : Fields → Bool) (g : Fields) → LimitsOnly (each_field content s keeps g) (each_field content s unlimited g)
  unfolding each_field
  each_field-limits keeps no_fields = free refl
  each_field-limits keeps (field t l g) =
      field-limits (content (λ x. keeps (field t x g)) t l) (content unlimited t l) (check_shape unsided s t) (λ r. each_field content s (λ h. keeps (field_of r h)) g) (λ r. each_field content s unlimited g)
      (only (λ x. keeps (field t x g)) t l) λ r. each_field-limits (λ h. keeps (field_of r h)) g

  on_all-limits : (k : Scalar) (keeps : Scalar → Bool) (l : Scalar) → LimitsOnly (on_all content s k keeps l) (on_all content s k unlimited l)
  unfolding on_all
  on_all-limits k keeps (plain l) = free refl
  on_all-limits k keeps box_any = measured-limits keeps (box_all s k)
  on_all-limits k keeps (box_all t l) = mapped-limits box_of _ _ (in_turn-limits (content (λ x. keeps (box_all t x)) t l) (content unlimited t l) (check_shape unsided s t) (only (λ x. keeps (box_all t x)) t l))
  on_all-limits k keeps (box_def m g) = mapped-limits (box_def m) _ _ (each_field-limits (λ h. keeps (box_def m h)) g)

abbrev ContentsLimits : Contents → Type 0
ContentsLimits contents = (keeps : Fields → Bool) (g : Fields) → LimitsOnly (contents keeps g) (contents unlimited g)

on_def-limits : (contents : Contents) → ContentsLimits contents → (n : Option (List ℕ)) (f : Fields) (keeps : Scalar → Bool) (l : Scalar) → LimitsOnly (on_def contents n f keeps l) (on_def contents n f unlimited l)
unfolding on_def
on_def-limits contents only n f keeps (plain l) = free refl
on_def-limits contents only n f keeps box_any = measured-limits keeps (box_def n f)
on_def-limits contents only n f keeps (box_all t l) = free refl
on_def-limits contents only n f keeps (box_def m g) = mapped-limits (box_def m) _ _ (only (λ h. keeps (box_def m h)) g)

-- ---- `check_scalar`, and validation

any-limits : (keeps : Scalar → Bool) (k : Scalar) (t : Shape) (l : Scalar) (r q : Outcome Scalar) → LimitsOnly r q → LimitsOnly (unless_any keeps k t l r) (unless_any unlimited k t l q)
any-limits keeps k t l r q h = either-limits (wholly_any (ty t l)) _ _ r q (measured-limits keeps k) h

mutual
  unfolding check_scalar

  pub check_scalar-limits : (k : Scalar) (keeps : Scalar → Bool) (t : Shape) (l : Scalar) → LimitsOnly (check_scalar k keeps t l) (check_scalar k unlimited t l)
  check_scalar-limits (plain k) keeps t l = any-limits keeps (plain k) t l (superset (plain k) l) (superset (plain k) l) (free refl)
  check_scalar-limits box_any keeps t l = any-limits keeps box_any t l (superset box_any l) (superset box_any l) (free refl)
  check_scalar-limits (box_all s k) keeps t l =
      any-limits keeps (box_all s k) t l (on_all (λ c u x. check_scalar k c u x) s k keeps l) (on_all (λ c u x. check_scalar k c u x) s k unlimited l)
      (on_all-limits (λ c u x. check_scalar k c u x) (λ c u x. check_scalar-limits k c u x) s k keeps l)
  check_scalar-limits (box_def n f) keeps t l =
      any-limits keeps (box_def n f) t l (as_fields keeps n (field_count f) t l >>= λ x. on_def (λ c g. check_fields f c g) n f keeps x) (as_fields unlimited n (field_count f) t l >>= λ x. on_def (λ c g. check_fields f c g) n f unlimited x)
      (then_limits (as_fields keeps n (field_count f) t l) (as_fields unlimited n (field_count f) t l) _ _ (as_fields-limits keeps n (field_count f) t l) λ x. on_def-limits (λ c g. check_fields f c g) (λ c g. check_fields-limits f c g) n f keeps x)

  pub check_fields-limits : (f : Fields) (keeps : Fields → Bool) (g : Fields) → LimitsOnly (check_fields f keeps g) (check_fields f unlimited g)
  check_fields-limits no_fields keeps g = free refl
  check_fields-limits (field s k f) keeps no_fields = free refl
  check_fields-limits (field s k f) keeps (field t l g) =
      field-limits (check_scalar k (λ x. keeps (field t x g)) t l) (check_scalar k unlimited t l) (check_shape unsided s t) (λ r. check_fields f (λ h. keeps (field_of r h)) g) (λ r. check_fields f unlimited g)
      (check_scalar-limits k (λ x. keeps (field t x g)) t l) λ r. check_fields-limits f (λ h. keeps (field_of r h)) g

pub validate-limits : (side : Side) (s t : Ty) → LimitsOnly (validate side s t) (validate_unlimited side s t)
unfolding validate
validate-limits side (ty s k) (ty t l) = in_turn-limits (check_scalar k (outermost t) t l) (check_scalar k unlimited t l) (check_shape side s t) (check_scalar-limits k (outermost t) t l)
