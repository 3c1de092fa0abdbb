-- What a walk over a spec and a type needs of `check_scalar`: one law for each turn that it takes, with the measure as two numbers.
-- `limited o a` stands for the outermost type with o types elsewhere and a types around the one at hand.
use Rattle.std.specs.Prelude.{ℕ, zero, suc, ◌+◌, ◌*◌, ◌≤◌, ◌<◌, Bool, true, false, cond, List, ◌≡◌, leb}
use Rattle.std.proofs.Common.{zero-mul, suc-mul, arith, sym, ◌∙◌, ap, leb-false}
use Rattle.std.proofs.Math.Option.{Option, some}
use Rattle.std.proofs.Math.Path.{refl}
use Rattle.std.proofs.lemmas.Bool.{lt-leb}
use Rattle.model.specs.Limits.{max_types, max_depth, max_fields}
use Rattle.model.specs.Refusals.{too_many}
use Rattle.model.specs.Types.{Shape, Scalar, plain, box_any, box_all, box_def, Fields, field, Ty, ty, box_of, field_of, field_count, types, depth, inside, among, below, deepest}
use Rattle.format.specs.Outcome.{Outcome, accepted, refused, mapped}
use Rattle.rules.specs.Types.{wholly_any, copies}
use Rattle.validation.specs.CheckShape.{Side, unsided, check_shape}
use Rattle.validation.specs.AsFields.{measured, copied, as_fields}
use Rattle.validation.specs.CheckScalar.{◌>>=◌, in_turn, superset, Content, each_field, on_all, on_def, check_scalar, check_fields}
use Rattle.validation.specs.Validate.{validate, check_scalar_only}
use Rattle.validation.proofs.OutcomeLaws.{all_on-all, def_on-def, in_turn-accepted, and_rest}
use Rattle.validation.proofs.KeepsLaws.{Keeping, check_scalar-keeps}
use Rattle.validation.specs.MeasureLaws.{limited, fields_limited}
use Rattle.validation.proofs.MeasureLaws.{limited-counts, limited-true, fields_limited-true, fields_limited-of, outermost-limited, all-limited, def-limited, field-limited, rest-limited}

-- ---- the whole type

pub validate-limited : (side : Side) (s t : Shape) (k l : Scalar) → validate side (ty s k) (ty t l) ≡ in_turn (check_scalar k (limited 0 0) t l) (check_shape side s t)
unfolding validate
validate-limited side s t k l = ap (λ c. in_turn (check_scalar k c t l) (check_shape side s t)) (outermost-limited t)

pub check_scalar_only-limited : (s t : Shape) (k l : Scalar) → check_scalar_only (ty s k) (ty t l) ≡ mapped (ty t) (check_scalar k (limited 0 0) t l)
unfolding check_scalar_only
check_scalar_only-limited s t k l = ap (λ c. mapped (ty t) (check_scalar k c t l)) (outermost-limited t)

-- ---- by the spec's scalar

pub check_any : (k : Scalar) (keeps : Scalar → Bool) (t : Shape) (l : Scalar) → wholly_any (ty t l) ≡ true → check_scalar k keeps t l ≡ measured keeps k
unfolding check_scalar
check_any (plain k) keeps t l h = rw h
check_any box_any keeps t l h = rw h
check_any (box_all s k) keeps t l h = rw h
check_any (box_def n f) keeps t l h = rw h

module _ (keeps : Scalar → Bool) (t : Shape) (l : Scalar) (h : wholly_any (ty t l) ≡ false) where
  pub check_plain : (k : _) → check_scalar (plain k) keeps t l ≡ superset (plain k) l
  unfolding check_scalar
  check_plain k = rw h

  pub check_box_any : check_scalar box_any keeps t l ≡ superset box_any l
  unfolding check_scalar
  check_box_any = rw h

  pub check_all : (s : Shape) (k : Scalar) → check_scalar (box_all s k) keeps t l ≡ on_all (check_scalar k) s k keeps l
  unfolding check_scalar
  check_all s k = rw h

  pub check_def : (n : Option (List ℕ)) (f : Fields) → check_scalar (box_def n f) keeps t l ≡ (as_fields keeps n (field_count f) t l >>= λ x. on_def (check_fields f) n f keeps x)
  unfolding check_scalar
  check_def n f = rw h

-- ---- into boxes

pub on_all-all : (o a : ℕ) (s t : Shape) (k l : Scalar) → on_all (check_scalar k) s k (limited o a) (box_all t l) ≡ mapped box_of (in_turn (check_scalar k (limited (suc o) (suc a)) t l) (check_shape unsided s t))
on_all-all o a s t k l = all_on-all (check_scalar k) s t k l (limited o a) ∙ ap (λ c. mapped box_of (in_turn (check_scalar k c t l) (check_shape unsided s t))) (all-limited o a t)

pub on_all-def : (o a : ℕ) (s : Shape) (k : Scalar) (m : Option (List ℕ)) (g : Fields) → on_all (check_scalar k) s k (limited o a) (box_def m g) ≡ mapped (box_def m) (each_field (check_scalar k) s (fields_limited (suc o) (suc a)) g)
unfolding on_all
on_all-def o a s k m g = ap (λ c. mapped (box_def m) (each_field (check_scalar k) s c g)) (def-limited o a m)

pub on_def-def : (o a : ℕ) (n m : Option (List ℕ)) (f g : Fields) → on_def (check_fields f) n f (limited o a) (box_def m g) ≡ mapped (box_def m) (check_fields f (fields_limited (suc o) (suc a)) g)
on_def-def o a n m f g = def_on-def (check_fields f) n m f g (limited o a) ∙ ap (λ c. mapped (box_def m) (check_fields f c g)) (def-limited o a m)

-- the limits are kept when a box's content is begun
pub all-begun : (o a : ℕ) (t : Shape) (l : Scalar) → limited o a (box_all t l) ≡ true → limited (suc o) (suc a) l ≡ true
all-begun o a t l h = rw (ap (λ c. c l) (all-limited o a t)) at h

pub def-begun : (o a : ℕ) (m : Option (List ℕ)) (g : Fields) → limited o a (box_def m g) ≡ true → fields_limited (suc o) (suc a) g ≡ true
def-begun o a m g h = rw (ap (λ c. c g) (def-limited o a m)) at h

-- ---- from field to field

-- the limits are kept when a field is begun, and after it
pub field-begun : (o a : ℕ) (t : Shape) (l : Scalar) (g : Fields) → fields_limited o a (field t l g) ≡ true → limited (o + among g) a l ≡ true
unfolding deepest
field-begun o a t l g h =
    let r = fields_limited-true o a (field t l g) h in
    let d : a + deepest g ≤ max_depth = omega (arith, r.1) in
    rw (ap (λ c. c l) (field-limited o a t g d)) at h

pub field-done : (o a : ℕ) (t : Shape) (l x : Scalar) (g : Fields) → fields_limited o a (field t l g) ≡ true → limited (o + among g) a x ≡ true → fields_limited (o + suc (inside x)) a g ≡ true
unfolding deepest
field-done o a t l x g h j =
    let r = fields_limited-true o a (field t l g) h in
    let q = limited-true (o + among g) a x j in
    fields_limited-of (o + suc (inside x)) a g (omega (arith, q.0)) (omega (arith, r.1))

pub field_next : (o a : ℕ) (k : Scalar) (t : Shape) (l x : Scalar) (g : Fields) → fields_limited o a (field t l g) ≡ true → check_scalar k (limited (o + among g) a) t l ≡ accepted x → fields_limited (o + suc (inside x)) a g ≡ true
field_next o a k t l x g h e = field-done o a t l x g h (check_scalar-keeps k (limited (o + among g) a) (limited-counts (o + among g) a) t l x (field-begun o a t l g h) e)

-- whatever validates the field, and the fields after it
module _ (content : Content) (keeping : Keeping content) (q : Outcome Shape) (rest : (Fields → Bool) → Outcome Fields) where
  -- what is left to do once a field is validated: by the whole type, and by the two numbers
  abbrev whole_rest : (Fields → Bool) → Ty → Outcome Fields
  whole_rest keeps r = rest (λ h. keeps (field_of r h)) >>= λ h. accepted (field_of r h)

  abbrev counted_rest : ℕ → ℕ → Ty → Outcome Fields
  counted_rest o a r = rest (fields_limited (o + types r) a) >>= λ h. accepted (field_of r h)

  rest-counted : (o a : ℕ) (v : Shape) (x : Scalar) → a + suc (below x) ≤ max_depth → whole_rest (fields_limited o a) (ty v x) ≡ counted_rest o a (ty v x)
  rest-counted o a v x h = ap (λ c. rest c >>= λ h. accepted (field v x h)) (rest-limited o a v x h)

  -- the field, measured by the whole type and by the two numbers
  module _ (o a : ℕ) (t : Shape) (l : Scalar) (g : Fields) where
    abbrev whole : Outcome Ty
    whole = in_turn (content (λ x. fields_limited o a (field t x g)) t l) q

    abbrev numbers : Outcome Ty
    numbers = in_turn (content (limited (o + among g) a) t l) q

    field_step : fields_limited o a (field t l g) ≡ true → (whole >>= whole_rest (fields_limited o a)) ≡ (numbers >>= counted_rest o a)
    unfolding deepest
    field_step h =
        let r = fields_limited-true o a (field t l g) h in
        let d : a + deepest g ≤ max_depth = omega (arith, r.1) in
        rw (field-limited o a t g d) (go numbers refl)
      where
        go : (u : Outcome Ty) → numbers ≡ u → (u >>= whole_rest (fields_limited o a)) ≡ (u >>= counted_rest o a)
        go (accepted (ty v x)) e =
            in_turn-accepted (content (limited (o + among g) a) t l) q e λ y w e₁ e₂ z.
            let i : y ≡ x = cc in
            let kept = keeping (limited (o + among g) a) (limited-counts (o + among g) a) t l y (field-begun o a t l g h) e₁ in
            rest-counted o a v x (limited-true (o + among g) a x (rw i at kept)).1
        go (refused n p) e = refl

-- a field at hand, by the two numbers, and the fields after it
abbrev pub at_hand : ℕ → ℕ → Shape → Scalar → Shape → Scalar → Fields → Outcome Ty
at_hand o a s k t l g = in_turn (check_scalar k (limited (o + among g) a) t l) (check_shape unsided s t)

abbrev pub after_it : ℕ → ℕ → Fields → Fields → Ty → Outcome Fields
after_it o a f g r = check_fields f (fields_limited (o + types r) a) g

module _ (o a : ℕ) (s : Shape) (k : Scalar) (f : Fields) (t : Shape) (l : Scalar) (g : Fields) where
  pub fields-step : fields_limited o a (field t l g) ≡ true → check_fields (field s k f) (fields_limited o a) (field t l g) ≡ and_rest (at_hand o a s k t l g) (after_it o a f g)
  unfolding check_fields
  fields-step h = field_step (check_scalar k) (check_scalar-keeps k) (check_shape unsided s t) (λ c. check_fields f c g) o a t l g h

-- ---- copies

-- Copies are that many times the types, and as deep as one of them.
pub copies-among : (n : ℕ) (t : Ty) → among (copies n t) ≡ n * types t
unfolding copies among
copies-among zero t = sym (zero-mul (types t))
copies-among (suc n) (ty s k) = rw (copies-among n (ty s k), suc-mul n (suc (inside k))) (omega arith)

pub copies-deepest : (n : ℕ) (t : Ty) → deepest (copies (suc n) t) ≡ depth t
unfolding copies deepest
copies-deepest zero (ty s k) = omega arith
copies-deepest (suc n) (ty s k) = let h = copies-deepest n (ty s k) in omega arith

copies_least : (n : ℕ) (t : Ty) → n ≤ among (copies n t)
unfolding copies among
copies_least zero t = omega arith
copies_least (suc n) (ty s k) = let h = copies_least n (ty s k) in omega arith

copies-over : (o a : ℕ) (name : List ℕ) (n : ℕ) (t : Ty) → max_fields < n → limited o a (box_def (some name) (copies n t)) ≡ false
unfolding limited inside
copies-over o a name n t h = let l = copies_least n t in rw (lt-leb (o + suc (among (copies n t))) max_types (omega arith))

-- More than 31 copies are more than 32 types: the test for them only spares making them.
pub copied-limited : (o a : ℕ) (name : List ℕ) (n : ℕ) (t : Ty) → copied (limited o a) name n t ≡ measured (limited o a) (box_def (some name) (copies n t))
unfolding copied
copied-limited o a name n t = go (leb n max_fields) refl
  where
    go : (b : Bool) → leb n max_fields ≡ b → cond b (measured (limited o a) (box_def (some name) (copies n t))) (refused too_many 0) ≡ measured (limited o a) (box_def (some name) (copies n t))
    go true e = refl
    go false e = rw (copies-over o a name n t (leb-false n max_fields e))
