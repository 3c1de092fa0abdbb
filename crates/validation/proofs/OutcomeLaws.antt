-- What the forms that the rules of validation are written in come to; and what an accepted outcome says of its parts, one law for each
-- form, by continuation, so that the values between the parts are variables.
use Rattle.std.specs.Prelude.{ℕ, Bool, true, false, ◌&&◌, cond, List, ◌≡◌, refl}
use Rattle.std.proofs.Common.{arith, ap}
use Rattle.std.proofs.Math.Option.{Option}
use Rattle.model.specs.Refusals.{too_many, wrong_scalar}
use Rattle.model.specs.Types.{Shape, Scalar, box_all, box_def, Fields, field, Ty, ty, box_of, field_of}
use Rattle.format.specs.Outcome.{Outcome, accepted, refused, mapped}
use Rattle.rules.specs.Scalars.{superset_of}
use Rattle.rules.specs.Types.{wholly_any}
use Rattle.validation.specs.CheckShape.{unsided, check_shape}
use Rattle.validation.specs.AsFields.{measured}
use Rattle.validation.specs.CheckScalar.{◌>>=◌, in_turn, superset, unless_any, Content, Contents, on_all, on_def}

-- ---- the forms

-- Scalar first: its refusal is answered, whatever the shape's.
pub scalar-first : (n p : ℕ) (q : Outcome Shape) → in_turn (refused n p) q ≡ refused n p
scalar-first n p q = refl

-- 5 comes at the change that takes the type over.
pub over-at_once : (keeps : Scalar → Bool) (k : Scalar) → keeps k ≡ false → measured keeps k ≡ refused too_many 0
over-at_once keeps k h = ap (λ b. cond b (accepted k) (refused too_many 0)) h

-- What a box holds is validated unsided.
pub all_on-all : (content : Content) (s t : Shape) (k l : Scalar) (keeps : Scalar → Bool) → on_all content s k keeps (box_all t l) ≡ mapped box_of (in_turn (content (λ x. keeps (box_all t x)) t l) (check_shape unsided s t))
unfolding on_all
all_on-all content s t k l keeps = refl

-- Of two Defs the contents are validated, and their counts are not compared.
pub def_on-def : (contents : Contents) (n m : Option (List ℕ)) (f g : Fields) (keeps : Scalar → Bool) → on_def contents n f keeps (box_def m g) ≡ mapped (box_def m) (contents (λ h. keeps (box_def m h)) g)
unfolding on_def
def_on-def contents n m f g keeps = refl

-- ---- tests

pub both_true : (a b : Bool) → (a && b) ≡ true → (a ≡ true) × (b ≡ true)
both_true true b h = (refl, h)
both_true false b h = (cc, cc)

-- one that had to be true
pub was_true {κ} : {A : Type 0} {C : Type κ} (t : Bool) (r : Outcome A) (n p : ℕ) {a : A} → cond t r (refused n p) ≡ accepted a → (t ≡ true → r ≡ accepted a → C) → C
was_true true r n p e k = k refl e
was_true false r n p e k = let z : ◌≡◌ {A = ℕ} 0 1 = cc in absurd (omega arith)

pub measured-accepted {κ} : {C : Type κ} (keeps : Scalar → Bool) (k : Scalar) {x : Scalar} → measured keeps k ≡ accepted x → (keeps k ≡ true → k ≡ x → C) → C
measured-accepted keeps k e c = was_true (keeps k) (accepted k) too_many 0 e λ h w. c h cc

pub superset-accepted {κ} : {C : Type κ} (k l : Scalar) {x : Scalar} → superset k l ≡ accepted x → (superset_of k l ≡ true → l ≡ x → C) → C
superset-accepted k l e c = was_true (superset_of k l) (accepted l) wrong_scalar 0 e λ h w. c h cc

-- a wholly Any type took the scalar, or it was not one
module _ (keeps : Scalar → Bool) (k : Scalar) (t : Shape) (l : Scalar) (rest : Outcome Scalar) {x : Scalar} (e : unless_any keeps k t l rest ≡ accepted x) where
  pub any-accepted {κ} : {C : Type κ} → (wholly_any (ty t l) ≡ true → keeps k ≡ true → k ≡ x → C) → (wholly_any (ty t l) ≡ false → rest ≡ accepted x → C) → C
  any-accepted {C = C} c d = go (wholly_any (ty t l)) refl e
    where
      go : (b : Bool) → wholly_any (ty t l) ≡ b → cond b (measured keeps k) rest ≡ accepted x → C
      go true h e = measured-accepted keeps k e (c h)
      go false h e = d h e

-- ---- sequences

pub then_accepted {κ} : {A B : Type 0} {C : Type κ} (r : Outcome A) (f : A → Outcome B) {b : B} → (r >>= f) ≡ accepted b → ((a : A) → r ≡ accepted a → f a ≡ accepted b → C) → C
then_accepted (accepted a) f e k = k a refl e
then_accepted (refused n p) f e k = let z : ◌≡◌ {A = ℕ} 0 1 = cc in absurd (omega arith)

pub mapped-accepted {κ} : {A B : Type 0} {C : Type κ} (f : A → B) (r : Outcome A) {b : B} → mapped f r ≡ accepted b → ((a : A) → r ≡ accepted a → f a ≡ b → C) → C
mapped-accepted f (accepted a) e k = k a refl cc
mapped-accepted f (refused n p) e k = let z : ◌≡◌ {A = ℕ} 0 1 = cc in absurd (omega arith)

pub in_turn-accepted {κ} : {C : Type κ} (r : Outcome Scalar) (q : Outcome Shape) {u : Ty} → in_turn r q ≡ accepted u → ((k : Scalar) (s : Shape) → r ≡ accepted k → q ≡ accepted s → ty s k ≡ u → C) → C
in_turn-accepted (accepted k) (accepted s) e c = c k s refl refl cc
in_turn-accepted (accepted k) (refused n p) e c = let z : ◌≡◌ {A = ℕ} 0 1 = cc in absurd (omega arith)
in_turn-accepted (refused n p) q e c = let z : ◌≡◌ {A = ℕ} 0 1 = cc in absurd (omega arith)

-- the content of a box
pub box-accepted {κ} : {C : Type κ} (r : Outcome Scalar) (q : Outcome Shape) {x : Scalar} → mapped box_of (in_turn r q) ≡ accepted x → ((k : Scalar) (s : Shape) → r ≡ accepted k → q ≡ accepted s → box_all s k ≡ x → C) → C
box-accepted (accepted k) (accepted s) e c = c k s refl refl cc
box-accepted (accepted k) (refused n p) e c = let z : ◌≡◌ {A = ℕ} 0 1 = cc in absurd (omega arith)
box-accepted (refused n p) q e c = let z : ◌≡◌ {A = ℕ} 0 1 = cc in absurd (omega arith)

-- a field, then those after it
abbrev pub and_rest : Outcome Ty → (Ty → Outcome Fields) → Outcome Fields
and_rest u rest = u >>= λ r. rest r >>= λ g. accepted (field_of r g)

-- the parts of accepted fields
abbrev pub FieldParts : Outcome Scalar → Outcome Shape → (Ty → Outcome Fields) → Fields → Scalar → Shape → Fields → Type 0
FieldParts r q rest h k s g = (r ≡ accepted k) × (q ≡ accepted s) × (rest (ty s k) ≡ accepted g) × (field s k g ≡ h)

pub field-accepted {κ} : {C : Type κ} (r : Outcome Scalar) (q : Outcome Shape) (rest : Ty → Outcome Fields) {h : Fields} → and_rest (in_turn r q) rest ≡ accepted h
    → ((k : Scalar) (s : Shape) (g : Fields) → FieldParts r q rest h k s g → C) → C
field-accepted (accepted k) (accepted s) rest e c = then_accepted (rest (ty s k)) _ e λ g e₁ e₂. c k s g (refl, refl, e₁, cc)
field-accepted (accepted k) (refused n p) rest e c = let z : ◌≡◌ {A = ℕ} 0 1 = cc in absurd (omega arith)
field-accepted (refused n p) q rest e c = let z : ◌≡◌ {A = ℕ} 0 1 = cc in absurd (omega arith)
