-- `check_scalar` (document 01, "mod.rs"), by recursion on the spec: what a box holds is validated by the same rules, unsided, scalar
-- first, then shape, a list of fields from the first on. A refusal ends it where it comes.
use Rattle.std.specs.Prelude.{ℕ, Bool, cond, List}
use Rattle.std.proofs.Math.Option.{Option}
use Rattle.model.specs.Refusals.{wrong_scalar}
use Rattle.model.specs.Types.{Shape, Scalar, plain, box_any, box_all, box_def, Fields, no_fields, field, Ty, ty, box_of, field_of, field_count}
use Rattle.format.specs.Outcome.{Outcome, accepted, refused, mapped}
use Rattle.rules.specs.Scalars.{superset_of}
use Rattle.rules.specs.Types.{wholly_any}
use Rattle.validation.specs.CheckShape.{unsided, check_shape}
use Rattle.validation.specs.AsFields.{measured, as_fields}

infixl 20 ◌>>=◌
abbrev pub ◌>>=◌ : {A B : Type 0} → Outcome A → (A → Outcome B) → Outcome B
◌>>=◌ (accepted a) f = f a
◌>>=◌ (refused k p) f = refused k p

-- Scalar first, then shape.
abbrev pub in_turn : Outcome Scalar → Outcome Shape → Outcome Ty
in_turn (accepted k) (accepted s) = accepted (ty s k)
in_turn (accepted k) (refused n p) = refused n p
in_turn (refused n p) s = refused n p

-- The spec must be a superset; the type keeps its kind.
abbrev pub superset : Scalar → Scalar → Outcome Scalar
superset k l = cond (superset_of k l) (accepted l) (refused wrong_scalar 0)

-- A wholly Any type takes the spec's scalar, and the rule ends there.
abbrev pub unless_any : (Scalar → Bool) → Scalar → Shape → Scalar → Outcome Scalar → Outcome Scalar
unless_any keeps k t l rest = cond (wholly_any (ty t l)) (measured keeps k) rest

-- The rule for a content's scalar: `keeps`, then the content's shape and scalar.
abbrev pub Content : Type 0
Content = (Scalar → Bool) → Shape → Scalar → Outcome Scalar

-- The rule for a list of contents: `keeps`, then the fields.
abbrev pub Contents : Type 0
Contents = (Fields → Bool) → Fields → Outcome Fields

-- An All spec goes against each field of a Def.
unfoldable pub each_field : Content → Shape → (Fields → Bool) → Fields → Outcome Fields
each_field content s keeps no_fields = accepted no_fields
each_field content s keeps (field t l g) = do
  r ← in_turn (content (λ x. keeps (field t x g)) t l) (check_shape unsided s t)
  h ← each_field content s (λ h. keeps (field_of r h)) g
  accepted (field_of r h)

-- An All spec on each scalar: box Any takes it.
unfoldable pub on_all : Content → Shape → Scalar → (Scalar → Bool) → Scalar → Outcome Scalar
on_all content s k keeps (plain l) = superset (box_all s k) (plain l)
on_all content s k keeps box_any = measured keeps (box_all s k)
on_all content s k keeps (box_all t l) = mapped box_of (in_turn (content (λ x. keeps (box_all t x)) t l) (check_shape unsided s t))
on_all content s k keeps (box_def m g) = mapped (box_def m) (each_field content s (λ h. keeps (box_def m h)) g)

-- A Def spec on each scalar: box Any takes it, an All box passes.
unfoldable pub on_def : Contents → Option (List ℕ) → Fields → (Scalar → Bool) → Scalar → Outcome Scalar
on_def contents n f keeps (plain l) = superset (box_def n f) (plain l)
on_def contents n f keeps box_any = measured keeps (box_def n f)
on_def contents n f keeps (box_all t l) = accepted (box_all t l)
on_def contents n f keeps (box_def m g) = mapped (box_def m) (contents (λ h. keeps (box_def m h)) g)

unfoldable mutual
  -- A spec's scalar on a type's shape and scalar: the scalar that the type then has. A kind, and box Any, must be a superset; box Any
  -- is one of every box, which stays as it is.
  pub check_scalar : Scalar → (Scalar → Bool) → Shape → Scalar → Outcome Scalar
  check_scalar (plain k) keeps t l = unless_any keeps (plain k) t l (superset (plain k) l)
  check_scalar box_any keeps t l = unless_any keeps box_any t l (superset box_any l)
  check_scalar (box_all s k) keeps t l = unless_any keeps (box_all s k) t l (on_all (λ c u x. check_scalar k c u x) s k keeps l)
  check_scalar (box_def n f) keeps t l = unless_any keeps (box_def n f) t l (as_fields keeps n (field_count f) t l >>= λ x. on_def (λ c g. check_fields f c g) n f keeps x)

  -- Pair by pair, as far as both lists go.
  pub check_fields : Fields → (Fields → Bool) → Fields → Outcome Fields
  check_fields no_fields keeps g = accepted g
  check_fields (field s k f) keeps no_fields = accepted no_fields
  check_fields (field s k f) keeps (field t l g) = do
    r ← in_turn (check_scalar k (λ x. keeps (field t x g)) t l) (check_shape unsided s t)
    h ← check_fields f (λ h. keeps (field_of r h)) g
    accepted (field_of r h)
