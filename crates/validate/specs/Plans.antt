-- What a spec's scalar asks of a type's, where both stand at their places.
use Rattle.std.specs.Prelude.{ℕ, ◌+◌, ◌-◌, ◌≤◌, Bool, true, false, cond, List, [], ◌∷◌, ◌≡◌, Result, Ok, Err}
use Rattle.std.proofs.Math.Option.{Option, some}
use Rattle.model.specs.Limits.{max_fields, max_depth}
use Rattle.model.specs.Refusals.{wrong_scalar}
use Rattle.model.specs.Types.{Shape, Scalar, box_def, Fields, field_count, Ty, ty, scalar_of, box_of, types, depth}
use Rattle.format.specs.Outcome.{Outcome, accepted, refused, mapped}
use Rattle.rules.specs.Types.{wholly_any}
use Rattle.validation.specs.CheckShape.{Side, unsided, check_shape}
use Rattle.validation.specs.AsFields.{measured, fields_for, as_box, named, copied}
use Rattle.validation.specs.CheckScalar.{in_turn, check_scalar, check_fields}
use Rattle.validation.specs.MeasureLaws.{limited, fields_limited}
use Rattle.known.specs.Known.{TypeAt, NameAt, Seen, SeenAll, SeenDef}
use Rattle.known.specs.declared.View.{View}
use Rattle.validate.specs.Lists.{ListAt}
use Rattle.validate.specs.declared.Items.{Items}
use Rattle.validate.specs.declared.Plan.{Plan}
use Rattle.validate.specs.declared.Plan.TheVariants.{Keep, Take, Inside, Pairs}
use Rattle.limits.specs.Answers.{number_of}
use Rattle.limits.specs.declared.refusal.Reason.{Reason}

-- ---- a spec and a type

-- Each at its place; the type keeps to the limits with `others` types elsewhere and `above` types around it.
pub record Pair (s : List ℕ) (i : ℕ) (t : List ℕ) (j others above : ℕ) : Type 0 where
  pub spec-shape : Shape
  pub spec-scalar : Scalar
  pub type-shape : Shape
  pub type-scalar : Scalar
  pub spec-there : TypeAt s i max_depth (ty spec-shape spec-scalar)
  pub type-there : TypeAt t j max_depth (ty type-shape type-scalar)
  pub limits : limited others above type-scalar ≡ true

-- what becomes of the type's scalar
abbrev pub scalar_after : {s : List ℕ} {i : ℕ} {t : List ℕ} {j o a : ℕ} → Pair s i t j o a → Outcome Scalar
scalar_after {o = o} {a = a} w = check_scalar w.spec-scalar (limited o a) w.type-shape w.type-scalar

-- what becomes of its shape
abbrev pub shape_after : Side → {s : List ℕ} {i : ℕ} {t : List ℕ} {j o a : ℕ} → Pair s i t j o a → Outcome Shape
shape_after side w = check_shape side w.spec-shape w.type-shape

-- what becomes of the type
abbrev pub type_after : Side → {s : List ℕ} {i : ℕ} {t : List ℕ} {j o a : ℕ} → Pair s i t j o a → Outcome Ty
type_after side w = in_turn (scalar_after w) (shape_after side w)

-- ---- two lists of fields, each at its place

pub record TwoLists (s : List ℕ) (x : Items) (t : List ℕ) (y : Items) (others above : ℕ) : Type 0 where
  pub spec-fields : Fields
  pub type-fields : Fields
  pub spec_list : ListAt x.moves s x.at spec-fields
  pub spec-count : field_count spec-fields ≡ x.count
  pub type_list : ListAt y.moves t y.at type-fields
  pub type-count : field_count type-fields ≡ y.count
  pub limits : fields_limited others above type-fields ≡ true

-- what becomes of the type's fields
abbrev pub fields_after : {s : List ℕ} {x : Items} {t : List ℕ} {y : Items} {o a : ℕ} → TwoLists s x t y o a → Outcome Fields
fields_after {o = o} {a = a} w = check_fields w.spec-fields (fields_limited o a) w.type-fields

-- ---- plans

-- the seven bytes of [..] Any
abbrev pub any_bytes : List ℕ
any_bytes = 0x53 ∷ 0x48 ∷ 0 ∷ 0 ∷ 0x53 ∷ 0x43 ∷ 9 ∷ []

module _ (s t : List ℕ) (o a : ℕ) (outcome : Outcome Scalar) (k l : Scalar) where
  pub record InsideIs (content other : ℕ) : Type 0 where
    pub inner : Pair s content t other (o + 1) (a + 1)
    pub is : outcome ≡ mapped box_of (type_after unsided inner)

  pub record PairsAre (wanted own : Items) (fresh : Bool) (name : ℕ) (borrowed : Bool) : Type 0 where
    pub label : Option (List ℕ)
    pub titled : NameAt (cond borrowed s t) name label
    pub few : own.count ≤ max_fields
    pub inner : TwoLists s wanted (cond fresh any_bytes t) own (o + 1) (a + 1)
    pub is : outcome ≡ mapped (box_def label) (fields_after inner)

  -- A plan for the outcome of the spec's scalar k on the type's scalar l.
  abbrev pub Plans : Result Plan Reason → Type 0
  Plans (Err r) = outcome ≡ refused (number_of r) 0
  Plans (Ok Keep) = outcome ≡ accepted l
  Plans (Ok Take) = outcome ≡ accepted k
  Plans (Ok (Inside c d)) = InsideIs c d
  Plans (Ok (Pairs wanted own fresh name borrowed)) = PairsAre wanted own fresh name borrowed

abbrev pub Planned : {s : List ℕ} {i : ℕ} {t : List ℕ} {j o a : ℕ} → Pair s i t j o a → Result Plan Reason → Type 0
Planned {s} {i} {t} {j} {o} {a} w p = Plans s t o a (scalar_after w) w.spec-scalar w.type-scalar p

-- ---- what is known when a plan is made

-- A view of this scalar, wherever in the bytes it stands.
pub record Viewed (s : List ℕ) (k : Scalar) (v : View) : Type 0 where
  pub place : ℕ
  pub seen : Seen s place (max_depth - 1) k v

-- A view of some scalar in these bytes.
pub record HasView (s : List ℕ) (v : View) : Type 0 where
  pub scalar : Scalar
  pub viewed : Viewed s scalar v

-- A view of some scalar in some bytes.
pub record SomeView (v : View) : Type 0 where
  pub bytes : List ℕ
  pub has : HasView bytes v

-- `as_mut_fields` under a name on a scalar of a shape, and copies of a type as many as that shape asks for
abbrev pub as_named : ℕ → ℕ → Shape → Scalar → List ℕ → ℕ → Outcome Scalar
as_named o a p l title limit = named (limited o a) title (fields_for p limit) (as_box l)

abbrev pub as_copies : ℕ → ℕ → Shape → List ℕ → ℕ → Ty → Outcome Scalar
as_copies o a p title limit u = copied (limited o a) title (fields_for p limit) u

module _ {s : List ℕ} {i : ℕ} {t : List ℕ} {j o a : ℕ} (w : Pair s i t j o a) where
  abbrev pub NotAny : Type 0
  NotAny = wholly_any (ty w.type-shape w.type-scalar) ≡ false

  -- an All spec, and a Def, against a type whose scalar is seen as v
  pub record AllAgainst (content : ℕ) (v : View) : Type 0 where
    pub not-any : NotAny
    pub place : ℕ
    pub all : SeenAll s place (max_depth - 1) w.spec-scalar content
    pub view : Viewed t w.type-scalar v

  pub record DefAgainst (name : ℕ) (named : Bool) (fields limit : ℕ) (v : View) : Type 0 where
    pub not-any : NotAny
    pub place : ℕ
    pub def : SeenDef s place (max_depth - 1) w.spec-scalar name named fields limit
    pub view : Viewed t w.type-scalar v

  -- A named Def against a type that becomes n copies of a type, which stands at `other`, is so many types and so deep.
  pub record Copying (n many deep other : ℕ) (fresh : Bool) (name fields limit : ℕ) : Type 0 where
    pub not-any : NotAny
    pub place : ℕ
    pub def : SeenDef s place (max_depth - 1) w.spec-scalar name true fields limit
    pub number : n ≡ fields_for w.type-shape limit
    pub copy : Ty
    pub is : (title : List ℕ) → def.label ≡ some title → as_named o a w.type-shape w.type-scalar title limit ≡ as_copies o a w.type-shape title limit copy
    pub there : TypeAt (cond fresh any_bytes t) other max_depth copy
    pub wide : many ≡ types copy
    pub high : deep ≡ depth copy

-- A plan where the spec must be a superset, and one where the spec's scalar, of the type at i, is taken.
abbrev pub PlannedKeep : Bool → Result Plan Reason → Type 0
PlannedKeep over r = (s t : List ℕ) (o a : ℕ) (x : Outcome Scalar) (k l : Scalar) → x ≡ cond over (accepted l) (refused wrong_scalar 0) → Plans s t o a x k l r

abbrev pub PlannedTake : List ℕ → ℕ → ℕ → ℕ → Result Plan Reason → Type 0
PlannedTake s i o a r =
    (t : List ℕ) (x : Outcome Scalar) (u : Ty) (l : Scalar) → TypeAt s i max_depth u → x ≡ measured (limited o a) (scalar_of u) → Plans s t o a x (scalar_of u) l r

-- A plan for whatever pair is so known.
abbrev pub PlannedAll : List ℕ → ℕ → ℕ → View → ℕ → ℕ → Result Plan Reason → Type 0
PlannedAll s i content v o a r = (t : List ℕ) (j : ℕ) (w : Pair s i t j o a) → AllAgainst w content v → Planned w r

abbrev pub PlannedDef : List ℕ → ℕ → ℕ → Bool → ℕ → ℕ → View → ℕ → ℕ → Result Plan Reason → Type 0
PlannedDef s i name has fields limit v o a r = (t : List ℕ) (j : ℕ) (w : Pair s i t j o a) → DefAgainst w name has fields limit v → Planned w r

abbrev pub PlannedCopies : ℕ → ℕ → ℕ → ℕ → Bool → ℕ → ℕ → ℕ → ℕ → ℕ → Result Plan Reason → Type 0
PlannedCopies n many deep other fresh name fields limit o a r =
    (s t : List ℕ) (i j : ℕ) (w : Pair s i t j o a) → Copying w n many deep other fresh name fields limit → Planned w r

abbrev pub PlannedNamed : ℕ → ℕ → ℕ → Shape → List ℕ → View → ℕ → ℕ → Result Plan Reason → Type 0
PlannedNamed name fields limit p t v o a r =
    (s : List ℕ) (i j : ℕ) (w : Pair s i t j o a) → p ≡ w.type-shape → DefAgainst w name true fields limit v → Planned w r
