-- What a spec's scalar asks of a type's: one law for each way out of a function that plans it.
use Prim.Native.Nat.{ℕ, zero, suc, ◌+◌, ◌-◌, ◌*◌, ◌≤◌, ◌<◌}
use native.Mathlib.Numerals.{add-one}
use native.Mathlib.Omega.{arith}
use mathlib.Core.Bool.{Bool, true, false, not, ◌&&◌, cond}
use mathlib.Core.List.{List, [], ◌∷◌}
use mathlib.Core.Option.{Option, none, some}
use mathlib.Core.Path.{◌≡◌, refl, sym, ◌∙◌, ap}
use lib.ListN.{length, get_or}
use lib.Dec.{eqb, leb}
use borrow.Author.Tests.{eq-eqb, ne_eqb, le-leb, lt-leb, not-true, not-false}
use Rattle.model.specs.Limits.{ones, max_fields, max_types, max_depth}
use Rattle.model.specs.Refusals.{wrong_scalar, too_many}
use Rattle.model.specs.Types.{Dim, static, unknown, Shape, shape, Kind, any, Scalar, plain, box_any, box_all, box_def, Fields, no_fields, field, Ty, ty, shape_of, scalar_of, field_of, field_count, inside, among, below, deepest, types, depth}
use Rattle.format.specs.Records.{code, box_code, dim_of, write_shape, write_scalar, write_ty}
use Rattle.format.specs.Outcome.{Outcome, accepted, refused, mapped}
use Rattle.format.specs.Views.{stands-all}
use Rattle.record.specs.Answers.{dims_of, closing_for, shape_for}
use Rattle.record.specs.declared.DynShape.{DynShape}
use Rattle.record.proofs.ByValue.{size-at}
use Rattle.rules.specs.Order.{code_of}
use Rattle.rules.specs.Scalars.{superset_codes, superset_of}
use Rattle.rules.specs.Shapes.{is_any}
use Rattle.rules.specs.Types.{any_ty, wholly_any, copies}
use Rattle.rules.proofs.FieldsLaws.{copies-count}
use Rattle.validation.specs.CheckShape.{unsided, check_shape}
use Rattle.validation.specs.AsFields.{measured, fields_for, as_box, named, as_fields, copied}
use Rattle.validation.specs.CheckScalar.{◌>>=◌, in_turn, each_field, on_all, on_def, check_scalar, check_fields}
use Rattle.validation.proofs.OutcomeLaws.{and_rest}
use Rattle.validation.specs.MeasureLaws.{limited, fields_limited}
use Rattle.validation.proofs.MeasureLaws.{limited-true}
use Rattle.validation.proofs.CheckScalarSteps.{check_any, check_plain, check_box_any, check_all, check_def, on_all-all, on_all-def, on_def-def, all-begun, def-begun, copies-among, copies-deepest, copied-limited}
use Rattle.limits.specs.Codes.{code_for}
use Rattle.limits.specs.contracts.codes.Kind.{the_type}
use Rattle.limits.specs.declared.codes.Kind.{Kind as CodeKind}
use Rattle.limits.specs.declared.codes.Kind.TheVariants as kinds
use Rattle.limits.specs.declared.codes.Kind.TheVariants.{Any}
use denote.Enum.Bare.{sameb}
use Rattle.known.specs.Known.{TypeAt, ScalarAt, NameAt, SpanIs, is_named, Seen, SeenPlain, SeenAny, SeenAll, SeenDef}
use Rattle.known.proofs.KnownLaws.{type_deeper, fields_deeper, scalar-behind}
use Rattle.known.specs.declared.Span.{Span}
use Rattle.known.specs.declared.View.{View}
use Rattle.known.specs.declared.View.TheVariants.{Plain, BoxAny, BoxAll, BoxDef}
use Rattle.validate.specs.Lists.{ListAt}
use Rattle.validate.specs.Plans.{SomeView, Pair, scalar_after, any_bytes, InsideIs, PairsAre, Viewed, NotAny, AllAgainst, DefAgainst, as_named, as_copies, Copying}
use Rattle.validate.specs.declared.Items.{Items}
use Rattle.validate.proofs.ListLaws.{has, list_copies}

-- the depth of what a type's scalar holds
abbrev pub within : ℕ
within = max_depth - 1

abbrev pub items : ℕ → ℕ → Bool → Items
items at count moves = record { at = at; count = count; moves = moves }

-- ---- what stands inside stands as any type and any fields do

module _ {s : List ℕ} {p c : ℕ} {k : Scalar} (x : SeenAll s p within k c) where
  pub content-there : TypeAt s c max_depth (ty x.shape x.scalar)
  content-there = type_deeper s c within (omega arith) x.there

module _ {s : List ℕ} {p name fields count : ℕ} {has : Bool} {k : Scalar} (x : SeenDef s p within k name has fields count) where
  pub fields-there : ListAt true s fields x.held
  fields-there = fields_deeper s fields within (omega arith) x.there

-- ---- views

-- a view of a type's scalar, which begins at `place`
pub view_of : {s : List ℕ} {at place : ℕ} → ((d : ℕ) (t : Ty) → TypeAt s at d t → place ≡ at + length (write_shape (shape_of t))) → {v : View}
    → ((d : ℕ) (k : Scalar) → ScalarAt s place d k → Seen s place d k v) → (t : Ty) → TypeAt s at max_depth t → Viewed s (scalar_of t) v
view_of {s} {at} {place} begins seen t h = record { place = place; seen = seen within (scalar_of t) (scalar-behind s at begins max_depth t h) }

module _ {s : List ℕ} {k : Scalar} {v : View} (x : Viewed s k v) where
  pub as_plain : {c : CodeKind} {e : ℕ} → v ≡ Plain c e → SeenPlain x.place k (code_for c) e
  as_plain e = rw e at x.seen

  pub some-view : SomeView v
  some-view = record { bytes = s; has = record { scalar = k; viewed = x } }

  pub as_box-any : {e : ℕ} → v ≡ BoxAny e → k ≡ box_any
  as_box-any {e = n} e = let h : SeenAny x.place k n = rw e at x.seen in h.is

  pub as_box-all : {c : ℕ} → v ≡ BoxAll c → SeenAll s x.place within k c
  as_box-all e = rw e at x.seen

  pub as_box-def : {n f c : ℕ} {b : Bool} → v ≡ BoxDef n b f c → SeenDef s x.place within k n b f c
  as_box-def e = rw e at x.seen

  -- the code of the kind that is seen
  pub code_plain : {c : CodeKind} {e : ℕ} → v ≡ Plain c e → code_for c ≡ code_of k
  unfolding code_of
  code_plain e = let h = as_plain e in sym (ap code_of h.is ∙ h.coded)

  pub code_box_any : {e : ℕ} → v ≡ BoxAny e → box_code ≡ code_of k
  unfolding code_of
  code_box_any e = sym (ap code_of (as_box-any e))

  pub code_box_all : {c : ℕ} → v ≡ BoxAll c → box_code ≡ code_of k
  unfolding code_of
  code_box_all e = sym (ap code_of (as_box-all e).is)

  pub code_box_def : {n f c : ℕ} {b : Bool} → v ≡ BoxDef n b f c → box_code ≡ code_of k
  unfolding code_of
  code_box_def e = sym (ap code_of (as_box-def e).is)

pub tested : (x : Outcome Scalar) (l : Scalar) {t b : Bool} → x ≡ cond t (accepted l) (refused wrong_scalar 0) → b ≡ t → x ≡ cond b (accepted l) (refused wrong_scalar 0)
tested x l e q = e ∙ ap (λ c. cond c (accepted l) (refused wrong_scalar 0)) (sym q)

-- a name's flag is known
pub def_flag : {s : List ℕ} {p : ℕ} {k : Scalar} {n f c : ℕ} {a b : Bool} → SeenDef s p within k n a f c → a ≡ b → SeenDef s p within k n b f c
def_flag h e = rw e at h

-- the test for the kind Any
pub tests_any : (k : CodeKind) → sameb the_type k Any ≡ eqb (code_for k) (code_for Any)
tests_any = elim [
  | kinds.Bool ↦ refl
  | kinds.Nat ↦ refl
  | kinds.Int ↦ refl
  | kinds.Num ↦ refl
  | kinds.Complex ↦ refl
  | kinds.Ascii ↦ refl
  | kinds.Char ↦ refl
  | kinds.Stream ↦ refl
  | kinds.Box ↦ refl
  | Any ↦ refl
]

pub any_tested : (k : CodeKind) {a b : Bool} → a ≡ sameb the_type k Any → a ≡ b → eqb (code_for k) 9 ≡ b
any_tested k e f = sym (tests_any k) ∙ sym e ∙ f

module _ (p : Shape) (k : Scalar) {m : Bool} (e : m ≡ is_any p) where
  pub not_any : m ≡ false → m ≡ wholly_any (ty p k)
  unfolding wholly_any
  not_any h = rw (← e, h)

  pub any_by_code : {c : ℕ} → m ≡ true → c ≡ code_of k → eqb c 9 ≡ wholly_any (ty p k)
  unfolding wholly_any code
  any_by_code h f = rw (← e, h, f)

-- ---- the number of fields

pub for_open : (o d : List Dim) (n : ℕ) → n ≡ fields_for (shape o (some d)) n
unfolding fields_for
for_open [] d n = refl
for_open (unknown ∷ o) d n = refl
for_open (static m ∷ []) d n = refl
for_open (static m ∷ e ∷ o) d n = refl

pub for_many : (o : List Dim) (c : Option (List Dim)) (n : ℕ) → (length o ≡ 1 → ⊥) → n ≡ fields_for (shape o c) n
unfolding fields_for
for_many [] c n h = refl
for_many (unknown ∷ o) c n h = refl
for_many (static m ∷ []) c n h = absurd (h refl)
for_many (static m ∷ e ∷ o) c n h = refl

module _ (o : List Dim) (n : ℕ) (h : length o ≡ 1) (x : ℕ) (e : dim_of x ≡ get_or o 0 unknown) where
  pub for_unknown : x ≡ ones → n ≡ fields_for (shape o none) n
  unfolding fields_for
  for_unknown u = go o h (sym e ∙ rw (eq-eqb x ones u))
    where
      go : (o : List Dim) → length o ≡ 1 → get_or o 0 unknown ≡ unknown → n ≡ fields_for (shape o none) n
      go [] h e = absurd (omega arith)
      go (unknown ∷ o) h e = refl
      go (static m ∷ o) h e = let z : ◌≡◌ {A = ℕ} 0 1 = cc in absurd (omega arith)

  pub for_one : (x ≡ ones → ⊥) → x ≡ fields_for (shape o none) n
  unfolding fields_for
  for_one u = go o h (sym e ∙ rw (ne_eqb x ones u))
    where
      go : (o : List Dim) → length o ≡ 1 → get_or o 0 unknown ≡ static x → x ≡ fields_for (shape o none) n
      go [] h e = absurd (omega arith)
      go (unknown ∷ o) h e = let z : ◌≡◌ {A = ℕ} 0 1 = cc in absurd (omega arith)
      go (static m ∷ []) h e = cc
      go (static m ∷ d ∷ o) h e = absurd (omega arith)

module _ (t : DynShape) (n : ℕ) where
  pub fields_open : not t.closed ≡ true → n ≡ fields_for (shape_for t) n
  fields_open h = rw (not-true t.closed h) (for_open (dims_of t.dims) (dims_of t.suffix) n)

  pub fields_many : {c : ℕ} → c ≡ length (dims_of t.dims) → (c ≡ 1 → ⊥) → n ≡ fields_for (shape_for t) n
  fields_many e h = for_many (dims_of t.dims) (closing_for t) n (λ q. h (e ∙ q))

  module _ {c : ℕ} (h : not t.closed ≡ false) (e : c ≡ length (dims_of t.dims)) (one : c ≡ 1) where
    pub fields_unknown : get_or t.dims.sizes 0 0 ≡ ones → n ≡ fields_for (shape_for t) n
    fields_unknown u = rw (not-false t.closed h) (for_unknown (dims_of t.dims) n (sym e ∙ one) (get_or t.dims.sizes 0 0) (size-at t.dims 0 (omega arith)) u)

    pub fields_one : (get_or t.dims.sizes 0 0 ≡ ones → ⊥) → get_or t.dims.sizes 0 0 ≡ fields_for (shape_for t) n
    fields_one u = rw (not-false t.closed h) (for_one (dims_of t.dims) n (sym e ∙ one) (get_or t.dims.sizes 0 0) (size-at t.dims 0 (omega arith)) u)

-- ---- names

pub name-none : (n : Option (List ℕ)) {b : Bool} → b ≡ is_named n → b ≡ false → n ≡ none
name-none none e f = refl
name-none (some n) {b} e f = let q : true ≡ false = sym e ∙ f in let z : ◌≡◌ {A = ℕ} 0 1 = cc in absurd (omega arith)

pub name-some : {C : Type 0} (n : Option (List ℕ)) {b : Bool} → b ≡ is_named n → b ≡ true → ((m : List ℕ) → n ≡ some m → C) → C
name-some none e f k = let q : false ≡ true = sym e ∙ f in let z : ◌≡◌ {A = ℕ} 0 1 = cc in absurd (omega arith)
name-some (some n) e f k = k n refl

-- ---- [..] Any

pub any-there : TypeAt any_bytes 0 max_depth any_ty
unfolding write_shape write_scalar write_ty code inside below
any-there = record { stands = stands-all any_bytes (write_ty any_ty) refl; records = (((omega arith, tt), (omega arith, tt)), tt); few = omega arith; shallow = omega arith }

pub any-types : 1 ≡ types any_ty
unfolding inside
any-types = refl

pub any-depth : 1 ≡ depth any_ty
unfolding below
any-depth = refl

-- ---- an All spec against each field is a list of copies of its content

-- the fields after a field r, by either list
abbrev after_each : Shape → Scalar → Fields → (Fields → Bool) → Ty → Outcome Fields
after_each p k g keeps r = each_field (check_scalar k) p (λ h. keeps (field_of r h)) g

abbrev after_copy : Shape → Scalar → Fields → ℕ → (Fields → Bool) → Ty → Outcome Fields
after_copy p k g n keeps r = check_fields (copies n (ty p k)) (λ h. keeps (field_of r h)) g

each-copies : (p : Shape) (k : Scalar) (g : Fields) (n : ℕ) (keeps : Fields → Bool) → field_count g ≡ n → each_field (check_scalar k) p keeps g ≡ check_fields (copies n (ty p k)) keeps g
unfolding each_field check_fields copies
each-copies p k no_fields zero keeps e = refl
each-copies p k no_fields (suc n) keeps e = absurd (omega arith)
each-copies p k (field q l g) zero keeps e = absurd (omega arith)
each-copies p k (field q l g) (suc n) keeps e = go (λ c. each-copies p k g n c (omega arith)) (in_turn (check_scalar k (λ x. keeps (field q x g)) q l) (check_shape unsided p q))
  where
    go : ((c : Fields → Bool) → each_field (check_scalar k) p c g ≡ check_fields (copies n (ty p k)) c g) → (u : Outcome Ty) → and_rest u (after_each p k g keeps) ≡ and_rest u (after_copy p k g n keeps)
    go same (accepted r) = rw (same (λ h. keeps (field_of r h)))
    go same (refused m q) = refl

-- the type's scalar stays if the spec's code covers its code
abbrev covered : Scalar → ℕ → ℕ → Outcome Scalar
covered l c d = cond (superset_codes c d) (accepted l) (refused wrong_scalar 0)

-- an All box with a content, and a Def with fields, on a scalar
abbrev all_on : ℕ → ℕ → Shape → Scalar → Scalar → Outcome Scalar
all_on o a p k l = on_all (check_scalar k) p k (limited o a) l

all_on-plain : (o a : ℕ) (p : Shape) (k : Scalar) (l : Kind) {d : ℕ} → code l ≡ d → all_on o a p k (plain l) ≡ covered (plain l) box_code d
unfolding on_all superset_of code_of
all_on-plain o a p k l e = rw (← e)

all_on-any : (o a : ℕ) (p : Shape) (k : Scalar) → all_on o a p k box_any ≡ measured (limited o a) (box_all p k)
unfolding on_all
all_on-any o a p k = refl

abbrev def_on : ℕ → ℕ → Fields → Option (List ℕ) → Scalar → Outcome Scalar
def_on o a f n l = on_def (check_fields f) n f (limited o a) l

module _ {s : List ℕ} {i : ℕ} {t : List ℕ} {j o a : ℕ} (w : Pair s i t j o a) where
  -- a plan of pairs
  abbrev PairsOf : Items → Items → Bool → ℕ → Bool → Type 0
  PairsOf = PairsAre s t o a (scalar_after w) w.spec-scalar w.type-scalar

  -- ---- a wholly Any type, a kind, and box Any

  pub plan_any : wholly_any (ty w.type-shape w.type-scalar) ≡ true → scalar_after w ≡ measured (limited o a) w.spec-scalar
  plan_any h = check_any w.spec-scalar (limited o a) w.type-shape w.type-scalar h

  module _ (z : NotAny w) where
    pub plan_plain : {p c e d : ℕ} → SeenPlain p w.spec-scalar c e → d ≡ code_of w.type-scalar → scalar_after w ≡ covered w.type-scalar c d
    unfolding superset_of code_of
    plan_plain x e = rw x.is (check_plain (limited o a) w.type-shape w.type-scalar z x.kind ∙ rw (x.coded, e))

    pub plan_box_any : {d : ℕ} → w.spec-scalar ≡ box_any → d ≡ code_of w.type-scalar → scalar_after w ≡ covered w.type-scalar box_code d
    unfolding superset_of code_of
    plan_box_any x e = rw x (check_box_any (limited o a) w.type-shape w.type-scalar z ∙ rw e)

  -- ---- an All spec

  module _ {c : ℕ} {v : View} (known : AllAgainst w c v) where
    abbrev all : SeenAll s known.place within w.spec-scalar c
    all = known.all

    all-is : scalar_after w ≡ all_on o a all.shape all.scalar w.type-scalar
    all-is = ap (λ k. check_scalar k (limited o a) w.type-shape w.type-scalar) all.is ∙ (check_all (limited o a) w.type-shape w.type-scalar known.not-any all.shape all.scalar)

    pub all_plain : {d : CodeKind} {e : ℕ} → v ≡ Plain d e → scalar_after w ≡ covered w.type-scalar box_code (code_for d)
    all_plain {d = d} q =
        let y = as_plain known.view q in
        all-is ∙ ap (all_on o a all.shape all.scalar) y.is ∙ all_on-plain o a all.shape all.scalar y.kind y.coded ∙ ap (λ l. covered l box_code (code_for d)) (sym y.is)

    pub all_any : {e : ℕ} → v ≡ BoxAny e → scalar_after w ≡ measured (limited o a) w.spec-scalar
    all_any q = all-is ∙ ap (all_on o a all.shape all.scalar) (as_box-any known.view q) ∙ all_on-any o a all.shape all.scalar ∙ ap (measured (limited o a)) (sym all.is)

    pub all-inside : {d : ℕ} → v ≡ BoxAll d → InsideIs s t o a (scalar_after w) w.spec-scalar w.type-scalar c d
    all-inside q = let y = as_box-all known.view q in record {
      inner = record {
        spec-shape = all.shape;
        spec-scalar = all.scalar;
        type-shape = y.shape;
        type-scalar = y.scalar;
        spec-there = content-there all;
        type-there = content-there y;
        limits = rw (add-one o, add-one a) (all-begun o a y.shape y.scalar (rw y.is at w.limits));
      };
      is = all-is ∙ ap (all_on o a all.shape all.scalar) y.is ∙ rw (add-one o, add-one a) (on_all-all o a all.shape y.shape all.scalar y.scalar);
    }

    pub all_pairs : {n f m : ℕ} {b : Bool} → v ≡ BoxDef n b f m → PairsOf (items c m false) (items f m true) false n false
    all_pairs {n} {f} {m} q =
        let y = as_box-def known.view q in
        let each = each-copies all.shape all.scalar y.held m (fields_limited (suc o) (suc a)) (sym y.counted) in
        record {
          label = y.label;
          titled = y.titled;
          few = rw y.counted y.there.numbered;
          inner = record {
            spec-fields = copies m (ty all.shape all.scalar);
            type-fields = y.held;
            spec_list = list_copies s c (ty all.shape all.scalar) (content-there all) m;
            spec-count = copies-count m (ty all.shape all.scalar);
            type_list = fields-there y;
            type-count = sym y.counted;
            limits = rw (add-one o, add-one a) (def-begun o a y.label y.held (rw y.is at w.limits));
          };
          is =
              all-is
              ∙ ap (all_on o a all.shape all.scalar) y.is
              ∙ on_all-def o a all.shape all.scalar y.label y.held
              ∙ ap (mapped (box_def y.label)) each
              ∙ rw (add-one o, add-one a);
        }

  -- ---- a Def spec

  module _ {q nm fl ct : ℕ} {has : Bool} (z : NotAny w) (x : SeenDef s q within w.spec-scalar nm has fl ct) where
    def_is : scalar_after w ≡ (as_fields (limited o a) x.label (field_count x.held) w.type-shape w.type-scalar >>= def_on o a x.held x.label)
    def_is = ap (λ k. check_scalar k (limited o a) w.type-shape w.type-scalar) x.is ∙ (check_def (limited o a) w.type-shape w.type-scalar z x.label x.held)

    -- two Defs: the fields pair by pair, under a name that stands where it is said to
    module _ {p n f m : ℕ} {b : Bool} (y : SeenDef t p within w.type-scalar n b f m) where
      abbrev paired : Option (List ℕ) → Outcome Scalar
      paired label = mapped (box_def label) (check_fields x.held (fields_limited (suc o) (suc a)) y.held)

      def_pairs : (label : Option (List ℕ)) (name : ℕ) (borrowed : Bool) → NameAt (cond borrowed s t) name label → scalar_after w ≡ paired label → PairsOf (items fl ct true) (items f m true) false name borrowed
      def_pairs label name borrowed titled is = record {
        label = label;
        titled = titled;
        few = rw y.counted y.there.numbered;
        inner = record {
          spec-fields = x.held;
          type-fields = y.held;
          spec_list = fields-there x;
          spec-count = sym x.counted;
          type_list = fields-there y;
          type-count = sym y.counted;
          limits = rw (add-one o, add-one a) (def-begun o a y.label y.held (rw y.is at w.limits));
        };
        is = is ∙ rw (add-one o, add-one a);
      }

    -- ---- without a name

    module _ (e : x.label ≡ none) where
      unnamed-is : scalar_after w ≡ def_on o a x.held none w.type-scalar
      unfolding as_fields
      unnamed-is = def_is ∙ rw e

      bare-plain : {p d f : ℕ} → SeenPlain p w.type-scalar d f → scalar_after w ≡ covered w.type-scalar box_code d
      unfolding on_def superset_of code_of
      bare-plain y = unnamed-is ∙ rw (y.is, ← y.coded)

      bare-any : w.type-scalar ≡ box_any → scalar_after w ≡ measured (limited o a) w.spec-scalar
      unfolding on_def
      bare-any y = unnamed-is ∙ rw (y, x.is, e)

      bare-all : {p d : ℕ} → SeenAll t p within w.type-scalar d → scalar_after w ≡ accepted w.type-scalar
      unfolding on_def
      bare-all y = unnamed-is ∙ rw y.is

      bare_pairs : {p n f m : ℕ} {b : Bool} → SeenDef t p within w.type-scalar n b f m → PairsOf (items fl ct true) (items f m true) false n false
      bare_pairs {n = n} y = def_pairs y y.label n false y.titled (unnamed-is ∙ ap (def_on o a x.held none) y.is ∙ on_def-def o a none y.label x.held y.held)

    -- ---- with a name

    module _ (title : List ℕ) (e : x.label ≡ some title) where
      named-is : scalar_after w ≡ (as_named o a w.type-shape w.type-scalar title ct >>= def_on o a x.held (some title))
      unfolding as_fields
      named-is = def_is ∙ rw (e, ← x.counted)

      titled-plain : {p d f : ℕ} → SeenPlain p w.type-scalar d f → eqb d 9 ≡ false → scalar_after w ≡ covered w.type-scalar box_code d
      unfolding as_box named on_def superset_of code_of code
      titled-plain {d = d} y h = named-is ∙ rw (y.is, y.coded) (go h)
        where
          go : eqb d 9 ≡ false
              → (named (limited o a) title (fields_for w.type-shape ct) (cond (eqb d 9) box_any (plain y.kind)) >>= def_on o a x.held (some title)) ≡ cond (superset_codes box_code d) (accepted (plain y.kind)) (refused wrong_scalar 0)
          go q = rw (q, ← y.coded)

      titled-own : {p n f m : ℕ} {b : Bool} (y : SeenDef t p within w.type-scalar n b f m) → b ≡ true → PairsOf (items fl ct true) (items f m true) false n false
      unfolding as_box named
      titled-own {n = n} y h = def_pairs y y.label n false y.titled (name-some y.label y.known h λ m q. named-is ∙ rw (y.is, q) (on_def-def o a (some title) (some m) x.held y.held))

      titled-given : {p n f m : ℕ} {b : Bool} (y : SeenDef t p within w.type-scalar n b f m) → b ≡ false → PairsOf (items fl ct true) (items f m true) false nm true
      unfolding as_box named
      titled-given y h = def_pairs y x.label nm true x.titled (named-is ∙ rw (y.is, name-none y.label y.known h, e) (on_def-def o a (some title) (some title) x.held y.held))

      -- ---- copies of u, as what the type's scalar holds

      module _ (u : Ty) (holds : as_named o a w.type-shape w.type-scalar title ct ≡ as_copies o a w.type-shape title ct u) {n : ℕ} (number : n ≡ fields_for w.type-shape ct) where
        abbrev made : Scalar
        made = box_def (some title) (copies n u)

        copies_are : scalar_after w ≡ (measured (limited o a) made >>= def_on o a x.held (some title))
        copies_are = named-is ∙ ap (λ r. r >>= def_on o a x.held (some title)) (holds ∙ ap (λ k. copied (limited o a) title k u) (sym number) ∙ copied-limited o a title n u)

        copies-over : limited o a made ≡ false → scalar_after w ≡ refused too_many 0
        copies-over h = copies_are ∙ rw h

        copies-above : max_fields < n → scalar_after w ≡ refused too_many 0
        unfolding copied
        copies-above h =
            let over : as_copies o a w.type-shape title ct u ≡ refused too_many 0 = rw (← number, lt-leb n max_fields h) in
            named-is ∙ rw (holds, over)

        copies_pairs : (fresh : Bool) (other : ℕ) → TypeAt (cond fresh any_bytes t) other max_depth u → n ≤ max_fields → limited o a made ≡ true → PairsOf (items fl ct true) (items other n false) fresh nm true
        copies_pairs fresh other there few h = record {
          label = x.label;
          titled = x.titled;
          few = few;
          inner = record {
            spec-fields = x.held;
            type-fields = copies n u;
            spec_list = fields-there x;
            spec-count = sym x.counted;
            type_list = list_copies (cond fresh any_bytes t) other u there n;
            type-count = copies-count n u;
            limits = rw (add-one o, add-one a) (def-begun o a (some title) (copies n u) h);
          };
          is = copies_are ∙ rw (h, e, add-one o, add-one a) (on_def-def o a (some title) (some title) x.held (copies n u));
        }

      holds_plain : {p d f : ℕ} → SeenPlain p w.type-scalar d f → eqb d 9 ≡ true → as_named o a w.type-shape w.type-scalar title ct ≡ as_copies o a w.type-shape title ct any_ty
      unfolding as_box named code
      holds_plain y h = rw (y.is, y.coded, h)

      holds_any : w.type-scalar ≡ box_any → as_named o a w.type-shape w.type-scalar title ct ≡ as_copies o a w.type-shape title ct any_ty
      unfolding as_box named
      holds_any y = rw y

      holds_all : {p d : ℕ} (y : SeenAll t p within w.type-scalar d) → as_named o a w.type-shape w.type-scalar title ct ≡ as_copies o a w.type-shape title ct (ty y.shape y.scalar)
      unfolding as_box named
      holds_all y = rw y.is

  -- ---- a Def spec without a name against what was seen

  module _ {nm fl ct : ℕ} {v : View} (known : DefAgainst w nm false fl ct v) where
    bare : known.def.label ≡ none
    bare = name-none known.def.label known.def.known refl

    pub unnamed-plain : {d : CodeKind} {e : ℕ} → v ≡ Plain d e → scalar_after w ≡ covered w.type-scalar box_code (code_for d)
    unnamed-plain q = bare-plain known.not-any known.def bare (as_plain known.view q)

    pub unnamed-any : {e : ℕ} → v ≡ BoxAny e → scalar_after w ≡ measured (limited o a) w.spec-scalar
    unnamed-any q = bare-any known.not-any known.def bare (as_box-any known.view q)

    pub unnamed-all : {d : ℕ} → v ≡ BoxAll d → scalar_after w ≡ accepted w.type-scalar
    unnamed-all q = bare-all known.not-any known.def bare (as_box-all known.view q)

    pub unnamed_pairs : {n f m : ℕ} {b : Bool} → v ≡ BoxDef n b f m → PairsOf (items fl ct true) (items f m true) false n false
    unnamed_pairs q = bare_pairs known.not-any known.def bare (as_box-def known.view q)

  -- ---- a Def spec with a name

  module _ {nm fl ct : ℕ} {v : View} (known : DefAgainst w nm true fl ct v) where
    titled : {C : Type 0} → ((title : List ℕ) → known.def.label ≡ some title → C) → C
    titled = name-some known.def.label known.def.known refl

    pub named-plain : {d : CodeKind} {e : ℕ} → v ≡ Plain d e → eqb (code_for d) 9 ≡ false → scalar_after w ≡ covered w.type-scalar box_code (code_for d)
    named-plain q h = titled λ m e. titled-plain known.not-any known.def m e (as_plain known.view q) h

    pub named-own : {n f m : ℕ} {b : Bool} → v ≡ BoxDef n b f m → b ≡ true → PairsOf (items fl ct true) (items f m true) false n false
    named-own q h = titled λ m e. titled-own known.not-any known.def m e (as_box-def known.view q) h

    pub named-given : {n f m : ℕ} {b : Bool} → v ≡ BoxDef n b f m → b ≡ false → PairsOf (items fl ct true) (items f m true) false nm true
    named-given q h = titled λ m e. titled-given known.not-any known.def m e (as_box-def known.view q) h

    -- what is copied n times
    module _ {n : ℕ} (number : n ≡ fields_for w.type-shape ct) where
      made_of : (u : Ty) → ((title : List ℕ) → known.def.label ≡ some title → as_named o a w.type-shape w.type-scalar title ct ≡ as_copies o a w.type-shape title ct u)
          → {many deep other : ℕ} (fresh : Bool) → TypeAt (cond fresh any_bytes t) other max_depth u → many ≡ types u → deep ≡ depth u → Copying w n many deep other fresh nm fl ct
      made_of u is fresh there wide high = record {
        not-any = known.not-any;
        place = known.place;
        def = known.def;
        number = number;
        copy = u;
        is = is;
        there = there;
        wide = wide;
        high = high;
      }

      pub copies_plain : {d : CodeKind} {e : ℕ} → v ≡ Plain d e → eqb (code_for d) 9 ≡ true → Copying w n 1 1 0 true nm fl ct
      copies_plain q h = made_of any_ty (λ m e. holds_plain known.not-any known.def m e (as_plain known.view q) h) true any-there any-types any-depth

      pub copies-any : {e : ℕ} → v ≡ BoxAny e → Copying w n 1 1 0 true nm fl ct
      copies-any q = made_of any_ty (λ m e. holds_any known.not-any known.def m e (as_box-any known.view q)) true any-there any-types any-depth

      pub copies-all : {c : ℕ} (q : v ≡ BoxAll c) (r : Span) → ((u : Ty) → TypeAt t c max_depth u → SpanIs c u r) → Copying w n r.types r.depth c false nm fl ct
      copies-all q r spans =
          let y = as_box-all known.view q in
          let span = spans (ty y.shape y.scalar) (content-there y) in
          made_of (ty y.shape y.scalar) (λ m e. holds_all known.not-any known.def m e y) false (content-there y) span.types span.depth

-- ---- whether copies keep to the limits

module _ (o a : ℕ) (title : List ℕ) (n : ℕ) (u : Ty) {m d : ℕ} (e : m ≡ types u) (f : d ≡ depth u) where
  limited-many : max_types < o + suc (n * m) → limited o a (box_def (some title) (copies n u)) ≡ false
  unfolding limited inside
  limited-many h = rw (copies-among n u, ← e, lt-leb (o + suc (n * m)) max_types h)

  module _ (h : o + suc (n * m) ≤ max_types) where
    limited-none : n ≡ 0 → a + 1 ≤ max_depth → limited o a (box_def (some title) (copies n u)) ≡ true
    unfolding limited inside below copies among deepest
    limited-none z l = rw (z) (go (omega (arith, z)))
      where
        go : o + 1 ≤ max_types → (leb (o + 1) max_types && leb (a + 1) max_depth) ≡ true
        go k = rw (le-leb (o + 1) max_types k, le-leb (a + 1) max_depth l)

    limited-some : {b : Bool} → (n ≡ 0 → ⊥) → leb (a + suc d) max_depth ≡ b → limited o a (box_def (some title) (copies n u)) ≡ b
    unfolding limited inside below
    limited-some {b} z q = go n z (rw (copies-among n u, ← e) h)
      where
        go : (n : ℕ) → (n ≡ 0 → ⊥) → o + suc (among (copies n u)) ≤ max_types → (leb (o + suc (among (copies n u))) max_types && leb (a + suc (deepest (copies n u))) max_depth) ≡ b
        go zero z k = absurd (z refl)
        go (suc n) z k = rw (le-leb (o + suc (among (copies (suc n) u))) max_types k, copies-deepest n u, ← f, q)

pub some_left : (o a : ℕ) (l : Scalar) → limited o a l ≡ true → (o + 1 ≤ max_types) × (a + 1 ≤ max_depth)
some_left o a l h = let r = limited-true o a l h in (omega (arith, r.0), omega (arith, r.1))

module _ {s : List ℕ} {i : ℕ} {t : List ℕ} {j o a : ℕ} (w : Pair s i t j o a) {n many deep other : ℕ} {fresh : Bool} {nm fl ct : ℕ} (x : Copying w n many deep other fresh nm fl ct) where
  copies-titled : {C : Type 0} → ((title : List ℕ) → x.def.label ≡ some title → as_named o a w.type-shape w.type-scalar title ct ≡ as_copies o a w.type-shape title ct x.copy → C) → C
  copies-titled k = name-some x.def.label x.def.known refl λ m e. k m e (x.is m e)

  refused_over : ((title : List ℕ) → limited o a (box_def (some title) (copies n x.copy)) ≡ false) → scalar_after w ≡ refused too_many 0
  refused_over h = copies-titled λ m e is. copies-over w x.not-any x.def m e x.copy is x.number (h m)

  pub too_many-fields : max_fields < n → scalar_after w ≡ refused too_many 0
  too_many-fields h = copies-titled λ m e is. copies-above w x.not-any x.def m e x.copy is x.number h

  pub too_many-types : max_types < o + 1 + n * many → scalar_after w ≡ refused too_many 0
  too_many-types h = refused_over λ m. limited-many o a m n x.copy x.wide x.high (omega arith)

  module _ (few : n ≤ max_fields) (h : o + 1 + n * many ≤ max_types) where
    pub too_deep : 0 < n → max_depth < a + 1 + deep → scalar_after w ≡ refused too_many 0
    too_deep l₀ l = refused_over λ m. limited-some o a m n x.copy x.wide x.high (omega arith) (λ z. omega arith) (lt-leb (a + suc deep) max_depth (omega arith))

    -- and the copies are what becomes of the type's scalar
    abbrev CopyPairs : Type 0
    CopyPairs = PairsAre s t o a (scalar_after w) w.spec-scalar w.type-scalar (items fl ct true) (items other n false) fresh nm true

    made_pairs : ((title : List ℕ) → limited o a (box_def (some title) (copies n x.copy)) ≡ true) → CopyPairs
    made_pairs h = copies-titled λ m e is. copies_pairs w x.not-any x.def m e x.copy is x.number fresh other x.there few (h m)

    pub no_copies : n ≡ 0 → CopyPairs
    no_copies z = made_pairs λ m. limited-none o a m n x.copy x.wide x.high (omega arith) z (some_left o a w.type-scalar w.limits).1

    pub some-copies : 0 < n → a + 1 + deep ≤ max_depth → CopyPairs
    some-copies l q = made_pairs λ m. limited-some o a m n x.copy x.wide x.high (omega arith) (λ z. omega arith) (le-leb (a + suc deep) max_depth (omega arith))

-- ---- what the functions that plan ask of each other

module _ (o a : ℕ) where
  pub limited_over : (t : Ty) {at : ℕ} {r : Span} → SpanIs at t r → max_types < o + r.types → leb (o + r.types) max_types ≡ limited o a (scalar_of t)
  unfolding limited
  limited_over (ty p k) {r = r} span h = rw (lt-leb (o + r.types) max_types h, lt-leb (o + suc (inside k)) max_types (omega (arith, span.types)))

  pub limited_by : (t : Ty) {at : ℕ} {r : Span} → SpanIs at t r → o + r.types ≤ max_types → leb (a + r.depth) max_depth ≡ limited o a (scalar_of t)
  unfolding limited
  limited_by (ty p k) span h = rw (le-leb (o + suc (inside k)) max_types (omega (arith, span.types)), span.depth)

module _ {s : List ℕ} {i : ℕ} {t : List ℕ} {j o a : ℕ} (w : Pair s i t j o a) where
  abbrev pub spec_ty : Ty
  spec_ty = ty w.spec-shape w.spec-scalar

  abbrev pub type_ty : Ty
  type_ty = ty w.type-shape w.type-scalar

  pub pair-bounds : (o ≤ max_types) × (a ≤ max_depth)
  pair-bounds = let r = some_left o a w.type-scalar w.limits in (omega (arith, r.0), omega (arith, r.1))

  module _ {v : View} {seen any : Bool} (b : Viewed t w.type-scalar v) where
    pub wholly : ((d : ℕ) (u : Ty) → TypeAt t j d u → any ≡ is_any (shape_of u)) → ((s : List ℕ) (p : Shape) (k : Scalar) → any ≡ is_any p → Viewed s k v → seen ≡ wholly_any (ty p k)) → wholly_any type_ty ≡ seen
    wholly shaped is = sym (is t w.type-shape w.type-scalar (shaped max_depth type_ty w.type-there) b)

  module _ (z : NotAny w) {u v : View} (x : Viewed s w.spec-scalar u) (b : Viewed t w.type-scalar v) where
    pub all_against : {c : ℕ} → u ≡ BoxAll c → AllAgainst w c v
    all_against e = record { not-any = z; place = x.place; all = as_box-all x e; view = b }

    pub def_against : {n f c : ℕ} {h g : Bool} → u ≡ BoxDef n h f c → h ≡ g → DefAgainst w n g f c v
    def_against e q = record { not-any = z; place = x.place; def = def_flag (as_box-def x e) q; view = b }
