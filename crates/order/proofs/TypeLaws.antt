-- The order of types in their bytes: one law for each way out of a function.
use Prim.Native.Nat.{ℕ, ◌+◌, ◌-◌, ◌≤◌, ◌<◌}
use native.Mathlib.Omega.{arith}
use mathlib.Core.Bool.{Bool}
use mathlib.Core.List.{List, ◌∷◌, ◌++◌}
use mathlib.Core.Option.{Option}
use mathlib.Core.Path.{◌≡◌, refl, sym, ◌∙◌, ap, subst}
use lib.ListN.{length, length-append}
use Rattle.model.specs.Limits.{max_depth}
use Rattle.model.specs.Types.{Shape, Kind, Scalar, plain, box_any, box_all, box_def, Fields, no_fields, field, Ty, ty, shape_of, scalar_of, field_count}
use Rattle.format.specs.Records.{code, box_code, count_of, list_of, write_shape, write_scalar, write_fields, write_ty}
use Rattle.format.specs.Reader.{Bytes}
use Rattle.format.specs.Outcome.{accepted, both, unrefused, refusal_of, lone}
use Rattle.record.specs.Answers.{nothings}
use Rattle.limits.specs.Codes.{code_for}
use Rattle.limits.specs.declared.codes.Kind as codes
use Rattle.std.specs.declared.cmp.Ordering.{Ordering}
use Rattle.std.specs.declared.cmp.Ordering.TheVariants as orders
use Rattle.shape.specs.Answers.{order_of}
use Rattle.rules.specs.Sizes.{Order, less, same, more}
use Rattle.rules.specs.Order.{code_of, cmp_kind, then_by, cmp_shape, cmp_name, cmp_scalar, cmp_fields, compare}
use Rattle.rules.proofs.OrderLaws.{code-box, cmp_kind-same, compare_same}
use Rattle.known.specs.Known.{ScalarAt, TypeAt, NameAt, FieldsAt, HasType, HasScalar, HasName, HasFields, SeenDef, Seen}
use Rattle.known.proofs.KnownLaws.{first_field, rest-fields, type-within, scalar-behind, behind-ends}
use Rattle.known.specs.Whole.{of_types}
use Rattle.known.proofs.WholeLaws.{types-there, has-types}
use Rattle.record.proofs.LoneLaws.{whichever_of, whichever_both}
use Rattle.known.specs.declared.View.{View}
use Rattle.known.specs.declared.View.TheVariants.{Plain, BoxAny, BoxAll, BoxDef}
use Rattle.order.specs.Answers.{ranking_of, FieldsRanked}
use Rattle.order.proofs.AnswerLaws.{ranking_less, ranking_same, ranking_more}
use Rattle.order.specs.declared.Ranking.{Ranking}
use Rattle.order.specs.declared.Ranking.TheVariants.{Less, Same, More}

-- ---- scalars by their views

all-length : (o : Shape) (k : Scalar) → length (write_scalar (box_all o k)) ≡ 6 + length (write_ty (ty o k))
unfolding write_scalar write_ty
all-length o k = omega arith

def-length : (n : Option (List ℕ)) (f : Fields) → length (write_scalar (box_def n f)) ≡ 6 + length (count_of n ∷ list_of n) + 1 + length (write_fields f)
unfolding write_scalar
def-length n f = simp length-append (omega arith)

plain-kind : (k l : Scalar) (m : Kind) {c y : ℕ} → k ≡ plain m → code m ≡ c → y ≡ code_of l → cmp_kind c y ≡ cmp_scalar k l
unfolding cmp_scalar
plain-kind k l m e f g = rw (e, ← f, g)

-- a box and a kind are never the same, so the place does not matter
never_same : (l : Kind) (m n : ℕ) → ranking_of (cmp_kind box_code (code l)) m ≡ ranking_of (cmp_kind box_code (code l)) n
never_same l m n = go (cmp_kind box_code (code l)) (λ same. code-box l (sym (cmp_kind-same box_code (code l) same)))
  where
    go : (o : Order) → (o ≡ same → ⊥) → ranking_of o m ≡ ranking_of o n
    go less d = refl
    go same d = absurd (d refl)
    go more d = refl

box-kind : (k l : Scalar) (m : Kind) {c : ℕ} → code_of k ≡ box_code → l ≡ plain m → code m ≡ c → cmp_scalar k l ≡ cmp_kind box_code c
unfolding code_of cmp_scalar
box-kind (plain k) l m e f g = absurd (code-box k e)
box-kind box_any l m e f g = rw (f, g)
box-kind (box_all s k) l m e f g = rw (f, g)
box-kind (box_def t h) l m e f g = rw (f, g)

by-content : (k l : Scalar) (o p : Shape) (m n : Scalar) → k ≡ box_all o m → l ≡ box_all p n → compare (ty o m) (ty p n) ≡ cmp_scalar k l
unfolding cmp_scalar compare
by-content k l o p m n e f = rw (e, f)

-- what was said of the bytes at a place: what a scalar is; where a type's scalar begins; what its shape is
abbrev pub Looked : List ℕ → ℕ → View → Type 0
Looked s at v = (d : ℕ) (k : Scalar) → ScalarAt s at d k → Seen s at d k v

abbrev pub Starts : List ℕ → ℕ → ℕ → Type 0
Starts s at p = (d : ℕ) (t : Ty) → TypeAt s at d t → p ≡ at + length (write_shape (shape_of t))

abbrev pub Shaped : List ℕ → ℕ → Shape → Type 0
Shaped s at o = (d : ℕ) (t : Ty) → TypeAt s at d t → o ≡ shape_of t

module _ (s : List ℕ) (at d : ℕ) {v : View} (looked : Looked s at v) where
  pub seen : {x : View} → v ≡ x → (k : Scalar) → ScalarAt s at d k → Seen s at d k x
  seen e k h = subst (Seen s at d k) e (looked d k h)

  kind : {c : codes.Kind} {e : ℕ} (m : ℕ) {r : Ranking} → v ≡ Plain c e → r ≡ ranking_of (cmp_kind box_code (code_for c)) m → (k l : Scalar) → code_of k ≡ box_code → ScalarAt s at d l → (n : ℕ) → r ≡ ranking_of (cmp_scalar k l) n
  kind {c} {e} m f is k l boxed g n =
      let y = seen f l g in
      let other : (x : ℕ) → code y.kind ≡ x → ranking_of (cmp_kind box_code x) m ≡ ranking_of (cmp_kind box_code x) n = λ x h. rw (← h) (never_same y.kind m n) in
      is ∙ (other (code_for c) y.coded ∙ ap (λ o. ranking_of o n) (sym (box-kind k l y.kind boxed y.is y.coded)))

module _ (a : List ℕ) (i : ℕ) (b : List ℕ) (j d : ℕ) where
  abbrev pub Ranked : Ranking → Type 0
  Ranked r = (k l : Scalar) → ScalarAt a i d k → ScalarAt b j d l → r ≡ ranking_of (cmp_scalar k l) (i + length (write_scalar k))

  module _ {v : View} (first : Looked a i v) where
    pub by_kinds : {c : codes.Kind} (y : codes.Kind) {end : ℕ} {r : Ranking} → v ≡ Plain c end → ((d : ℕ) (l : Scalar) → ScalarAt b j d l → code_for y ≡ code_of l) → r ≡ ranking_of (cmp_kind (code_for c) (code_for y)) end → Ranked r
    by_kinds {c} y {end} e code_is is k l h g =
        let x = seen a i d first e k h in
        let kinds = plain-kind k l x.kind x.is x.coded (code_is d l g) in
        is ∙ (ap (ranking_of (cmp_kind (code_for c) (code_for y))) x.ends ∙ ap (λ o. ranking_of o (i + length (write_scalar k))) kinds)

    module _ {w : View} (second : Looked b j w) where
      -- box Any
      module _ {end : ℕ} (e : v ≡ BoxAny end) where
        pub any_kind : {c : codes.Kind} {n : ℕ} {r : Ranking} → w ≡ Plain c n → r ≡ ranking_of (cmp_kind box_code (code_for c)) end → Ranked r
        unfolding code_of
        any_kind f is k l h g = kind b j d second end f is k l (rw (seen a i d first e k h).is) g (i + length (write_scalar k))

        pub any_any : {n : ℕ} → w ≡ BoxAny n → Ranked (Same end)
        unfolding cmp_scalar
        any_any f k l h g =
            let x = seen a i d first e k h in
            ap Same x.ends ∙ rw (x.is, (seen b j d second f l g).is)

        pub any_all : {c : ℕ} → w ≡ BoxAll c → Ranked Less
        unfolding cmp_scalar
        any_all f k l h g = rw ((seen a i d first e k h).is, (seen b j d second f l g).is)

        pub any_def : {n s c : ℕ} {t : Bool} → w ≡ BoxDef n t s c → Ranked Less
        unfolding cmp_scalar
        any_def f k l h g = rw ((seen a i d first e k h).is, (seen b j d second f l g).is)

      -- All
      module _ {content : ℕ} (e : v ≡ BoxAll content) where
        pub all_kind : {c : codes.Kind} {n : ℕ} {r : Ranking} → w ≡ Plain c n → r ≡ ranking_of (cmp_kind box_code (code_for c)) content → Ranked r
        unfolding code_of
        all_kind f is k l h g = kind b j d second content f is k l (rw (seen a i d first e k h).is) g (i + length (write_scalar k))

        pub all_any : {n : ℕ} → w ≡ BoxAny n → Ranked More
        unfolding cmp_scalar
        all_any f k l h g = rw ((seen a i d first e k h).is, (seen b j d second f l g).is)

        pub all_all : {c : ℕ} {r : Ranking} → w ≡ BoxAll c → ((t u : Ty) → TypeAt a content d t → TypeAt b c d u → r ≡ ranking_of (compare t u) (content + length (write_ty t))) → Ranked r
        all_all f contents k l h g =
            let x = seen a i d first e k h in
            let y = seen b j d second f l g in
            let t : Ty = ty x.shape x.scalar in
            let long : length (write_scalar k) ≡ 6 + length (write_ty (ty x.shape x.scalar)) = ap (λ m. length (write_scalar m)) x.is ∙ all-length x.shape x.scalar in
            let place : content + length (write_ty (ty x.shape x.scalar)) ≡ i + length (write_scalar k) = omega (arith, x.place) in
            contents t (ty y.shape y.scalar) x.there y.there
            ∙ (ap (λ o. ranking_of o (content + length (write_ty t))) (by-content k l x.shape y.shape x.scalar y.scalar x.is y.is) ∙ ap (ranking_of (cmp_scalar k l)) place)

        pub all_def : {n s c : ℕ} {t : Bool} → w ≡ BoxDef n t s c → Ranked Less
        unfolding cmp_scalar
        all_def f k l h g = rw ((seen a i d first e k h).is, (seen b j d second f l g).is)

      -- Def
      module _ {name start count : ℕ} {named : Bool} (e : v ≡ BoxDef name named start count) where
        pub def_kind : {c : codes.Kind} {n : ℕ} {r : Ranking} → w ≡ Plain c n → r ≡ ranking_of (cmp_kind box_code (code_for c)) start → Ranked r
        unfolding code_of
        def_kind f is k l h g = kind b j d second start f is k l (rw (seen a i d first e k h).is) g (i + length (write_scalar k))

        pub def_any : {n : ℕ} → w ≡ BoxAny n → Ranked More
        unfolding cmp_scalar
        def_any f k l h g = rw ((seen a i d first e k h).is, (seen b j d second f l g).is)

        pub def_all : {c : ℕ} → w ≡ BoxAll c → Ranked More
        unfolding cmp_scalar
        def_all f k l h g = rw ((seen a i d first e k h).is, (seen b j d second f l g).is)

        module _ {title other number : ℕ} {titled : Bool} (f : w ≡ BoxDef title titled other number) (o : Ordering) (names : (m n : Option (List ℕ)) → NameAt a name m → NameAt b title n → order_of o ≡ cmp_name m n) where
          -- the names decide
          by_name : (k l : Scalar) (x : SeenDef a i d k name named start count) (y : SeenDef b j d l title titled other number) → cmp_scalar k l ≡ then_by (order_of o) (cmp_fields x.held y.held)
          unfolding cmp_scalar
          by_name k l x y = rw (x.is, y.is, names x.label y.label x.titled y.titled)

          pub def_less : o ≡ orders.Less → Ranked Less
          def_less q k l h g = rw (by_name k l (seen a i d first e k h) (seen b j d second f l g), q)

          pub def_more : o ≡ orders.Greater → Ranked More
          def_more q k l h g = rw (by_name k l (seen a i d first e k h) (seen b j d second f l g), q)

          pub def_same : {r : Ranking} → o ≡ orders.Equal → FieldsRanked a start count b other number d r → Ranked r
          def_same q contents k l h g =
              let x = seen a i d first e k h in
              let y = seen b j d second f l g in
              let long : length (write_scalar k) ≡ length (write_scalar (box_def x.label x.held)) = ap (λ m. length (write_scalar m)) x.is in
              let place : start + length (write_fields x.held) ≡ i + length (write_scalar k) = omega (arith, x.place, x.behind, def-length x.label x.held) in
              contents x.held y.held x.there y.there (sym x.counted) (sym y.counted)
              ∙ rw (by_name k l x y, q) (ap (ranking_of (cmp_fields x.held y.held)) place)

-- what stands there, where the views are known
module _ (s : List ℕ) (at d : ℕ) {k : Scalar} (h : ScalarAt s at d k) {v : View} (looked : Looked s at v) where
  pub all_there : {content : ℕ} → v ≡ BoxAll content → HasType s content d
  all_there e = let x = seen s at d looked e k h in record { type = ty x.shape x.scalar; there = x.there }

  module _ {name start count : ℕ} {named : Bool} (e : v ≡ BoxDef name named start count) where
    def : SeenDef s at d k name named start count
    def = seen s at d looked e k h

    pub name_there : HasName s name
    name_there = record { name = def.label; there = def.titled }

    pub fields_there : HasFields s start d count
    fields_there = record { fields = def.held; there = def.there; counted = sym def.counted }

-- ---- types: the scalars decide, then the shapes

pub scalar_there : (s : List ℕ) (at d : ℕ) {p : ℕ} → HasType s at d → Starts s at p → HasScalar s p (d - 1)
scalar_there s at d h starts = record { scalar = scalar_of h.type; there = scalar-behind s at starts d h.type h.there }

by_scalar : (t u : Ty) → compare t u ≡ then_by (cmp_scalar (scalar_of t) (scalar_of u)) (cmp_shape (shape_of t) (shape_of u))
unfolding compare
by_scalar (ty o k) (ty p l) = refl

module _ (a : List ℕ) (i : ℕ) (b : List ℕ) (j d : ℕ) where
  abbrev pub TypesRanked : Ranking → Type 0
  TypesRanked r = (t u : Ty) → TypeAt a i d t → TypeAt b j d u → r ≡ ranking_of (compare t u) (i + length (write_ty t))

  -- the scalars, which begin at p and q
  module _ {p q : ℕ} (first : Starts a i p) (second : Starts b j q) {r : Ranking} (call : Ranked a p b q (d - 1) r) where
    abbrev end : Ty → ℕ
    end t = p + length (write_scalar (scalar_of t))

    scalars : (t u : Ty) → TypeAt a i d t → TypeAt b j d u → r ≡ ranking_of (cmp_scalar (scalar_of t) (scalar_of u)) (end t)
    scalars t u h g = call (scalar_of t) (scalar_of u) (scalar-behind a i first d t h) (scalar-behind b j second d u g)

    pub types_less : r ≡ Less → TypesRanked Less
    types_less f t u h g = sym (rw (by_scalar t u, ranking_less (cmp_scalar (scalar_of t) (scalar_of u)) (end t) (scalars t u h g) f))

    pub types_more : r ≡ More → TypesRanked More
    types_more f t u h g = sym (rw (by_scalar t u, ranking_more (cmp_scalar (scalar_of t) (scalar_of u)) (end t) (scalars t u h g) f))

    module _ {next : ℕ} (f : r ≡ Same next) (x : Ordering) {o o' : Shape} (shapes : order_of x ≡ cmp_shape o o') (one : Shaped a i o) (two : Shaped b j o') where
      -- the scalars are the same, and the first ends at `next`
      by_shape : (t u : Ty) → TypeAt a i d t → TypeAt b j d u → (compare t u ≡ order_of x) × (next ≡ i + length (write_ty t))
      by_shape t u h g =
          let (alike, place) = ranking_same (cmp_scalar (scalar_of t) (scalar_of u)) (end t) (scalars t u h g) f in
          (by_scalar t u ∙ rw (alike, shapes, one d t h, two d u g), place ∙ behind-ends a i first d t h)

      pub shapes_less : x ≡ orders.Less → TypesRanked Less
      shapes_less e t u h g = rw ((by_shape t u h g).0, e)

      pub shapes_same : x ≡ orders.Equal → TypesRanked (Same next)
      shapes_same e t u h g = rw ((by_shape t u h g).0, e) (ap Same (by_shape t u h g).1)

      pub shapes_more : x ≡ orders.Greater → TypesRanked More
      shapes_more e t u h g = rw ((by_shape t u h g).0, e)

-- ---- fields, one after the other: what is left of both after k pairs, and that it decides

pub record PairsLeft (a : List ℕ) (i : ℕ) (b : List ℕ) (j d k count number : ℕ) (r : Ranking) : Type 0 where
  f : Fields
  g : Fields
  first : FieldsAt a i d f
  second : FieldsAt b j d g
  counted : count ≡ k + field_count f
  numbered : number ≡ k + field_count g
  is : ranking_of (cmp_fields f g) (i + length (write_fields f)) ≡ r

module _ {a : List ℕ} {i : ℕ} {b : List ℕ} {j d k count number : ℕ} {r : Ranking} (left : PairsLeft a i b j d k count number r) where
  left-types : k < count → (k ≡ number → ⊥) → HasType a i d × HasType b j d
  left-types m n = go left.f left.g left.first left.second left.counted left.numbered
    where
      go : (f g : Fields) → FieldsAt a i d f → FieldsAt b j d g → count ≡ k + field_count f → number ≡ k + field_count g → HasType a i d × HasType b j d
      go no_fields g h h' e c = absurd (omega arith)
      go (field o l f) no_fields h h' e c = absurd (n (omega arith))
      go (field o l f) (field p q g) h h' e c = (record { type = ty o l; there = first_field a i d h }, record { type = ty p q; there = first_field b j d h' })

  left-more : k < count → k ≡ number → More ≡ r
  unfolding cmp_fields
  left-more m n = go left.f left.g left.counted left.numbered left.is
    where
      go : (f g : Fields) → count ≡ k + field_count f → number ≡ k + field_count g → ranking_of (cmp_fields f g) (i + length (write_fields f)) ≡ r → More ≡ r
      go no_fields g e c z = absurd (omega arith)
      go (field o l f) no_fields e c z = z
      go (field o l f) (field p q g) e c z = absurd (omega arith)

  left-less : count ≤ k → count < number → Less ≡ r
  unfolding cmp_fields
  left-less m n = go left.f left.g left.counted left.numbered left.is
    where
      go : (f g : Fields) → count ≡ k + field_count f → number ≡ k + field_count g → ranking_of (cmp_fields f g) (i + length (write_fields f)) ≡ r → Less ≡ r
      go no_fields no_fields e c z = absurd (omega arith)
      go no_fields (field p q g) e c z = z
      go (field o l f) g e c z = absurd (omega arith)

  left-end : count ≤ k → number ≤ count → Same i ≡ r
  unfolding cmp_fields write_fields
  left-end m n = go left.f left.g left.counted left.numbered left.is
    where
      go : (f g : Fields) → count ≡ k + field_count f → number ≡ k + field_count g → ranking_of (cmp_fields f g) (i + length (write_fields f)) ≡ r → Same i ≡ r
      go no_fields no_fields e c z = ap Same (omega arith) ∙ z
      go no_fields (field p q g) e c z = absurd (omega arith)
      go (field o l f) g e c z = absurd (omega arith)

  -- the next two types were compared
  module _ (m : k < count) (n : k ≡ number → ⊥) {q : Ranking} (call : TypesRanked a i b j d q) where
    -- the next two, and the rest of both
    abbrev Step : Type 0 → Type 0
    Step C =
        (t u : Ty) (f g : Fields) →
        TypeAt a i d t →
        TypeAt b j d u →
        FieldsAt a (i + length (write_ty t)) d f →
        FieldsAt b (j + length (write_ty u)) d g →
        count ≡ k + 1 + field_count f →
        number ≡ k + 1 + field_count g →
        ranking_of (then_by (compare t u) (cmp_fields f g)) (i + length (write_ty t) + length (write_fields f)) ≡ r →
        C

    step : {C : Type 0} → Step C → C
    unfolding cmp_fields compare write_fields write_ty
    step {C} k₀ = go left.f left.g left.first left.second left.counted left.numbered left.is
      where
        go : (f g : Fields) → FieldsAt a i d f → FieldsAt b j d g → count ≡ k + field_count f → number ≡ k + field_count g → ranking_of (cmp_fields f g) (i + length (write_fields f)) ≡ r → C
        go no_fields g h h' e c z = absurd (omega arith)
        go (field o l f) no_fields h h' e c z = absurd (n (omega arith))
        go (field o l f) (field p x g) h h' e c z =
            let place : i + length (write_ty (ty o l)) + length (write_fields f) ≡ i + length (write_fields (field o l f)) = omega (arith, length-append (write_shape o ++ write_scalar l) (write_fields f)) in
            k₀ (ty o l) (ty p x) f g (first_field a i d h) (first_field b j d h') (rest-fields a i d h) (rest-fields b j d h')
            (omega arith) (omega arith) (ap (ranking_of (cmp_fields (field o l f) (field p x g))) place ∙ z)

    next-less : q ≡ Less → Less ≡ r
    next-less e = step λ t u f g h k h' k' c c' z. rw (ranking_less (compare t u) (i + length (write_ty t)) (call t u h k) e) at z

    next-more : q ≡ More → More ≡ r
    next-more e = step λ t u f g h k h' k' c c' z. rw (ranking_more (compare t u) (i + length (write_ty t)) (call t u h k) e) at z

    module _ {next : ℕ} (e : q ≡ Same next) where
      next-place : (i ≤ next) × (j + (next - i) ≤ length b)
      next-place = step λ t u f g h h' v v' c c' z.
          let (alike, place) = ranking_same (compare t u) (i + length (write_ty t)) (call t u h h') e in
          let both : t ≡ u = compare_same t u alike in
          let long : length (write_ty t) ≡ length (write_ty u) = ap (λ v. length (write_ty v)) both in
          (omega arith, omega (arith, type-within b j d u h'))

      next-left : PairsLeft a next b (j + (next - i)) d (k + 1) count number r
      next-left = step λ t u f g h h' v v' c c' z.
          let (alike, place) = ranking_same (compare t u) (i + length (write_ty t)) (call t u h h') e in
          let both : t ≡ u = compare_same t u alike in
          let long : length (write_ty t) ≡ length (write_ty u) = ap (λ v. length (write_ty v)) both in
          let place' : j + (next - i) ≡ j + length (write_ty u) = omega arith in
          record {
            f = f;
            g = g;
            first = subst (λ p. FieldsAt a p d f) (sym place) v;
            second = subst (λ p. FieldsAt b p d g) (sym place') v';
            counted = c;
            numbered = c';
            is = rw place (rw alike at z);
          }

-- the walk over the fields that two scalars have
pub record Walked (a : List ℕ) (start : ℕ) (b : List ℕ) (other d count number i j k : ℕ) : Type 0 where
  pub left :
      (f g : Fields) →
      FieldsAt a start d f →
      FieldsAt b other d g →
      field_count f ≡ count →
      field_count g ≡ number →
      PairsLeft a i b j d k count number (ranking_of (cmp_fields f g) (start + length (write_fields f)))

pub walk_begun : (a : List ℕ) (start : ℕ) (b : List ℕ) (other d count number : ℕ) → Walked a start b other d count number start other 0
walk_begun a start b other d count number =
    record { left = λ f g h h' u v. record { f = f; g = g; first = h; second = h'; counted = omega arith; numbered = omega arith; is = refl } }

module _ {a : List ℕ} {start : ℕ} {b : List ℕ} {other d count number i j k : ℕ} (walked : Walked a start b other d count number i j k) where
  pub walk_more : k < count → k ≡ number → FieldsRanked a start count b other number d More
  walk_more m n f g h h' u v = left-more (walked.left f g h h' u v) m n

  pub walk_less : count ≤ k → count < number → FieldsRanked a start count b other number d Less
  walk_less m n f g h h' u v = left-less (walked.left f g h h' u v) m n

  pub walk_end : count ≤ k → number ≤ count → FieldsRanked a start count b other number d (Same i)
  walk_end m n f g h h' u v = left-end (walked.left f g h h' u v) m n

  pub walk_types : HasFields a start d count → HasFields b other d number → k < count → (k ≡ number → ⊥) → HasType a i d × HasType b j d
  walk_types x y m n = left-types (walked.left x.fields y.fields x.there y.there x.counted y.counted) m n

  module _ (m : k < count) (n : k ≡ number → ⊥) {q : Ranking} (call : TypesRanked a i b j d q) where
    pub pair_less : q ≡ Less → FieldsRanked a start count b other number d Less
    pair_less e f g h h' u v = next-less (walked.left f g h h' u v) m n call e

    pub pair_more : q ≡ More → FieldsRanked a start count b other number d More
    pair_more e f g h h' u v = next-more (walked.left f g h h' u v) m n call e

    module _ {next : ℕ} (e : q ≡ Same next) where
      pub pair_place : HasFields a start d count → HasFields b other d number → i ≤ next
      pair_place x y = (next-place (walked.left x.fields y.fields x.there y.there x.counted y.counted) m n call e).0

      pub pair_within : HasFields a start d count → HasFields b other d number → j + (next - i) ≤ length b
      pair_within x y = (next-place (walked.left x.fields y.fields x.there y.there x.counted y.counted) m n call e).1

      pub pair_walked : Walked a start b other d count number next (j + (next - i)) (k + 1)
      pair_walked = record { left = λ f g h h' u v. next-left (walked.left f g h h' u v) m n call e }

pub ruleset walking = (walk_begun, walk_more, walk_less, walk_end, walk_types, pair_less, pair_more, pair_within, pair_walked)

-- ---- two whole types

module _ (a b : List ℕ) (read : unrefused ≡ refusal_of (lone a) (lone b)) (small : Bytes a) (small' : Bytes b) where
  read-good : both nothings (lone a) (lone b) ≡ accepted 0
  read-good = sym (ap whichever_of read ∙ whichever_both (lone a) (lone b))

  pub whole_types : HasType a 0 max_depth × HasType b 0 max_depth
  whole_types = has-types a b read-good small small'

  module _ {r : Ranking} (call : TypesRanked a 0 b 0 max_depth r) where
    pub whole_less : r ≡ Less → accepted less ≡ of_types compare a b
    whole_less f = types-there a b read-good small small' compare λ t u h g e. sym (e ∙ ap accepted (ranking_less (compare t u) (0 + length (write_ty t)) (call t u h g) f))

    pub whole_same : {n : ℕ} → r ≡ Same n → accepted same ≡ of_types compare a b
    whole_same f = types-there a b read-good small small' compare λ t u h g e. sym (e ∙ ap accepted (ranking_same (compare t u) (0 + length (write_ty t)) (call t u h g) f).0)

    pub whole_more : r ≡ More → accepted more ≡ of_types compare a b
    whole_more f = types-there a b read-good small small' compare λ t u h g e. sym (e ∙ ap accepted (ranking_more (compare t u) (0 + length (write_ty t)) (call t u h g) f))

pub ruleset ways_out = (whole_types, whole_less, whole_more)
