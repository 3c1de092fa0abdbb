-- What stands within what stands at a place, and what the bytes say that are looked at.
use Rattle.std.specs.Prelude.{ℕ, ◌+◌, ◌-◌, ◌≤◌, ◌<◌, Bool, true, List, [], ◌∷◌, ◌++◌, ◌≡◌, get_or}
use Rattle.std.proofs.Common.{arith, ◌∙◌, subst}
use Rattle.std.proofs.Math.Option.{Option, none, some}
use Rattle.std.proofs.Math.Path.{sym}
use Rattle.std.proofs.Math.ListN.{length, length-append}
use Rattle.model.specs.Types.{Dim, Shape, shape, Scalar, box_all, box_def, Fields, field, Ty, ty, shape_of, scalar_of, field_count, inside, among, below, deepest}
use Rattle.format.specs.Records.{box_start, count_of, list_of, write_shape, write_scalar, write_fields, write_ty}
use Rattle.format.specs.Views.{Stands, stands-first, stands-second, stands-byte, stands-within}
use Rattle.rules.proofs.ViewsLaws.{type_least, kind-within}
use Rattle.known.specs.Known.{TypeAt, ScalarAt, NameAt, FieldsAt, HasType, HasScalar, opening_of, is_closed}

-- ---- what stands within it

module _ (s : List ℕ) (at d : ℕ) where
  module _ {o : Shape} {k : Scalar} (h : TypeAt s at d (ty o k)) where
    pub type-scalar : ScalarAt s (at + length (write_shape o)) (d - 1) k
    unfolding write_ty
    type-scalar = record {
      stands = stands-second s at (write_shape o) (write_scalar k) h.stands;
      records = h.records.1;
      few = omega (arith, h.few);
      shallow = omega (arith, h.shallow);
    }

  pub all-content : {o : Shape} {k : Scalar} → ScalarAt s at d (box_all o k) → TypeAt s (at + 6) d (ty o k)
  unfolding write_scalar write_ty inside below
  all-content {o} {k} h = record {
    stands = stands-second s at (box_start 1) (write_shape o ++ write_scalar k) h.stands;
    records = h.records;
    few = omega (arith, h.few);
    shallow = h.shallow;
  }

  -- a Def: its name, the count of its fields, and the fields
  module _ {n : Option (List ℕ)} {f : Fields} (h : ScalarAt s at d (box_def n f)) where
    def-stands : Stands s (at + 6) ((count_of n ∷ list_of n) ++ (field_count f ∷ write_fields f))
    unfolding write_scalar
    def-stands = stands-second s at (box_start 2) (count_of n ∷ (list_of n ++ (field_count f ∷ write_fields f))) h.stands

    pub def-name : NameAt s (at + 6) n
    def-name = record { stands = stands-first s (at + 6) (count_of n ∷ list_of n) (field_count f ∷ write_fields f) def-stands; records = h.records.0 }

    counted-stands : Stands s (at + 6 + length (count_of n ∷ list_of n)) (field_count f ∷ write_fields f)
    counted-stands = stands-second s (at + 6) (count_of n ∷ list_of n) (field_count f ∷ write_fields f) def-stands

    pub def-counted : get_or s (at + 6 + length (count_of n ∷ list_of n)) 0 ≡ field_count f
    def-counted = stands-byte s (at + 6 + length (count_of n ∷ list_of n)) (field_count f) (write_fields f) counted-stands

    pub def-within : at + 6 + length (count_of n ∷ list_of n) < length s
    def-within = omega (arith, stands-within s (at + 6 + length (count_of n ∷ list_of n)) (field_count f ∷ write_fields f) (omega arith) counted-stands)

    pub def-fields : FieldsAt s (at + 6 + length (count_of n ∷ list_of n) + 1) d f
    unfolding inside below
    def-fields = record {
      stands = stands-second s (at + 6 + length (count_of n ∷ list_of n)) (field_count f ∷ []) (write_fields f) counted-stands;
      records = h.records.2;
      numbered = h.records.1;
      few = h.few;
      shallow = h.shallow;
    }

  module _ {o : Shape} {k : Scalar} {f : Fields} (h : FieldsAt s at d (field o k f)) where
    pub first_field : TypeAt s at d (ty o k)
    unfolding write_fields write_ty among deepest
    first_field = record {
      stands = stands-first s at (write_shape o ++ write_scalar k) (write_fields f) h.stands;
      records = (h.records.0, h.records.1);
      few = omega (arith, h.few);
      shallow = omega (arith, h.shallow);
    }

    pub rest-fields : FieldsAt s (at + length (write_ty (ty o k))) d f
    unfolding write_fields write_ty among deepest
    rest-fields = record {
      stands = stands-second s at (write_shape o ++ write_scalar k) (write_fields f) h.stands;
      records = h.records.2;
      numbered = omega (arith, h.numbered);
      few = omega (arith, h.few);
      shallow = omega (arith, h.shallow);
    }

-- ---- how far it reaches

module _ (s : List ℕ) (at d : ℕ) where
  pub type-within : (t : Ty) → TypeAt s at d t → at + length (write_ty t) ≤ length s
  type-within t h = stands-within s at (write_ty t) (type_least t) h.stands

  pub scalar-kind : (k : Scalar) → ScalarAt s at d k → at + 3 ≤ length s
  scalar-kind k h = kind-within s at k h.stands

  -- where it may be so deep, it may be deeper
  module _ {e : ℕ} (less : d ≤ e) where
    pub type_deeper : {t : Ty} → TypeAt s at d t → TypeAt s at e t
    type_deeper h = record { stands = h.stands; records = h.records; few = h.few; shallow = omega (arith, h.shallow) }

    pub fields_deeper : {f : Fields} → FieldsAt s at d f → FieldsAt s at e f
    fields_deeper h = record { stands = h.stands; records = h.records; numbered = h.numbered; few = h.few; shallow = omega (arith, h.shallow) }

  pub deep : HasType s at d → 0 < d
  deep h = go h.type h.there
    where
      go : (t : Ty) → TypeAt s at d t → 0 < d
      go (ty o k) h = omega (arith, h.shallow)

-- ---- the shape of a type, by its opening sizes and whether it is closed

is_closed-shape : (o : Shape) {sizes : List Dim} → sizes ≡ opening_of o → is_closed o ≡ true → o ≡ shape sizes none
is_closed-shape (shape o none) e closed = rw e
is_closed-shape (shape o (some c)) e closed = cc

module _ {s : List ℕ} {at : ℕ} {sizes : List Dim} {closed : Bool}
    (opening : (d : ℕ) (t : Ty) → TypeAt s at d t → sizes ≡ opening_of (shape_of t))
    (says : (d : ℕ) (t : Ty) → TypeAt s at d t → closed ≡ is_closed (shape_of t))
    (d : ℕ) (t : Ty) (h : TypeAt s at d t) where
  pub closed-shape : closed ≡ true → shape_of t ≡ shape sizes none
  closed-shape e = is_closed-shape (shape_of t) (opening d t h) (sym (says d t h) ∙ e)

-- ---- the scalar of a type, which begins at `place`

module _ (s : List ℕ) (at : ℕ) {place : ℕ} (begins : (d : ℕ) (t : Ty) → TypeAt s at d t → place ≡ at + length (write_shape (shape_of t))) (d : ℕ) where
  pub scalar-behind : (t : Ty) → TypeAt s at d t → ScalarAt s place (d - 1) (scalar_of t)
  scalar-behind (ty o k) h = subst (λ n. ScalarAt s n (d - 1) k) (sym (begins d (ty o k) h)) (type-scalar s at d h)

  pub has-scalar : HasType s at d → HasScalar s place (d - 1)
  has-scalar h = record { scalar = scalar_of h.type; there = scalar-behind h.type h.there }

  pub behind-within : HasType s at d → place ≤ length s
  behind-within h = let k = has-scalar h in omega (arith, scalar-kind s place (d - 1) k.scalar k.there)

  -- both end together
  pub behind-ends : (t : Ty) → TypeAt s at d t → place + length (write_scalar (scalar_of t)) ≡ at + length (write_ty t)
  unfolding write_ty
  behind-ends (ty o k) h = omega (arith, begins d (ty o k) h, length-append (write_shape o) (write_scalar k))

-- ---- a name

module _ (s : List ℕ) (at : ℕ) (n : Option (List ℕ)) (h : NameAt s at n) where
  pub name-within : at + 1 + length (list_of n) ≤ length s
  name-within = omega (arith, stands-within s at (count_of n ∷ list_of n) (omega arith) h.stands)
