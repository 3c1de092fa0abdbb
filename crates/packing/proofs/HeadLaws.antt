-- A head and then its contents are the bytes of the type, in either layout.
use Rattle.std.specs.Prelude.{ℕ, List, [], ◌∷◌, ◌++◌, ◌≡◌, refl}
use Rattle.std.proofs.Common.{append_assoc, append-nil, sym, ◌∙◌, ap}
use Rattle.model.specs.Types.{Shape, Scalar, plain, box_any, box_all, box_def, Fields, no_fields, field, Ty, ty, field_count}
use Rattle.format.specs.Records.{count_of, list_of, write_shape, write_scalar, write_fields, write_ty}
use Rattle.format.specs.Views.{Stands, stands-first}
use Rattle.packing.specs.Packed.{pack_shape, pack_scalar, pack_fields, pack_ty}
use Rattle.packing.specs.Heads.{one_field, and_fields, contents}
use Rattle.packing.specs.Layouts.{Layout, as_record, as_packed, shape_in, form_in, def_head, head_in, scalar_in, fields_in, type_in}

-- ---- fields, one after the other

pub fields_in-none : (v : Layout) → fields_in v no_fields ≡ []
unfolding write_fields pack_fields
fields_in-none as_record = refl
fields_in-none as_packed = refl

fields_in-first : (v : Layout) (o : Shape) (k : Scalar) (f : Fields) → fields_in v (field o k f) ≡ (shape_in v o ++ scalar_in v k) ++ fields_in v f
unfolding write_fields pack_fields
fields_in-first as_record o k f = refl
fields_in-first as_packed o k f = refl

pub fields_in-one_field : (v : Layout) (t : Ty) → fields_in v (one_field t) ≡ type_in v t
unfolding write_fields pack_fields write_ty pack_ty
fields_in-one_field as_record (ty o k) = append-nil (write_shape o ++ write_scalar k)
fields_in-one_field as_packed (ty o k) = append-nil (pack_shape o ++ pack_scalar k)

-- some before others
fields_in-and_fields : (v : Layout) (f g : Fields) → fields_in v (and_fields f g) ≡ fields_in v f ++ fields_in v g
fields_in-and_fields v no_fields g = ap (λ x. x ++ fields_in v g) (sym (fields_in-none v))
fields_in-and_fields v (field o k f) g =
    fields_in-first v o k (and_fields f g)
    ∙ ap (λ x. (shape_in v o ++ scalar_in v k) ++ x) (fields_in-and_fields v f g)
    ∙ sym (append_assoc (shape_in v o ++ scalar_in v k) (fields_in v f) (fields_in v g))
    ∙ ap (λ x. x ++ fields_in v g) (sym (fields_in-first v o k f))

-- ---- past a head

-- A Def up to its form, its name and its count, its fields, and what comes after.
regroup : (x n : List ℕ) (c : ℕ) (y z : List ℕ) → (x ++ (n ++ (c ∷ y))) ++ z ≡ (x ++ (n ++ (c ∷ []))) ++ (y ++ z)
regroup x n c y z =
    append_assoc x (n ++ (c ∷ y)) z
    ∙ ap (λ w. x ++ w) (append_assoc n (c ∷ y) z ∙ sym (append_assoc n (c ∷ []) (y ++ z)))
    ∙ sym (append_assoc x (n ++ (c ∷ [])) (y ++ z))

-- A scalar and what comes after are its head, its contents and what comes after.
pub scalar_in-head : (v : Layout) (k : Scalar) (f : Fields) → scalar_in v k ++ fields_in v f ≡ head_in v k ++ fields_in v (contents k f)
unfolding write_scalar pack_scalar head_in
scalar_in-head as_record (plain k) f = refl
scalar_in-head as_packed (plain k) f = refl
scalar_in-head as_record box_any f = refl
scalar_in-head as_packed box_any f = refl
scalar_in-head as_record (box_all s k) f = append_assoc (form_in as_record 1) (write_shape s ++ write_scalar k) (write_fields f)
scalar_in-head as_packed (box_all s k) f = append_assoc (form_in as_packed 1) (pack_shape s ++ pack_scalar k) (pack_fields f)
scalar_in-head as_record (box_def n g) f =
    regroup (form_in as_record 2 ++ (count_of n ∷ [])) (list_of n) (field_count g) (write_fields g) (write_fields f)
    ∙ ap (λ x. (form_in as_record 2 ++ def_head n (field_count g)) ++ x) (sym (fields_in-and_fields as_record g f))
scalar_in-head as_packed (box_def n g) f =
    regroup (form_in as_packed 2 ++ (count_of n ∷ [])) (list_of n) (field_count g) (pack_fields g) (pack_fields f)
    ∙ ap (λ x. (form_in as_packed 2 ++ def_head n (field_count g)) ++ x) (sym (fields_in-and_fields as_packed g f))

-- So the bytes of what is to come are a shape, a head and what is to come then.
pub fields_in-head : (v : Layout) (o : Shape) (k : Scalar) (f : Fields) → fields_in v (field o k f) ≡ shape_in v o ++ (head_in v k ++ fields_in v (contents k f))
fields_in-head v o k f =
    fields_in-first v o k f
    ∙ append_assoc (shape_in v o) (scalar_in v k) (fields_in v f)
    ∙ ap (λ x. shape_in v o ++ x) (scalar_in-head v k f)

-- What stands there with its contents stands there without them.
pub head-stands : (v : Layout) (s : List ℕ) (from : ℕ) (k : Scalar) → Stands s from (scalar_in v k) → Stands s from (head_in v k)
head-stands v s from k h =
    let parts : scalar_in v k ≡ head_in v k ++ fields_in v (contents k no_fields) = sym (ap (λ x. scalar_in v k ++ x) (fields_in-none v) ∙ append-nil (scalar_in v k)) ∙ scalar_in-head v k no_fields in
    stands-first s from (head_in v k) (fields_in v (contents k no_fields)) (rw parts at h)
