-- Two types within the limits whose packed bytes are equal are equal, whatever stands behind those bytes. So at one place lies one type, in
-- either layout.
use Rattle.std.specs.Prelude.{ℕ, ◌+◌, ◌^◌, ◌≤◌, ◌<◌, List, [], ◌∷◌, ◌++◌, ◌≡◌, refl, length, drop}
use Rattle.std.proofs.Common.{arith, append_assoc, append-nil, sym, ◌∙◌, ap, lit<}
use Rattle.std.proofs.Math.Option.{Option}
use Rattle.model.specs.Limits.{max_sizes, max_name}
use Rattle.model.specs.Types.{Dim, static, unknown, Shape, shape, Scalar, plain, box_any, box_all, box_def, Fields, no_fields, field, Ty, ty, field_count}
use Rattle.model.specs.Within.{All, DimWithin, ShapeWithin, ScalarWithin, FieldsWithin, Within}
use Rattle.format.specs.Reader.{got, bytes_of}
use Rattle.format.specs.ReaderLaws.{reads-number}
use Rattle.format.specs.Records.{absent, count_of, list_of, write_ty, list_count, read_type}
use Rattle.format.specs.Suffices.{name_most}
use Rattle.format.specs.Views.{Stands}
use Rattle.format.specs.WriteRead.{closing-within, optional_ok, list_count_ok, write_read}
use Rattle.rules.proofs.OrderLaws.{code_same, code-box}
use Rattle.packing.specs.Packed.{pack_dims, pack_shape, pack_scalar, pack_fields, pack_ty}
use Rattle.packing.specs.Layouts.{Layout, as_record, as_packed, size_length, size_number, size_in, sizes_in, type_in}
use Rattle.packing.proofs.PackedShapeLaws.{length-size_in, sizes_in-none, sizes_in-first}

-- ---- lists, one in front of another

first-same : {A : Type 0} {x y : A} {xs ys : List A} → ◌≡◌ {A = List A} (x ∷ xs) (y ∷ ys) → x ≡ y
first-same e = cc

rest-same : {A : Type 0} {x y : A} {xs ys : List A} → ◌≡◌ {A = List A} (x ∷ xs) (y ∷ ys) → xs ≡ ys
rest-same e = cc

fronts_same : {A : Type 0} (v w : List A) {r s : List A} → length v ≡ length w → v ++ r ≡ w ++ s → (v ≡ w) × (r ≡ s)
fronts_same [] [] l e = (refl, e)
fronts_same [] (y ∷ w) l e = absurd (omega arith)
fronts_same (x ∷ v) [] l e = absurd (omega arith)
fronts_same {A} (x ∷ v) (y ∷ w) l e =
    let (same, behind) = fronts_same {A = A} v w (omega arith) (rest-same e) in
    let one : x ≡ y = first-same e in
    (rw (one, same), behind)

-- ---- sizes

number_once : (k m n : ℕ) → m < 256 ^ k → n < 256 ^ k → bytes_of k m ≡ bytes_of k n → m ≡ n
number_once k m n a b e =
    let w : List ℕ = bytes_of k m in
    let x = (reads-number {s = w} k 0 m a).run 0 [] (sym (append-nil w)) in
    let y = (reads-number {s = w} k 0 n b).run 0 [] (e ∙ sym (append-nil (bytes_of k n))) in
    cc

pub number_small : (v : Layout) (d : Dim) → DimWithin d → size_number v d < 256 ^ size_length v
number_small as_record (static n) h = omega arith
number_small as_record unknown h = lit< tt
number_small as_packed (static n) h = omega arith
number_small as_packed unknown h = lit< tt

size_once : (v : Layout) (d e : Dim) → DimWithin d → DimWithin e → size_number v d ≡ size_number v e → d ≡ e
size_once as_record (static m) (static n) a b e = ap static e
size_once as_packed (static m) (static n) a b e = ap static e
size_once as_record (static m) unknown a b e = absurd (omega arith)
size_once as_packed (static m) unknown a b e = absurd (omega arith)
size_once as_record unknown (static n) a b e = absurd (omega arith)
size_once as_packed unknown (static n) a b e = absurd (omega arith)
size_once v unknown unknown a b e = refl

sizes_once : (v : Layout) (ds es : List Dim) → All DimWithin ds → All DimWithin es → length ds ≡ length es → (r s : List ℕ) → sizes_in v ds ++ r ≡ sizes_in v es ++ s → (ds ≡ es) × (r ≡ s)
sizes_once v [] [] a b l r s e = (refl, rw (sizes_in-none v) at e)
sizes_once v [] (y ∷ es) a b l r s e = absurd (omega arith)
sizes_once v (x ∷ ds) [] a b l r s e = absurd (omega arith)
sizes_once v (x ∷ ds) (y ∷ es) a b l r s e =
    let long : length (size_in v x) ≡ length (size_in v y) = length-size_in v x ∙ sym (length-size_in v y) in
    let left : sizes_in v (x ∷ ds) ++ r ≡ size_in v x ++ (sizes_in v ds ++ r) = ap (λ z. z ++ r) (sizes_in-first v x ds) ∙ append_assoc (size_in v x) (sizes_in v ds) r in
    let right : sizes_in v (y ∷ es) ++ s ≡ size_in v y ++ (sizes_in v es ++ s) = ap (λ z. z ++ s) (sizes_in-first v y es) ∙ append_assoc (size_in v y) (sizes_in v es) s in
    let (same, behind) = fronts_same (size_in v x) (size_in v y) long (sym left ∙ e ∙ right) in
    let number = number_once (size_length v) (size_number v x) (size_number v y) (number_small v x a.0) (number_small v y b.0) same in
    let one : x ≡ y = size_once v x y a.0 b.0 number in
    let (more, last) = sizes_once v ds es a.1 b.1 (omega arith) r s behind in
    (rw (one, more), last)

-- ---- lists that may be absent

module _ {A : Type 0} (most : ℕ) (small : most < absent) (c d : Option (List A)) (e : count_of c ≡ count_of d) where
  lengths-same : length (list_of c) ≤ most → length (list_of d) ≤ most → length (list_of c) ≡ length (list_of d)
  lengths-same a b = sym (list_count_ok most small c a) ∙ ap list_count e ∙ list_count_ok most small d b

optional_once : {A : Type 0} (most : ℕ) → most < absent → (c d : Option (List A)) → length (list_of c) ≤ most → length (list_of d) ≤ most → count_of c ≡ count_of d → list_of c ≡ list_of d → c ≡ d
optional_once most small c d a b e f = sym (optional_ok most small c a) ∙ rw (e, f) (optional_ok most small d b)

-- ---- shapes

shape_once : (o p : Shape) → ShapeWithin o → ShapeWithin p → (r s : List ℕ) → pack_shape o ++ r ≡ pack_shape p ++ s → (o ≡ p) × (r ≡ s)
unfolding pack_shape
shape_once (shape o c) (shape p d) a b r s e =
    let (few-c, each-c) = closing-within c a.1 in
    let (few-d, each-d) = closing-within d b.1 in
    let counts : count_of c ≡ count_of d = first-same (rest-same e) in
    let rest = sym (append_assoc (pack_dims o) (pack_dims (list_of c)) r) ∙ rest-same (rest-same e) ∙ append_assoc (pack_dims p) (pack_dims (list_of d)) s in
    let (opening, behind) = sizes_once as_packed o p a.0.1 b.0.1 (first-same e) _ _ rest in
    let (closing, last) = sizes_once as_packed (list_of c) (list_of d) each-c each-d (lengths-same max_sizes (lit< tt) c d counts few-c few-d) r s behind in
    let same : c ≡ d = optional_once max_sizes (lit< tt) c d few-c few-d counts closing in
    (rw (opening, same), last)

-- ---- scalars and fields

-- first bytes that differ
apart : {C : Type 0} {x y : ℕ} {xs ys : List ℕ} → ◌≡◌ {A = List ℕ} (x ∷ xs) (y ∷ ys) → (x ≡ y → ⊥) → C
apart e f = absurd (f (first-same e))

mutual
  unfolding pack_scalar

  scalar_once : (k l : Scalar) → ScalarWithin k → ScalarWithin l → (r s : List ℕ) → pack_scalar k ++ r ≡ pack_scalar l ++ s → (k ≡ l) × (r ≡ s)
  scalar_once (plain k) (plain l) a b r s e = (ap plain (code_same k l (first-same e)), rest-same e)
  scalar_once (plain k) box_any a b r s e = absurd (code-box k (first-same e))
  scalar_once (plain k) (box_all p l) a b r s e = absurd (code-box k (first-same e))
  scalar_once (plain k) (box_def n g) a b r s e = absurd (code-box k (first-same e))
  scalar_once box_any (plain l) a b r s e = absurd (code-box l (sym (first-same e)))
  scalar_once box_any box_any a b r s e = (refl, rest-same (rest-same e))
  scalar_once box_any (box_all p l) a b r s e = apart (rest-same e) (λ z. omega arith)
  scalar_once box_any (box_def n g) a b r s e = apart (rest-same e) (λ z. omega arith)
  scalar_once (box_all o k) (plain l) a b r s e = absurd (code-box l (sym (first-same e)))
  scalar_once (box_all o k) box_any a b r s e = apart (rest-same e) (λ z. omega arith)
  scalar_once (box_all o k) (box_all p l) a b r s e =
      let rest = sym (append_assoc (pack_shape o) (pack_scalar k) r) ∙ rest-same (rest-same e) ∙ append_assoc (pack_shape p) (pack_scalar l) s in
      let (one, behind) = shape_once o p a.0 b.0 _ _ rest in
      let (two, last) = scalar_once k l a.1 b.1 r s behind in
      (rw (one, two), last)
  scalar_once (box_all o k) (box_def n g) a b r s e = apart (rest-same e) (λ z. omega arith)
  scalar_once (box_def m f) (plain l) a b r s e = absurd (code-box l (sym (first-same e)))
  scalar_once (box_def m f) box_any a b r s e = apart (rest-same e) (λ z. omega arith)
  scalar_once (box_def m f) (box_all p l) a b r s e = apart (rest-same e) (λ z. omega arith)
  scalar_once (box_def m f) (box_def n g) a b r s e =
      let few-m = name_most m a.0 in
      let few-n = name_most n b.0 in
      let counts : count_of m ≡ count_of n = first-same (rest-same (rest-same e)) in
      let rest = sym (append_assoc (list_of m) (field_count f ∷ pack_fields f) r) ∙ rest-same (rest-same (rest-same e)) ∙ append_assoc (list_of n) (field_count g ∷ pack_fields g) s in
      let (name, behind) = fronts_same (list_of m) (list_of n) (lengths-same max_name (lit< tt) m n counts few-m few-n) rest in
      let same : m ≡ n = optional_once max_name (lit< tt) m n few-m few-n counts name in
      let (held, last) = fields_once f g a.2 b.2 (first-same behind) r s (rest-same behind) in
      (rw (same, held), last)

  fields_once : (f g : Fields) → FieldsWithin f → FieldsWithin g → field_count f ≡ field_count g → (r s : List ℕ) → pack_fields f ++ r ≡ pack_fields g ++ s → (f ≡ g) × (r ≡ s)
  fields_once no_fields no_fields a b l r s e = (refl, e)
  fields_once no_fields (field p l g) a b c r s e = absurd (omega arith)
  fields_once (field o k f) no_fields a b c r s e = absurd (omega arith)
  fields_once (field o k f) (field p l g) a b c r s e =
      let left : ((pack_shape o ++ pack_scalar k) ++ pack_fields f) ++ r ≡ pack_shape o ++ (pack_scalar k ++ (pack_fields f ++ r)) = simp append_assoc in
      let right : ((pack_shape p ++ pack_scalar l) ++ pack_fields g) ++ s ≡ pack_shape p ++ (pack_scalar l ++ (pack_fields g ++ s)) = simp append_assoc in
      let (one, behind) = shape_once o p a.0 b.0 _ _ (sym left ∙ e ∙ right) in
      let (two, more) = scalar_once k l a.1 b.1 _ _ behind in
      let (three, last) = fields_once f g a.2 b.2 (omega arith) r s more in
      (rw (one, two, three), last)

-- ---- types

pub packed_once : (t u : Ty) → Within t → Within u → (r s : List ℕ) → pack_ty t ++ r ≡ pack_ty u ++ s → (t ≡ u) × (r ≡ s)
unfolding pack_ty
packed_once (ty o k) (ty p l) a b r s e =
    let rest = sym (append_assoc (pack_shape o) (pack_scalar k) r) ∙ e ∙ append_assoc (pack_shape p) (pack_scalar l) s in
    let (one, behind) = shape_once o p a.records.0 b.records.0 _ _ rest in
    let (two, last) = scalar_once k l a.records.1 b.records.1 r s behind in
    (rw (one, two), last)

pub packed_equal : (t u : Ty) → Within t → Within u → pack_ty t ≡ pack_ty u → t ≡ u
packed_equal t u a b e = (packed_once t u a b [] [] (ap (λ w. w ++ []) e)).0

-- ---- at one place, in either layout

pub sizes_once_at : (v : Layout) (d : List ℕ) (at : ℕ) (ds es : List Dim) → All DimWithin ds → All DimWithin es → length ds ≡ length es → Stands d at (sizes_in v ds) → Stands d at (sizes_in v es) → ds ≡ es
sizes_once_at v d at ds es a b l x y =
    (sizes_once v ds es a b l (drop (at + length (sizes_in v ds)) d) (drop (at + length (sizes_in v es)) d) (sym x.is ∙ y.is)).0

read_at : (d : List ℕ) (at : ℕ) (t : Ty) → Within t → Stands d at (write_ty t) → read_type d at ≡ got t (at + length (write_ty t))
read_at d at t a x = (write_read d t a).run at (drop (at + length (write_ty t)) d) x.is

pub type_once_at : (v : Layout) (d : List ℕ) (at : ℕ) (t u : Ty) → Within t → Within u → Stands d at (type_in v t) → Stands d at (type_in v u) → t ≡ u
type_once_at as_record d at t u a b x y =
    let one = read_at d at t a x in
    let two = read_at d at u b y in
    cc
type_once_at as_packed d at t u a b x y = (packed_once t u a b (drop (at + length (pack_ty t)) d) (drop (at + length (pack_ty u)) d) (sym x.is ∙ y.is)).0
