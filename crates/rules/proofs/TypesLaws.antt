-- Laws about types: `unboxed`, the join of types and `as_boxes` keep to the limits.
use Rattle.std.specs.Prelude.{ℕ, suc, ◌≤◌, max, Bool, true, false, cond, ◌≡◌, refl, leb}
use Rattle.std.proofs.Common.{arith, leb-true}
use Rattle.std.proofs.Math.Option.{none, some}
use Rattle.model.specs.Limits.{max_fields}
use Rattle.model.specs.Refusals.{too_many}
use Rattle.model.specs.Types.{Dim, static, unknown, Shape, Scalar, plain, box_any, box_all, box_def, Ty, ty, field_count, types, depth, inside, below}
use Rattle.model.specs.Within.{Each, NameWithin, ScalarWithin, FieldsWithin, RecordsWithin, Within}
use Rattle.format.specs.Outcome.{accepted, refused}
use Rattle.rules.specs.Shapes.{is_scalar, row_count}
use Rattle.rules.specs.Types.{any_ty, join_types, first_field, unboxed, Boxes, boxes, copies, copies_for, as_boxes}
use Rattle.rules.proofs.ShapesLaws.{join-within}
use Rattle.rules.proofs.ScalarsLaws.{union-within, union-inside, union-below}
use Rattle.rules.proofs.FieldsLaws.{EachField, fields_within, fields-among, fields-deepest, first_chooses, any_ty-within, copies-count, copies-within}

-- ---- `unboxed`

-- of what may come out of a box
abbrev EachInside : (Ty → Type 0) → Scalar → Type 0
EachInside P (plain k) = Unit {0}
EachInside P box_any = P any_ty
EachInside P (box_all s k) = P (ty s k)
EachInside P (box_def n f) = EachField P f × P any_ty

unboxed-either : (P : Ty → Type 0) (s : Shape) (k : Scalar) → P (ty s k) → EachInside P k → P (unboxed (ty s k))
unfolding unboxed
unboxed-either P s (plain k) p c = p
unboxed-either P s box_any p c = go (is_scalar s)
  where
    go : (b : Bool) → P (cond b any_ty (ty s box_any))
    go true = c
    go false = p
unboxed-either P s (box_all t k) p c = go (is_scalar s)
  where
    go : (b : Bool) → P (cond b (ty t k) (ty s (box_all t k)))
    go true = c
    go false = p
unboxed-either P s (box_def n f) p c = go (is_scalar s)
  where
    go : (b : Bool) → P (cond b (first_field f) (ty s (box_def n f)))
    go true = first_chooses P f c.0 c.1
    go false = p

content-records : (k : Scalar) → ScalarWithin k → EachInside RecordsWithin k
content-records (plain k) h = tt
content-records box_any h = any_ty-within
content-records (box_all s k) h = h
content-records (box_def n f) h = (fields_within f h.2, any_ty-within)

content-types : (n : ℕ) (k : Scalar) → suc (inside k) ≤ n → EachInside (λ t. types t ≤ n) k
unfolding inside
content-types n (plain k) h = tt
content-types n box_any h = h
content-types n (box_all s k) h = omega arith
content-types n (box_def m f) h = (fields-among n f (omega arith), omega arith)

content-depth : (d : ℕ) (k : Scalar) → suc (below k) ≤ d → EachInside (λ t. depth t ≤ d) k
unfolding below
content-depth d (plain k) h = tt
content-depth d box_any h = h
content-depth d (box_all s k) h = omega arith
content-depth d (box_def m f) h = (fields-deepest d f (omega arith), omega arith)

pub unboxed-records : (t : Ty) → RecordsWithin t → RecordsWithin (unboxed t)
unboxed-records (ty s k) h = unboxed-either RecordsWithin s k h (content-records k h.1)

pub unboxed-types : (t : Ty) → types (unboxed t) ≤ types t
unboxed-types (ty s k) = unboxed-either (λ t. types t ≤ suc (inside k)) s k (omega arith) (content-types (suc (inside k)) k (omega arith))

pub unboxed-depth : (t : Ty) → depth (unboxed t) ≤ depth t
unboxed-depth (ty s k) = unboxed-either (λ t. depth t ≤ suc (below k)) s k (omega arith) (content-depth (suc (below k)) k (omega arith))

pub unboxed-within : (t : Ty) → Within t → Within (unboxed t)
unboxed-within t w =
    let a = unboxed-types t in
    let b = unboxed-depth t in
    let c = w.few in
    let d = w.shallow in
    record { records = unboxed-records t w.records; few = omega arith; shallow = omega arith }

-- ---- join

pub join-records : (t u : Ty) → RecordsWithin t → RecordsWithin u → RecordsWithin (join_types t u)
unfolding join_types
join-records (ty s k) (ty t l) h j = (join-within s t h.0 j.0, union-within k l h.1 j.1)

pub join-types : (t u : Ty) → types (join_types t u) ≤ max (types t) (types u)
unfolding join_types
join-types (ty s k) (ty t l) = let h = union-inside (max (inside k) (inside l)) k l (omega arith) (omega arith) in omega arith

pub join-depth : (t u : Ty) → depth (join_types t u) ≤ max (depth t) (depth u)
unfolding join_types
join-depth (ty s k) (ty t l) = let h = union-below (max (below k) (below l)) k l (omega arith) (omega arith) in omega arith

pub join_types-within : (t u : Ty) → Within t → Within u → Within (join_types t u)
join_types-within t u w v =
    let a = join-types t u in
    let b = join-depth t u in
    let c = w.few in
    let d = w.shallow in
    let e = v.few in
    let f = v.shallow in
    record { records = join-records t u w.records v.records; few = omega arith; shallow = omega arith }

-- ---- `as_boxes`

abbrev pub BoxesWithin : Boxes → Type 0
BoxesWithin (boxes n f) = Each NameWithin n × (field_count f ≤ max_fields) × FieldsWithin f

copies_for-within : (d : Dim) (t : Ty) (b : Boxes) → RecordsWithin t → copies_for d t ≡ accepted (some b) → BoxesWithin b
unfolding copies_for
copies_for-within unknown t b h e = let w : boxes none (copies 1 t) ≡ b = cc in rw (← w) (tt, omega (arith, copies-count 1 t), copies-within 1 t h)
copies_for-within (static n) t b h e = go (leb n max_fields) refl e
  where
    go : (x : Bool) → leb n max_fields ≡ x → cond x (accepted (some (boxes none (copies n t)))) (refused too_many 0) ≡ accepted (some b) → BoxesWithin b
    go true l e = let w : boxes none (copies n t) ≡ b = cc in rw (← w) (tt, omega (arith, copies-count n t, leb-true n max_fields l), copies-within n t h)
    go false l e = let z : ◌≡◌ {A = ℕ} 0 1 = cc in absurd (omega arith)

pub as_boxes-within : (t : Ty) (b : Boxes) → RecordsWithin t → as_boxes t ≡ accepted (some b) → BoxesWithin b
unfolding as_boxes
as_boxes-within (ty s (plain k)) b h e = let z : ◌≡◌ {A = ℕ} 0 1 = cc in absurd (omega arith)
as_boxes-within (ty s box_any) b h e = copies_for-within (row_count s) any_ty b any_ty-within e
as_boxes-within (ty s (box_all t k)) b h e = copies_for-within (row_count s) (ty t k) b h.1 e
as_boxes-within (ty s (box_def n f)) b h e = let w : boxes n f ≡ b = cc in rw (← w) h.1
