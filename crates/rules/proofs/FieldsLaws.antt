-- Laws about fields: what holds of each of them, that a row's choice is one of them or [..] of Any, that copies are as many as
-- asked for, and that field n's stretch of a Def's bytes is what is written for that field.
use Rattle.std.specs.Prelude.{ℕ, zero, suc, ◌+◌, ◌≤◌, List, ◌++◌, ◌≡◌, refl, length, take, drop}
use Rattle.std.proofs.Common.{arith, append_assoc, sym, ◌∙◌, ap, drop-drop}
use Rattle.std.proofs.Math.Option.{Option, none, some}
use Rattle.std.proofs.Math.Seq.{take-append_seam, drop-append_seam}
use Rattle.model.specs.Types.{Shape, plain, box_any, box_all, box_def, Fields, no_fields, field, Ty, ty, field_count, types, depth, among, deepest}
use Rattle.model.specs.Within.{FieldsWithin, RecordsWithin}
use Rattle.format.specs.Records.{write_shape, write_scalar, write_fields, write_ty}
use Rattle.rules.specs.Types.{any_ty, field_in, first_field, last_field, or_else, nth_field, copies, field_at, Stretch, stretch, stretch_in, before_fields, field_place}

-- ---- of each field

abbrev pub EachField : (Ty → Type 0) → Fields → Type 0
EachField P no_fields = Unit {0}
EachField P (field s k f) = P (ty s k) × EachField P f

pub fields_within : (f : Fields) → FieldsWithin f → EachField RecordsWithin f
fields_within no_fields h = tt
fields_within (field s k f) h = ((h.0, h.1), fields_within f h.2)

pub fields-among : (n : ℕ) (f : Fields) → among f ≤ n → EachField (λ t. types t ≤ n) f
unfolding among
fields-among n no_fields h = tt
fields-among n (field s k f) h = (omega arith, fields-among n f (omega arith))

pub fields-deepest : (d : ℕ) (f : Fields) → deepest f ≤ d → EachField (λ t. depth t ≤ d) f
unfolding deepest
fields-deepest d no_fields h = tt
fields-deepest d (field s k f) h = (omega arith, fields-deepest d f (omega arith))

-- ---- the choice of a field

-- What is chosen is one of the fields, or [..] of Any.
abbrev pub Chooses : (Fields → Ty) → Type 1
Chooses choose = (P : Ty → Type 0) (f : Fields) → EachField P f → P any_ty → P (choose f)

pub first_chooses : Chooses first_field
unfolding first_field
first_chooses P no_fields h p = p
first_chooses P (field s k f) h p = h.0

pub last_chooses : Chooses last_field
unfolding last_field
last_chooses P no_fields h p = p
last_chooses P (field s k no_fields) h p = h.0
last_chooses P (field s k (field t l f)) h p = last_chooses P (field t l f) h.1 p

nth_of : (P : Ty → Type 0) (n : ℕ) (f : Fields) (u : Ty) → EachField P f → P u → P (or_else (field_in n f) u)
unfolding field_in
nth_of P n no_fields u h p = p
nth_of P zero (field s k f) u h p = h.0
nth_of P (suc n) (field s k f) u h p = nth_of P n f u h.1 p

pub nth_chooses : (n : ℕ) → Chooses (nth_field n)
unfolding nth_field
nth_chooses n P f h p = nth_of P n f (first_field f) h (first_chooses P f h p)

pub any_ty-within : RecordsWithin any_ty
any_ty-within = (((omega arith, tt), (omega arith, tt)), tt)

-- ---- copies

pub copies-count : (n : ℕ) (t : Ty) → field_count (copies n t) ≡ n
unfolding copies
copies-count zero t = refl
copies-count (suc n) (ty s k) = ap suc (copies-count n (ty s k))

pub copies-within : (n : ℕ) (t : Ty) → RecordsWithin t → FieldsWithin (copies n t)
unfolding copies
copies-within zero t h = tt
copies-within (suc n) (ty s k) h = (h.0, h.1, copies-within n (ty s k) h)

pub copies-bytes : (n : ℕ) (t : Ty) → write_fields (copies (suc n) t) ≡ write_ty t ++ write_fields (copies n t)
unfolding copies write_fields write_ty
copies-bytes n (ty s k) = refl

-- ---- field n in the bytes of its type

-- a stretch of some bytes
abbrev pub cut : Option Stretch → List ℕ → Option (List ℕ)
cut none w = none
cut (some (stretch at n)) w = some (take n (drop at w))

abbrev pub option_bytes : Option Ty → Option (List ℕ)
option_bytes none = none
option_bytes (some t) = some (write_ty t)

stretch-bytes : (at n : ℕ) (f : Fields) (w : List ℕ) → drop at w ≡ write_fields f → cut (stretch_in at n f) w ≡ option_bytes (field_in n f)
unfolding stretch_in field_in write_fields write_ty
stretch-bytes at n no_fields w h = refl
stretch-bytes at zero (field s k f) w h = ap some (rw h (take-append_seam (write_shape s ++ write_scalar k) (write_fields f)))
stretch-bytes at (suc n) (field s k f) w h =
    stretch-bytes (at + length (write_shape s ++ write_scalar k)) n f w
    (sym (drop-drop (length (write_shape s ++ write_scalar k)) at w) ∙ rw h (drop-append_seam (write_shape s ++ write_scalar k) (write_fields f)))

def-bytes : (s : Shape) (m : Option (List ℕ)) (f : Fields) → write_shape s ++ write_scalar (box_def m f) ≡ before_fields s m f ++ write_fields f
unfolding write_scalar
def-bytes s m f = simp append_assoc

-- Field n's stretch of the type's bytes is what is written for field n, and there is none where there is no such field.
pub field-bytes : (n : ℕ) (t : Ty) → cut (field_place n t) (write_ty t) ≡ option_bytes (field_at n t)
unfolding field_place field_at write_ty
field-bytes n (ty s (plain k)) = refl
field-bytes n (ty s box_any) = refl
field-bytes n (ty s (box_all t k)) = refl
field-bytes n (ty s (box_def m f)) =
    stretch-bytes (length (before_fields s m f)) n f (write_shape s ++ write_scalar (box_def m f))
    (rw (def-bytes s m f) (drop-append_seam (before_fields s m f) (write_fields f)))
