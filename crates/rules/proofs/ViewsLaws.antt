-- What stands at the places within a scalar's record, and which scalar it is by its code and its form.
use Rattle.std.specs.Prelude.{ℕ, ◌+◌, ◌≤◌, ◌<◌, List, ◌++◌, ◌≡◌, refl, length, get_or}
use Rattle.std.proofs.Common.{arith, ◌∙◌, length-append}
use Rattle.std.proofs.Math.Option.{Option}
use Rattle.model.specs.Types.{Shape, Kind, Scalar, plain, box_any, box_all, box_def, Fields, Ty, ty}
use Rattle.format.specs.Records.{box_code, box_start, write_shape, write_scalar, write_ty}
use Rattle.format.specs.Views.{Stands, stands-nth, stands-within}
use Rattle.rules.specs.Order.{code_of}
use Rattle.rules.proofs.OrderLaws.{code-box}
use Rattle.rules.specs.Views.{form_of, after_form}

-- ---- the record of a scalar

scalar-kind : (k : Scalar) → get_or (write_scalar k) 2 0 ≡ code_of k
unfolding write_scalar code_of
scalar-kind (plain k) = refl
scalar-kind box_any = refl
scalar-kind (box_all s k) = refl
scalar-kind (box_def n f) = refl

pub scalar_least : (k : Scalar) → 3 ≤ length (write_scalar k)
unfolding write_scalar
scalar_least (plain k) = omega arith
scalar_least box_any = omega arith
scalar_least (box_all s k) = omega arith
scalar_least (box_def n f) = omega arith

pub type_least : (t : Ty) → 0 < length (write_ty t)
unfolding write_ty
type_least (ty o k) = omega (arith, length-append (write_shape o) (write_scalar k), scalar_least k)

pub box-bytes : (k : Scalar) → code_of k ≡ box_code → write_scalar k ≡ box_start (form_of k) ++ after_form k
unfolding write_scalar code_of form_of after_form
box-bytes (plain k) e = absurd (code-box k e)
box-bytes box_any e = refl
box-bytes (box_all s k) e = refl
box-bytes (box_def n f) e = refl

module _ (s : List ℕ) (at : ℕ) (k : Scalar) (stands : Stands s at (write_scalar k)) where
  pub kind-within : at + 3 ≤ length s
  kind-within = omega (arith, scalar_least k, stands-within s at (write_scalar k) (omega (arith, scalar_least k)) stands)

  pub kind-byte : get_or s (at + 2) 0 ≡ code_of k
  kind-byte = stands-nth s at (write_scalar k) 2 (omega (arith, scalar_least k)) stands ∙ scalar-kind k

  module _ (boxed : code_of k ≡ box_code) where
    box-stands : Stands s at (box_start (form_of k) ++ after_form k)
    box-stands = rw (box-bytes k boxed) at stands

    pub form-within : at + 6 ≤ length s
    form-within = omega (arith, length-append (box_start (form_of k)) (after_form k), stands-within s at (box_start (form_of k) ++ after_form k) (omega (arith, length-append (box_start (form_of k)) (after_form k))) box-stands)

    pub form-byte : get_or s (at + 5) 0 ≡ form_of k
    form-byte = stands-nth s at (box_start (form_of k) ++ after_form k) 5 (omega (arith, length-append (box_start (form_of k)) (after_form k))) box-stands

-- ---- which scalar it is, by continuation

pub is_plain : {C : Type 0} (k : Scalar) → (code_of k ≡ box_code → ⊥) → ((l : Kind) → k ≡ plain l → C) → C
unfolding code_of
is_plain (plain l) e f = f l refl
is_plain box_any e f = absurd (e refl)
is_plain (box_all s l) e f = absurd (e refl)
is_plain (box_def n g) e f = absurd (e refl)

pub is_box-any : (k : Scalar) → form_of k ≡ 0 → k ≡ box_any
unfolding form_of
is_box-any (plain l) e = absurd (omega arith)
is_box-any box_any e = refl
is_box-any (box_all s l) e = absurd (omega arith)
is_box-any (box_def n g) e = absurd (omega arith)

pub is_box-all : {C : Type 0} (k : Scalar) → form_of k ≡ 1 → ((s : Shape) (l : Scalar) → k ≡ box_all s l → C) → C
unfolding form_of
is_box-all (plain l) e f = absurd (omega arith)
is_box-all box_any e f = absurd (omega arith)
is_box-all (box_all s l) e f = f s l refl
is_box-all (box_def n g) e f = absurd (omega arith)

pub is_box-def : {C : Type 0} (k : Scalar) → form_of k ≡ 2 → ((n : Option (List ℕ)) (g : Fields) → k ≡ box_def n g → C) → C
unfolding form_of
is_box-def (plain l) e f = absurd (omega arith)
is_box-def box_any e f = absurd (omega arith)
is_box-def (box_all s l) e f = absurd (omega arith)
is_box-def (box_def n g) e f = f n g refl

-- a box has one of the three forms
pub is_box-def_else : (k : Scalar) → code_of k ≡ box_code → (form_of k ≡ 0 → ⊥) → (form_of k ≡ 1 → ⊥) → form_of k ≡ 2
unfolding code_of form_of
is_box-def_else (plain l) e f g = absurd (code-box l e)
is_box-def_else box_any e f g = absurd (f refl)
is_box-def_else (box_all s l) e f g = absurd (g refl)
is_box-def_else (box_def n h) e f g = refl
