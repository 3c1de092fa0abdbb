-- What stands in a box: its bytes, and what the shape says of it.
use Prim.Native.Nat.{ℕ}
use native.Mathlib.Omega.{arith}
use mathlib.Core.Bool.{true, false}
use mathlib.Core.List.{List, [], ◌∷◌}
use mathlib.Core.Path.{◌≡◌, refl, ◌∙◌, ap}
use Rattle.model.specs.Types.{Shape, Scalar, plain, box_any, box_all, box_def, Fields, no_fields, field, Ty, ty, shape_of}
use Rattle.format.specs.Reader.{Bytes}
use Rattle.format.specs.Records.{code, write_shape, write_scalar, write_ty}
use Rattle.format.specs.Outcome.{Outcome, accepted, refused, mapped, lone}
use Rattle.format.specs.ReadWrite.{lone_write}
use Rattle.rules.specs.Shapes.{is_scalar}
use Rattle.rules.specs.Types.{any_ty, field_in, first_field, or_else, unboxed}
use Rattle.ty.specs.Parts.{content_of}

-- ---- the bytes of [..] of Any

abbrev pub any_bytes : List ℕ
any_bytes = 0x53 ∷ 0x48 ∷ 0 ∷ 0 ∷ 0x53 ∷ 0x43 ∷ 9 ∷ []

pub any_written : write_ty any_ty ≡ any_bytes
unfolding write_ty write_shape write_scalar code
any_written = refl

-- ---- the first field

pub first_is : (f : Fields) → first_field f ≡ or_else (field_in 0 f) any_ty
unfolding first_field field_in
first_is no_fields = refl
first_is (field s k f) = refl

-- ---- `unboxed`

module _ (s : List ℕ) {d : Shape} (shaped : mapped shape_of (lone s) ≡ accepted d) where
  shaped_as : {C : Type 0} → ((k : Scalar) → lone s ≡ accepted (ty d k) → C) → C
  shaped_as {C} f = go (lone s) refl shaped
    where
      go : (r : Outcome Ty) → lone s ≡ r → mapped shape_of r ≡ accepted d → C
      go (accepted (ty o k)) e same = let x : o ≡ d = cc in f k (rw x at e)
      go (refused k p) e same = let z : ◌≡◌ {A = ℕ} 0 1 = cc in absurd (omega arith)

  pub unboxed_in : is_scalar d ≡ true → mapped (λ t. write_ty (unboxed t)) (lone s) ≡ mapped (λ t. write_ty (content_of t)) (lone s)
  unfolding unboxed content_of
  unboxed_in b = shaped_as λ k e. rw e (ap (λ t. accepted (write_ty t)) (go k))
    where
      go : (k : Scalar) → unboxed (ty d k) ≡ content_of (ty d k)
      go (plain k) = refl
      go box_any = rw b
      go (box_all t k) = rw b
      go (box_def n f) = rw b

  pub unboxed_out : Bytes s → is_scalar d ≡ false → mapped (λ t. write_ty (unboxed t)) (lone s) ≡ accepted s
  unfolding unboxed
  unboxed_out small b = shaped_as λ k e. rw e (ap (λ t. accepted (write_ty t)) (go k) ∙ ap accepted (lone_write s small (ty d k) e).0)
    where
      go : (k : Scalar) → unboxed (ty d k) ≡ ty d k
      go (plain k) = refl
      go box_any = rw b
      go (box_all t k) = rw b
      go (box_def n f) = rw b
