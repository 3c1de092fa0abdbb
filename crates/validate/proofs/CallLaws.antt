-- `check_shape`: what it comes to on two types that were read.
use Prim.Native.Nat.{ℕ, ◌-◌}
use mathlib.Core.List.{List, [], ◌++◌}
use mathlib.Core.Path.{◌≡◌, refl, sym, ◌∙◌, ap}
use lib.ListN.{length, take, drop}
use Rattle.std.specs.Prelude.{Ok, Err}
use Rattle.model.specs.Types.{Shape, Scalar, ty}
use Rattle.format.specs.Reader.{Bytes}
use Rattle.format.specs.Records.{write_shape, write_scalar, write_ty}
use Rattle.format.specs.Views.{rest-is}
use Rattle.format.specs.Outcome.{Outcome, accepted, refused, mapped, both, lone}
use Rattle.limits.specs.Answers.{number_of}
use Rattle.limits.specs.declared.refusal.Reason.{Reason}
use Rattle.record.specs.Answers.{shape_for}
use Rattle.record.specs.declared.DynShape.{DynShape}
use Rattle.validation.specs.CheckShape.{Side}
use Rattle.validation.specs.Validate.{check_shape_only}
use Rattle.known.proofs.WholeLaws.{Begins, record_there}
use Rattle.validate.specs.Answers.{checked_of}
use Rattle.validate.specs.Plans.{shape_after}
use Rattle.validate.proofs.WholeLaws.{Lones}

module _ {s t : List ℕ} (v : Lones s t) (side : Side) where
  -- what the call comes to
  abbrev pub shape_check : Outcome (List ℕ)
  shape_check = both (λ a b. mapped write_ty (check_shape_only side a b)) (lone s) (lone t)

  -- the type's scalar stays
  abbrev with_scalar : Shape → List ℕ
  with_scalar u = write_shape u ++ write_scalar v.pair.type-scalar

  shape-only : shape_check ≡ mapped with_scalar (shape_after side v.pair)
  unfolding check_shape_only write_ty
  shape-only = rw (v.first, v.second) (out (shape_after side v.pair) v.pair.type-scalar)
    where
      out : (o : Outcome Shape) (l : Scalar) → mapped write_ty (mapped (λ u. ty u l) o) ≡ mapped (λ u. write_shape u ++ write_scalar l) o
      out (accepted u) l = refl
      out (refused k p) l = refl

  pub shape-clash : (r : Reason) → checked_of (Err r) ≡ shape_after side v.pair → shape_check ≡ refused (number_of r) 0
  shape-clash r e = shape-only ∙ ap (mapped with_scalar) (sym e)

  pub shape-merged : Bytes t → {at : ℕ} → Begins t at → (p : DynShape) → checked_of (Ok p) ≡ shape_after side v.pair
      → shape_check ≡ accepted (write_shape (shape_for p) ++ ([] ++ take (length t - at) (drop at t)))
  shape-merged small {at} begins p e =
      let scalar : drop at t ≡ write_scalar v.pair.type-scalar = record_there t small begins (ty v.pair.type-shape v.pair.type-scalar) v.second in
      shape-only ∙ ap (mapped with_scalar) (sym e) ∙ ap (λ w. accepted (write_shape (shape_for p) ++ w)) (sym (rest-is t at ∙ scalar))
