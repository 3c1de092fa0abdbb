-- Closed shapes and plain kinds without a side: what `validate` comes to, for each way out.
use Prim.Native.Nat.{ℕ}
use mathlib.Core.Bool.{Bool, true, false, cond}
use mathlib.Core.List.{List, [], ◌∷◌}
use mathlib.Core.Option.{none, some}
use mathlib.Core.Path.{◌≡◌, refl, sym, ◌∙◌}
use Rattle.model.specs.Refusals.{wrong_scalar}
use Rattle.model.specs.Types.{Dim, Kind, Scalar, shape, plain, ty}
use Rattle.format.specs.Outcome.{Outcome, accepted, refused, mapped, delivery, deliver}
use Rattle.format.specs.Records.{code, write_scalar, write_ty}
use Rattle.lent.specs.Delivers.{deliver-refused}
use Rattle.record.specs.Answers.{dims_of}
use Rattle.record.specs.declared.Dims.{Dims}
use Rattle.rules.specs.Order.{code_of}
use Rattle.rules.specs.Scalars.{superset_codes, superset_of}
use Rattle.rules.specs.Shapes.{is_any, merge_dims, merge_closing, merge_from}
use Rattle.rules.specs.Types.{wholly_any}
use Rattle.validation.specs.CheckShape.{unsided, mismatch, shape_mismatch, sided_shape, check_shape}
use Rattle.validation.proofs.CheckShapeLaws.{check_shape_match, check_shape-mismatch}
use Rattle.validation.specs.CheckScalar.{in_turn, check_scalar}
use Rattle.validation.specs.Validate.{outermost, validate}
use Rattle.writer.specs.Kinds.{closed_record}

-- a closed shape is not [..]
not-any : (p : List Dim) → is_any (shape p none) ≡ false
unfolding is_any
not-any [] = refl
not-any (d ∷ p) = refl

module _ (o p : List Dim) where
  clash-is : shape_mismatch unsided (shape o none) (shape p none) ≡ mismatch unsided o (shape p none)
  unfolding shape_mismatch
  clash-is = rw (not-any o, not-any p)

  merged : merge_from (shape p none) (sided_shape unsided (shape o none)) ≡ shape (merge_dims p o) none
  unfolding merge_from merge_closing sided_shape
  merged = refl

  module _ (k l : Kind) where
    abbrev answer : Outcome (List ℕ)
    answer = mapped write_ty (validate unsided (ty (shape o none) (plain k)) (ty (shape p none) (plain l)))

    abbrev asked : Outcome Scalar
    asked = check_scalar (plain k) (outermost (shape p none)) (shape p none) (plain l)

    by_codes : asked ≡ cond (superset_codes (code k) (code l)) (accepted (plain l)) (refused wrong_scalar 0)
    unfolding check_scalar wholly_any superset_of code_of
    by_codes = rw (not-any p)

    covered : superset_codes (code k) (code l) ≡ true → asked ≡ accepted (plain l)
    covered e = by_codes ∙ rw e

    in-turn : answer ≡ mapped write_ty (in_turn asked (check_shape unsided (shape o none) (shape p none)))
    unfolding validate
    in-turn = refl

    uncovered : superset_codes (code k) (code l) ≡ false → answer ≡ refused wrong_scalar 0
    uncovered e = let is : asked ≡ refused wrong_scalar 0 = by_codes ∙ rw e in in-turn ∙ rw is

    module _ (e : superset_codes (code k) (code l) ≡ true) where
      clashed : {n : ℕ} → some n ≡ mismatch unsided o (shape p none) → answer ≡ refused n 0
      clashed f = in-turn ∙ rw (covered e, check_shape-mismatch unsided (shape o none) (shape p none) (clash-is ∙ sym f))

      clear : none ≡ mismatch unsided o (shape p none) → answer ≡ accepted (closed_record (merge_dims p o) (code l))
      unfolding write_ty write_scalar
      clear f = in-turn ∙ rw (covered e, check_shape_match unsided (shape o none) (shape p none) (clash-is ∙ sym f), merged)

    -- kinds by their codes, and whether the spec's was found to be a superset
    module _ {x y : ℕ} {over : Bool} (found : over ≡ superset_codes x y) (first : x ≡ code k) (second : y ≡ code l) where
      says : over ≡ superset_codes (code k) (code l)
      says = rw (← first, ← second) found

      pub plain_uncovered : over ≡ false → (buffer : List ℕ) → delivery (refused wrong_scalar 0) buffer ≡ deliver answer buffer
      plain_uncovered h buffer = sym (deliver-refused buffer (uncovered (sym says ∙ h)))

      module _ (h : over ≡ true) where
        pub plain_clash : {n : ℕ} → some n ≡ mismatch unsided o (shape p none) → (buffer : List ℕ) → delivery (refused n 0) buffer ≡ deliver answer buffer
        plain_clash e buffer = sym (deliver-refused buffer (clashed (sym says ∙ h) e))

        pub plain_clear : none ≡ mismatch unsided o (shape p none) → (m : Dims) → dims_of m ≡ merge_dims p o → answer ≡ accepted (closed_record (dims_of m) y)
        plain_clear e m is = clear (sym says ∙ h) e ∙ rw (is, second)
