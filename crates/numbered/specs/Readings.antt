-- Document 02, 2026-03, "whether the spec or the checked type was being read when refused (1 to 6 while reading), or neither", of the three
-- validations that the library exports: the numbers that come while an input is read, and while neither is.
use Rattle.std.specs.Prelude.{ℕ, zero, suc, Bool, cond, List, [], ◌∷◌, ◌++◌, ◌≡◌, leb, length}
use Rattle.std.proofs.Common.{arith}
use Rattle.std.proofs.Math.Bool.{true, false}
use Rattle.std.proofs.Math.Path.{refl}
use Rattle.std.proofs.Math.ListN.{drop}
use Rattle.model.specs.Refusals.{out_of_range, too_many, too_short, wrong_scalar, wrong_shape, wrong_count, Among}
use Rattle.model.specs.Types.{Ty}
use Rattle.format.specs.Records.{write_ty}
use Rattle.format.specs.Outcome.{Outcome, accepted, refused, mapped, both, refusal_of, lone, delivery, deliver}
use Rattle.validation.specs.CheckShape.{Side, unsided, left, right}
use Rattle.validation.specs.Validate.{validate, check_scalar_only, check_shape_only}
use Rattle.validation.specs.Separate.{neither, being_read, separate, separately}
use Rattle.validation.proofs.RefusalsLaws.{validate-listed, check_scalar_only-listed}
use Rattle.demand.specs.Numbers.{of_lone, RefusedWith}
use Rattle.demand.proofs.Numbered.{lone-numbered}
use Rattle.velgrodis.specs.declared.Validation.{Validation}
use Rattle.velgrodis.specs.Answers.{validation_of}
use Rattle.velgrodis.specs.Codes.{sided}
use Rattle.numbered.specs.Calls.{beside_validation}
use Rattle.numbered.specs.Numbered.{listed_with, shape_with}

-- While neither is read. Before: a side that is none. After both: over the limits, a result too short, a mismatch.
abbrev pub of_validate_rule : List ℕ
of_validate_rule = out_of_range ∷ too_many ∷ too_short ∷ wrong_scalar ∷ wrong_shape ∷ wrong_count ∷ []

abbrev pub of_shape_rule : List ℕ
of_shape_rule = out_of_range ∷ too_short ∷ wrong_shape ∷ wrong_count ∷ []

abbrev pub of_scalar_rule : List ℕ
of_scalar_rule = too_many ∷ too_short ∷ wrong_scalar ∷ wrong_shape ∷ wrong_count ∷ []

-- A refusal (kind 0) has one of 1 to 6 while an input was being read, else one of a list. What is no refusal was reading neither.
pub record ReadingTold (ns : List ℕ) (v : Validation) : Type 0 where
  pub while-reading : v.answer.kind ≡ 0 → (v.reading ≡ 0 → ⊥) → Among of_lone v.answer.number
  pub while_neither : v.answer.kind ≡ 0 → v.reading ≡ 0 → Among ns v.answer.number
  pub accepted-neither : (v.answer.kind ≡ 0 → ⊥) → v.reading ≡ 0

-- ---- one law for the three

module _ (ns : List ℕ) (short : Among ns too_short) where
  module _ (g : Ty → Ty → Outcome Ty) (numbers : (a b : Ty) → RefusedWith ns (g a b)) (result : List ℕ) where
    rule_told : (o : Outcome Ty) → RefusedWith ns o → ReadingTold ns (beside_validation (validation_of (separate (deliver (mapped write_ty o) result) neither)))
    unfolding deliver
    rule_told (refused n p) h = record { while-reading = λ e m. absurd (m refl); while_neither = λ e m. h.number_is n p refl; accepted-neither = λ m. refl }
    rule_told (accepted u) h = go (leb (length (write_ty u)) (length result))
      where
        go : (t : Bool)
            → ReadingTold ns (beside_validation (validation_of (separate (cond t (delivery (accepted (length (write_ty u))) (write_ty u ++ drop (length (write_ty u)) result)) (delivery (refused too_short 0) result)) neither)))
        go true = record { while-reading = λ e m. absurd (m refl); while_neither = λ e m. absurd (omega (arith, e)); accepted-neither = λ m. refl }
        go false = record { while-reading = λ e m. absurd (m refl); while_neither = λ e m. short; accepted-neither = λ m. refl }

    read_told : (x y : Outcome Ty) → RefusedWith of_lone x → RefusedWith of_lone y
        → ReadingTold ns (beside_validation (validation_of (separate (deliver (both (λ a b. mapped write_ty (g a b)) x y) result) (being_read (refusal_of x y)))))
    unfolding deliver
    read_told (refused k p) y h j = record { while-reading = λ e m. h.number_is k p refl; while_neither = λ e m. absurd (omega (arith, m)); accepted-neither = λ m. absurd (m refl) }
    read_told (accepted a) (refused k p) h j = record { while-reading = λ e m. j.number_is k p refl; while_neither = λ e m. absurd (omega (arith, m)); accepted-neither = λ m. absurd (m refl) }
    read_told (accepted a) (accepted b) h j = rule_told (g a b) (numbers a b)

    separate-told : (s t : List ℕ) → ReadingTold ns (beside_validation (validation_of (separately g s t result)))
    separate-told s t = read_told (lone s) (lone t) (lone-numbered s) (lone-numbered t)

  sided-told : Among ns out_of_range → (g : Side → Ty → Ty → Outcome Ty) → ((side : Side) (a b : Ty) → RefusedWith ns (g side a b)) → (n : ℕ) (s t result : List ℕ)
      → ReadingTold ns (beside_validation (validation_of (sided g n s t result)))
  sided-told none g numbers zero s t result = separate-told (g unsided) (numbers unsided) result s t
  sided-told none g numbers (suc zero) s t result = separate-told (g left) (numbers left) result s t
  sided-told none g numbers (suc (suc zero)) s t result = separate-told (g right) (numbers right) result s t
  sided-told none g numbers (suc (suc (suc n))) s t result = record { while-reading = λ e m. absurd (m refl); while_neither = λ e m. none; accepted-neither = λ m. refl }

-- ---- the three

pub validate-told : (n : ℕ) (s t result : List ℕ) → ReadingTold of_validate_rule (beside_validation (validation_of (sided validate n s t result)))
validate-told = sided-told of_validate_rule refl refl validate λ side a b. listed_with (refl, (refl, (refl, (refl, tt)))) (validate side a b) (validate-listed side a b)

pub check_shape-told : (n : ℕ) (s t result : List ℕ) → ReadingTold of_shape_rule (beside_validation (validation_of (sided check_shape_only n s t result)))
check_shape-told = sided-told of_shape_rule refl refl check_shape_only (shape_with refl refl)

pub check_scalar-told : (s t result : List ℕ) → ReadingTold of_scalar_rule (beside_validation (validation_of (separately check_scalar_only s t result)))
check_scalar-told s t result = separate-told of_scalar_rule refl check_scalar_only (λ a b. listed_with (refl, (refl, (refl, (refl, tt)))) (check_scalar_only a b) (check_scalar_only-listed a b)) result s t
