-- Cases (a) to (m) of document 01 in one list, thirteen of them, in its order and each beside its words; and one statement that
-- all of it holds of the rules. A case is a list of claims; a claim names a rule, what goes in and what comes out.
use Rattle.std.specs.Prelude.{Bool, true, false, List, [], ◌∷◌, ◌≡◌, refl, Float, length}
use Rattle.std.proofs.Math.Option.{Option, none, some}
use Rattle.std.specs.Float.Ieee.{lt}
use Rattle.model.specs.Refusals.{unpervaded, wrong_scalar, wrong_count, not_a_size}
use Rattle.model.specs.Types.{Dim, static, unknown, Shape, shape, Kind, bool, int, num, any, Scalar, plain, box_any, box_all, Ty, inside, below}
use Rattle.model.specs.Within.{All}
use Rattle.format.specs.Records.{code}
use Rattle.format.specs.Outcome.{Outcome, accepted, refused}
use Rattle.rules.specs.Sizes.{cmp_dim, larger, compatible, join_dim}
use Rattle.rules.specs.Shapes.{any_shape, is_any, rank, row_shape, merge_dims, merge_closing, merge_from, join_dims, join_longer, join_ends, join_closing, join_shapes}
use Rattle.rules.specs.Order.{code_of}
use Rattle.rules.specs.Scalars.{superset_codes, superset_of, union}
use Rattle.rules.specs.Types.{wholly_any}
use Rattle.rules.specs.Pervade.{against_absent, together, walk, pervade_closing, pervade}
use Rattle.rules.proofs.Examples.{closed, ending, statics, starting, of}
use Rattle.validation.specs.CheckShape.{Side, unsided, right, agree, equal_dim, sizes_agree, count_test, names_all, mismatch, shape_mismatch, sided_shape, check_shape}
use Rattle.validation.specs.AsFields.{keeps_limits}
use Rattle.validation.specs.CheckScalar.{check_scalar}
use Rattle.validation.specs.Validate.{validate}
use Rattle.number.specs.Sizes.{sizes_from}
use Rattle.number.proofs.Examples.{zero, minus_zero, one, minus_one, two, infinity, minus_infinity}
use Rattle.val.specs.Values.{Value, number, numbers, value_spec, nums_scalar, value_as_dim, value_as_dims}

pub data Claim : Type 0 where
  -- the larger of two sizes, whichever stands first
  the_larger : Dim → Dim → Dim → Claim
  the_join : Shape → Shape → Shape → Claim
  the_row : Shape → Shape → Claim
  -- the union of two scalars, for every content of an All box in them
  the_union : (Shape → Scalar → Scalar) → (Shape → Scalar → Scalar) → (Shape → Scalar → Scalar) → Claim
  the_kind : List Float → Kind → Claim
  -- a value by `as_dim`, `as_dims` and `spec`
  the_size : Value → Outcome (Option Dim) → Claim
  the_sizes : Value → Outcome (Option (List Dim)) → Claim
  the_spec : Value → Outcome Ty → Claim
  -- with the first's fill and the second's
  the_pervading : Bool → Bool → Shape → Shape → Outcome Shape → Claim
  -- the same whatever is filled
  every_pervading : Shape → Shape → Outcome Shape → Claim
  -- a spec on a type
  the_validation : Side → Ty → Ty → Outcome Ty → Claim
  -- the shape of a spec on the shape of a type
  the_shape_check : Side → Shape → Shape → Outcome Shape → Claim

-- a pervading that gives nothing is refusal 8
abbrev pervading_outcome : Option Shape → Outcome Shape
pervading_outcome none = refused unpervaded 0
pervading_outcome (some s) = accepted s

-- that the rule gives it
abbrev pub Says : Claim → Type 0
Says (the_larger d e x) = (larger d e ≡ x) × (larger e d ≡ x)
Says (the_join s t x) = join_shapes s t ≡ x
Says (the_row s x) = row_shape s ≡ x
Says (the_union k l x) = (s : Shape) (j : Scalar) → union (k s j) (l s j) ≡ x s j
Says (the_kind xs k) = nums_scalar xs ≡ plain k
Says (the_size v x) = value_as_dim v ≡ x
Says (the_sizes v x) = value_as_dims v ≡ x
Says (the_spec v x) = value_spec v ≡ x
Says (the_pervading f g s t x) = pervading_outcome (pervade f g s t) ≡ x
Says (every_pervading s t x) = (f g : Bool) → pervading_outcome (pervade f g s t) ≡ x
Says (the_validation side s t x) = validate side s t ≡ x
Says (the_shape_check side s t x) = check_shape side s t ≡ x

abbrev pub AllSay : List Claim → Type 0
AllSay claims = All Says claims

unfoldable pub cases : List (List Claim)
cases =
    -- (a) The larger of 1 and ? is ?; of 0 and ? it is 0; of 0 and 1 it is 1.
    (
    the_larger (static 1) unknown unknown
    ∷ the_larger (static 0) unknown (static 0)
    ∷ the_larger (static 0) (static 1) (static 1)
    ∷ [])
    -- (b) [2 3] with [2] gives [2].
    ∷ (the_join (statics (2 ∷ 3 ∷ [])) (statics (2 ∷ [])) (statics (2 ∷ [])) ∷ [])
    -- (c) [..2 3 4] with itself gives [..? 4 3].
    ∷ (the_join (ending (static 2 ∷ static 3 ∷ static 4 ∷ [])) (ending (static 2 ∷ static 3 ∷ static 4 ∷ [])) (ending (unknown ∷ static 4 ∷ static 3 ∷ [])) ∷ [])
    -- (d) [..4 5] gives [..5]; [] and [..] stay.
    ∷ (
    the_row (ending (static 4 ∷ static 5 ∷ [])) (ending (static 5 ∷ []))
    ∷ the_row (closed []) (closed [])
    ∷ the_row any_shape any_shape
    ∷ [])
    -- (e) Box Any with box All gives whichever stood first.
    ∷ (
    the_union (λ s k. box_any) box_all (λ s k. box_any)
    ∷ the_union box_all (λ s k. box_any) box_all
    ∷ [])
    -- (f) 1, 0, -0 give Bool; -1, 2 give Int; infinity gives Num.
    ∷ (
    the_kind (one ∷ zero ∷ minus_zero ∷ []) bool
    ∷ the_kind (minus_one ∷ two ∷ []) int
    ∷ the_kind (infinity ∷ []) num
    ∷ [])
    -- (g) Minus infinity is ? for `as_dim`, refused by `as_dims` and `spec`.
    ∷ (
    the_size (number minus_infinity) (accepted (some unknown))
    ∷ the_sizes (numbers (minus_infinity ∷ [])) (refused not_a_size 0)
    ∷ the_spec (number minus_infinity) (refused not_a_size 0)
    ∷ the_spec (numbers (minus_infinity ∷ [])) (refused not_a_size 0)
    ∷ [])
    -- (h) [1] with [] gives [?].
    ∷ (every_pervading (statics (1 ∷ [])) (closed []) (accepted (closed (unknown ∷ []))) ∷ [])
    -- (i) [3 ?] with [? 4] gives [3 4].
    ∷ (every_pervading (closed (static 3 ∷ unknown ∷ [])) (closed (unknown ∷ static 4 ∷ [])) (accepted (statics (3 ∷ 4 ∷ []))) ∷ [])
    -- (j) [3] with [4]: 8 unless the first is filled, then [4].
    ∷ (
    the_pervading false false (statics (3 ∷ [])) (statics (4 ∷ [])) (refused unpervaded 0)
    ∷ the_pervading false true (statics (3 ∷ [])) (statics (4 ∷ [])) (refused unpervaded 0)
    ∷ the_pervading true false (statics (3 ∷ [])) (statics (4 ∷ [])) (accepted (statics (4 ∷ [])))
    ∷ the_pervading true true (statics (3 ∷ [])) (statics (4 ∷ [])) (accepted (statics (4 ∷ [])))
    ∷ [])
    -- (k) [0] with [1] gives [0].
    ∷ (every_pervading (statics (0 ∷ [])) (statics (1 ∷ [])) (accepted (statics (0 ∷ []))) ∷ [])
    -- (l) Num [?] on Int [3] leaves Int [3]; Num [..] on Any [3] is 9.
    ∷ (
    the_validation unsided (of num (closed (unknown ∷ []))) (of int (statics (3 ∷ []))) (accepted (of int (statics (3 ∷ []))))
    ∷ the_validation unsided (of num any_shape) (of any (statics (3 ∷ []))) (refused wrong_scalar 0)
    ∷ [])
    -- (m) [2 3] on [2..] is 10; since document 02 (2026-03) it is 14. Right-side [3] on [2 3] leaves [2 3..3].
    ∷ (
    the_shape_check unsided (statics (2 ∷ 3 ∷ [])) (starting (2 ∷ [])) (refused wrong_count 0)
    ∷ the_shape_check right (statics (3 ∷ [])) (statics (2 ∷ 3 ∷ [])) (accepted (shape (static 2 ∷ static 3 ∷ []) (some (static 3 ∷ []))))
    ∷ [])
    ∷ []

-- from (a) to (m)
pub cases_thirteen : length cases ≡ 13
unfolding cases
cases_thirteen = refl

pub cases_hold : All AllSay cases
unfolding cases inside below cmp_dim larger compatible row_shape is_any rank merge_dims merge_closing merge_from join_dim join_dims join_longer join_ends
    join_closing join_shapes code code_of superset_codes superset_of union wholly_any against_absent together walk pervade_closing pervade nums_scalar
    lt sizes_from value_spec value_as_dim value_as_dims agree equal_dim sizes_agree count_test names_all mismatch shape_mismatch sided_shape check_shape keeps_limits check_scalar
    validate
cases_hold = (
  ((refl, refl), ((refl, refl), ((refl, refl), tt))),
  (
    (refl, tt),
    (
      (refl, tt),
      (
        (refl, (refl, (refl, tt))),
        (
          (λ s k. refl, (λ s k. refl, tt)),
          (
            (refl, (refl, (refl, tt))),
            (
              (refl, (refl, (refl, (refl, tt)))),
              (
                (λ f g. refl, tt),
                (
                  (λ f g. refl, tt),
                  (
                    (refl, (refl, (refl, (refl, tt)))),
                    (
                      (λ f g. refl, tt),
                      (
                        (refl, (refl, tt)),
                        ((refl, (refl, tt)), tt),
                      ),
                    ),
                  ),
                ),
              ),
            ),
          ),
        ),
      ),
    ),
  ),
)
