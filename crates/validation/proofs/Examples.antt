-- Examples of validation where the paper's words are easily read otherwise, beside its cases (crate `cases`): what is asked first,
-- what reaches into boxes, what counts as a match, how many fields are made, and when the limits are asked.
use Rattle.std.specs.Prelude.{ℕ, zero, suc, List, [], ◌∷◌, ◌≡◌, refl}
use Rattle.std.proofs.Math.Option.{none, some}
use Rattle.model.specs.Refusals.{too_many, wrong_scalar, wrong_shape, wrong_count}
use Rattle.model.specs.Types.{static, unknown, Shape, shape, int, num, char, any, box_any, box_def, Fields, no_fields, Ty, ty, box_of, field_of, inside, below}
use Rattle.model.specs.Within.{All}
use Rattle.format.specs.Records.{code}
use Rattle.format.specs.Outcome.{Outcome, accepted, refused}
use Rattle.rules.specs.Sizes.{cmp_dim, larger, compatible}
use Rattle.rules.specs.Shapes.{any_shape, scalar_shape, is_any, rank, merge_dims, merge_closing, merge_from}
use Rattle.rules.specs.Order.{code_of}
use Rattle.rules.specs.Scalars.{superset_codes, superset_of}
use Rattle.rules.specs.Types.{any_ty, wholly_any, copies}
use Rattle.rules.proofs.Examples.{closed, ending, statics, starting, of}
use Rattle.validation.specs.CheckShape.{Side, unsided, left, right, agree, equal_dim, sizes_agree, count_test, names_all, mismatch, shape_mismatch, sided_shape, check_shape}
use Rattle.validation.specs.AsFields.{keeps_limits, fields_for, as_box, copied, named, as_fields}
use Rattle.validation.specs.CheckScalar.{each_field, on_all, on_def, check_scalar}
use Rattle.validation.specs.Validate.{validate}

pub data Example : Type 0 where
  -- a spec on a type
  the_validation : Side → Ty → Ty → Outcome Ty → Example
  -- the shape of a spec on the shape of a type
  the_shape_check : Side → Shape → Shape → Outcome Shape → Example

abbrev pub Shown : Example → Type 0
Shown (the_validation side s t x) = validate side s t ≡ x
Shown (the_shape_check side s t x) = check_shape side s t ≡ x

-- ---- how the examples are written

-- a type in an All box under [], and in n of them
abbrev pub boxed : Ty → Ty
boxed t = ty scalar_shape (box_of t)

abbrev pub boxed_times : ℕ → Ty → Ty
boxed_times zero t = t
boxed_times (suc n) t = boxed (boxed_times n t)

abbrev pub fields : List Ty → Fields
fields [] = no_fields
fields (t ∷ ts) = field_of t (fields ts)

-- an unnamed Def under [], and a Def named n under a shape
abbrev pub def : List Ty → Ty
def ts = ty scalar_shape (box_def none (fields ts))

abbrev pub def_n : Shape → List Ty → Ty
def_n s ts = ty s (box_def (some (110 ∷ [])) (fields ts))

-- [], and [n] of one size
abbrev pub scalar : Shape
scalar = scalar_shape

abbrev pub sized : ℕ → Shape
sized n = statics (n ∷ [])

-- ---- the examples

-- what is asked first, sides, what counts as a match
unfoldable pub examples : List Example
examples =
    -- Scalar first, then shape: [2] Num on [3] Char is 9, and a 9 inside a box comes before the outer shape's 10.
    the_validation unsided (of num (sized 2)) (of char (sized 3)) (refused wrong_scalar 0)
    ∷ the_validation unsided (ty (sized 2) (box_of (of num scalar))) (ty (sized 3) (box_of (of char scalar))) (refused wrong_scalar 0)
    -- A wholly Any type takes the spec's scalar as it is: what it takes would not pass against itself.
    ∷ the_validation unsided (ty any_shape (box_of (of num (shape (static 2 ∷ []) (some (static 3 ∷ [])))))) any_ty (accepted (ty any_shape (box_of (of num (shape (static 2 ∷ []) (some (static 3 ∷ [])))))))
    ∷ the_shape_check unsided (shape (static 2 ∷ []) (some (static 3 ∷ []))) (shape (static 2 ∷ []) (some (static 3 ∷ []))) (refused wrong_count 0)
    -- The side does not reach into boxes.
    ∷ the_validation right (of num (sized 3)) (of num (statics (2 ∷ 3 ∷ []))) (accepted (of num (shape (static 2 ∷ static 3 ∷ []) (some (static 3 ∷ [])))))
    ∷ the_validation right (boxed (of num (sized 3))) (boxed (of num (statics (2 ∷ 3 ∷ [])))) (refused wrong_count 0)
    ∷ the_validation left (def (of num (sized 2) ∷ [])) (def (of num (statics (2 ∷ 3 ∷ [])) ∷ [])) (refused wrong_count 0)
    -- 1 is not special.
    ∷ the_shape_check unsided (sized 1) (sized 3) (refused wrong_shape 0)
    -- An open type passes if its sizes, one list after the other, are the spec's, ? only with ?. A spec [..] opens the type; a type [..]
    -- is closed by a closed spec.
    ∷ the_shape_check unsided (shape (unknown ∷ []) (some [])) (starting (2 ∷ [])) (refused wrong_shape 0)
    ∷ the_shape_check unsided (sized 2) (ending (static 2 ∷ [])) (accepted (shape (static 2 ∷ []) (some (static 2 ∷ []))))
    ∷ the_shape_check unsided any_shape (sized 3) (accepted (starting (3 ∷ [])))
    ∷ the_shape_check unsided (sized 3) any_shape (accepted (sized 3))
    -- The left side has room for more sizes, and under it an open type for fewer.
    ∷ the_shape_check left (sized 2) (statics (2 ∷ 3 ∷ [])) (accepted (starting (2 ∷ 3 ∷ [])))
    ∷ the_shape_check left (statics (2 ∷ 3 ∷ [])) (sized 2) (refused wrong_count 0)
    ∷ the_shape_check left (statics (2 ∷ 3 ∷ [])) (starting (2 ∷ [])) (accepted (starting (2 ∷ 3 ∷ [])))
    ∷ the_shape_check right (statics (2 ∷ 3 ∷ [])) (ending (static 3 ∷ [])) (refused wrong_count 0)
    -- For the right side the type's opening and closing sizes are counted together: [2 3] on [2..3], whose last is 3.
    ∷ the_shape_check right (statics (2 ∷ 3 ∷ [])) (shape (static 2 ∷ []) (some (static 3 ∷ []))) (accepted (shape (static 2 ∷ []) (some (static 3 ∷ static 3 ∷ []))))
    ∷ []

-- a count that cannot fit, a size that differs
unfoldable pub mismatch_examples : List Example
mismatch_examples =
    -- A count that cannot fit is 14. Without a side: a closed type's counts differ, also under an open spec, under one without opening
    -- sizes, and where a size differs too; an open type names more sizes than the spec has opening sizes, or fewer and none differs.
    the_shape_check unsided (starting (2 ∷ 3 ∷ [])) (sized 2) (refused wrong_count 0)
    ∷ the_shape_check unsided (starting (2 ∷ 3 ∷ [])) (sized 5) (refused wrong_count 0)
    ∷ the_shape_check unsided (ending (static 3 ∷ [])) (sized 3) (refused wrong_count 0)
    ∷ the_shape_check unsided (sized 2) (starting (2 ∷ 3 ∷ [])) (refused wrong_count 0)
    ∷ the_shape_check unsided (sized 2) (starting (5 ∷ 3 ∷ [])) (refused wrong_count 0)
    ∷ the_shape_check unsided (statics (2 ∷ 3 ∷ [])) (starting (2 ∷ [])) (refused wrong_count 0)
    ∷ the_shape_check unsided (statics (2 ∷ 3 ∷ [])) (ending (static 3 ∷ [])) (refused wrong_count 0)
    ∷ the_shape_check unsided (statics (2 ∷ 3 ∷ 4 ∷ [])) (shape (static 2 ∷ []) (some (static 4 ∷ []))) (refused wrong_count 0)
    ∷ the_shape_check unsided (closed (unknown ∷ static 3 ∷ [])) (shape (unknown ∷ []) (some [])) (refused wrong_count 0)
    -- A size that differs is 10; of an open type also where fewer are named, from the front and from the end, and there ? differs from 2.
    ∷ the_shape_check unsided (statics (2 ∷ 3 ∷ [])) (statics (2 ∷ 4 ∷ [])) (refused wrong_shape 0)
    ∷ the_shape_check unsided (sized 2) (ending (static 3 ∷ [])) (refused wrong_shape 0)
    ∷ the_shape_check unsided (statics (2 ∷ 3 ∷ [])) (starting (5 ∷ [])) (refused wrong_shape 0)
    ∷ the_shape_check unsided (statics (2 ∷ 3 ∷ [])) (shape (unknown ∷ []) (some [])) (refused wrong_shape 0)
    ∷ the_shape_check unsided (statics (2 ∷ 3 ∷ [])) (ending (static 4 ∷ [])) (refused wrong_shape 0)
    ∷ the_shape_check unsided (statics (2 ∷ 3 ∷ 4 ∷ [])) (shape (static 2 ∷ []) (some (static 5 ∷ []))) (refused wrong_shape 0)
    -- For a side its own count decides: for the left one an open type's never, for the right one both lists together.
    ∷ the_shape_check left (statics (2 ∷ 3 ∷ [])) (sized 5) (refused wrong_count 0)
    ∷ the_shape_check left (sized 2) (sized 3) (refused wrong_shape 0)
    ∷ the_shape_check left (statics (2 ∷ 3 ∷ [])) (starting (5 ∷ [])) (refused wrong_shape 0)
    ∷ the_shape_check right (statics (2 ∷ 3 ∷ [])) (sized 5) (refused wrong_count 0)
    ∷ the_shape_check right (statics (2 ∷ 3 ∷ [])) (ending (static 4 ∷ [])) (refused wrong_count 0)
    ∷ the_shape_check right (sized 2) (sized 3) (refused wrong_shape 0)
    ∷ the_shape_check right (statics (2 ∷ 3 ∷ [])) (shape (static 2 ∷ []) (some (static 4 ∷ []))) (refused wrong_shape 0)
    -- In boxes the number is the content's, and comes before the outer shape's.
    ∷ the_validation left (boxed (of num (statics (2 ∷ 3 ∷ [])))) (boxed (of num (starting (5 ∷ [])))) (refused wrong_shape 0)
    ∷ the_validation unsided (ty (sized 2) (box_of (of num (sized 2)))) (ty (sized 3) (box_of (of num (statics (2 ∷ 3 ∷ []))))) (refused wrong_count 0)
    ∷ []

-- fields made, unlike boxes, limits
unfoldable pub field_examples : List Example
field_examples =
    -- A name of length 0 is a name; a closed shape of one static size says how many fields.
    the_validation unsided (ty any_shape (box_def (some []) no_fields)) (of any (sized 3)) (accepted (ty (starting (3 ∷ [])) (box_def (some []) (fields (any_ty ∷ any_ty ∷ any_ty ∷ [])))))
    ∷ the_validation unsided (def_n any_shape (of num scalar ∷ [])) (of any (sized 2)) (accepted (def_n (starting (2 ∷ [])) (of num scalar ∷ any_ty ∷ [])))
    ∷ the_validation unsided (def_n any_shape (of num scalar ∷ [])) (ty scalar box_any) (accepted (def_n (ending []) (of num scalar ∷ [])))
    -- An open shape and one of two sizes do not: [3..] and [3 4] of box Any get the spec's one field.
    ∷ the_validation unsided (def_n any_shape (of num scalar ∷ [])) (ty (starting (3 ∷ [])) box_any) (accepted (def_n (starting (3 ∷ [])) (of num scalar ∷ [])))
    ∷ the_validation unsided (def_n any_shape (of num scalar ∷ [])) (ty (statics (3 ∷ 4 ∷ [])) box_any) (accepted (def_n (starting (3 ∷ 4 ∷ [])) (of num scalar ∷ [])))
    ∷ the_validation unsided (def_n any_shape (of num scalar ∷ [])) (ty (sized 2) (box_of (of int scalar))) (accepted (def_n (starting (2 ∷ [])) (of int scalar ∷ of int scalar ∷ [])))
    ∷ the_validation unsided (def_n scalar []) (def (of int scalar ∷ [])) (accepted (def_n scalar (of int scalar ∷ [])))
    -- Counts of fields are not compared; unlike boxes pass, also an unnamed Def on All.
    ∷ the_validation unsided (def (of num scalar ∷ [])) (def (of int scalar ∷ of char scalar ∷ [])) (accepted (def (of int scalar ∷ of char scalar ∷ [])))
    ∷ the_validation unsided (def (of num scalar ∷ of char scalar ∷ [])) (def (of int scalar ∷ [])) (accepted (def (of int scalar ∷ [])))
    ∷ the_validation unsided (boxed (of num scalar)) (def (of int scalar ∷ of char scalar ∷ [])) (refused wrong_scalar 0)
    ∷ the_validation unsided (def (of num scalar ∷ [])) (boxed (of char scalar)) (accepted (boxed (of char scalar)))
    ∷ the_validation unsided (def (of num scalar ∷ [])) (ty scalar box_any) (accepted (def (of num scalar ∷ [])))
    -- A ninth depth: seven boxes around a Def named n without fields, on seven around [3], [0] and [?] of Any.
    ∷ the_validation unsided (boxed_times 7 (def_n any_shape [])) (boxed_times 7 (of any (sized 3))) (refused too_many 0)
    ∷ the_validation unsided (boxed_times 7 (def_n any_shape [])) (boxed_times 7 (of any (sized 0))) (accepted (boxed_times 7 (def_n (starting (0 ∷ [])) [])))
    ∷ the_validation unsided (boxed_times 7 (def_n any_shape [])) (boxed_times 7 (of any (closed (unknown ∷ [])))) (accepted (boxed_times 7 (def_n (shape (unknown ∷ []) (some [])) [])))
    -- A 33rd type: 31 fields are too many inside a box, and so are 2^53 anywhere.
    ∷ the_validation unsided (boxed (def_n any_shape [])) (boxed (of any (sized 31))) (refused too_many 0)
    ∷ the_validation unsided (def_n any_shape []) (of any (sized 9007199254740992)) (refused too_many 0)
    -- 5 comes at the change that takes the type over: before a later field's 9, and also where a later change would make room.
    ∷ the_validation unsided (def (def_n any_shape [] ∷ of num scalar ∷ [])) (def (of any (sized 31) ∷ of char scalar ∷ [])) (refused too_many 0)
    ∷ the_validation unsided (def (of num scalar ∷ def_n any_shape [] ∷ [])) (def (of char scalar ∷ of any (sized 31) ∷ [])) (refused wrong_scalar 0)
    ∷ the_validation unsided (def (def_n any_shape [] ∷ def_n (sized 0) [] ∷ [])) (def (of any (sized 29) ∷ ty (sized 0) (box_of (of num scalar)) ∷ [])) (refused too_many 0)
    -- The same two the other way round: what was replaced no longer counts.
    ∷ the_validation unsided (def (def_n (sized 0) [] ∷ def_n any_shape [] ∷ [])) (def (ty (sized 0) (box_of (of num scalar)) ∷ of any (sized 29) ∷ []))
    (accepted (def (def_n (sized 0) [] ∷ ty (starting (29 ∷ [])) (box_def (some (110 ∷ [])) (copies 29 any_ty)) ∷ [])))
    ∷ []

pub examples_shown : All Shown examples × All Shown mismatch_examples × All Shown field_examples
unfolding examples mismatch_examples field_examples inside below cmp_dim larger compatible is_any rank merge_dims merge_closing merge_from code code_of superset_codes superset_of wholly_any
    copies agree equal_dim sizes_agree count_test names_all mismatch shape_mismatch sided_shape check_shape keeps_limits fields_for as_box copied named as_fields
    each_field on_all on_def check_scalar validate
examples_shown = (
  (refl, (refl, (refl, (refl, (refl, (refl, (refl, (refl, (refl, (refl, (refl, (refl, (refl, (refl, (refl, (refl, (refl, tt))))))))))))))))),
  (refl, (refl, (refl, (refl, (refl, (refl, (refl, (refl, (refl, (refl, (refl, (refl, (refl, (refl, (refl, (refl, (refl, (refl, (refl, (refl, (refl, (refl, (refl, (refl, tt)))))))))))))))))))))))),
  (refl, (refl, (refl, (refl, (refl, (refl, (refl, (refl, (refl, (refl, (refl, (refl, (refl, (refl, (refl, (refl, (refl, (refl, (refl, (refl, (refl, tt))))))))))))))))))))),
)
