-- Refusals of public calls by computation: the reading of a type, and what the kinds of calls add to it. Not every number of every call
-- is here; those of a sheet but 7 are worked in `machine` (Examples, NameExamples).
use Rattle.std.specs.Prelude.{ℕ, zero, suc, ◌^◌, List, [], ◌∷◌, ◌++◌, ◌≡◌, refl}
use Rattle.std.specs.Float.{nan}
use Rattle.model.specs.Refusals.{ended, unmarked, out_of_range, oversized, too_many, trailing, too_short, unpervaded, wrong_scalar, wrong_shape, not_a_size, wrong_count}
use Rattle.model.specs.Types.{inside, below}
use Rattle.model.specs.Within.{All}
use Rattle.format.specs.Reader.{byte, judged, number, bytes_of}
use Rattle.format.specs.Records.{code, kind_of, write_shape, write_scalar, write_ty, read_mark, read_dim, read_dims, shape_from, box_from, scalar_from, read_ty}
use Rattle.format.specs.Outcome.{lone, type_length, deliver}
use Rattle.rules.specs.Sizes.{cmp_dim, compatible}
use Rattle.rules.specs.Shapes.{is_any, row_count, merge_dims, merge_closing, merge_from}
use Rattle.rules.specs.Order.{code_of, kind_place}
use Rattle.rules.specs.Scalars.{superset_codes, superset_of, compatible_codes, compatible_scalars, union}
use Rattle.rules.specs.KindTable.{squares, kind_table}
use Rattle.rules.specs.Pervade.{together, walk, pervade_closing, pervade}
use Rattle.rules.specs.Types.{wholly_any, copies_for, as_boxes}
use Rattle.validation.specs.CheckShape.{agree, sizes_agree, count_test, names_all, mismatch, shape_mismatch, sided_shape, check_shape}
use Rattle.validation.specs.CheckScalar.{check_scalar}
use Rattle.validation.specs.Validate.{validate, check_shape_only}
use Rattle.validation.specs.Separate.{Input, spec, checked_type, neither}
use Rattle.machine.specs.Call.{sheet_call}
use Rattle.number.specs.Sizes.{sizes_from}
use Rattle.number.proofs.Examples.{half, one, eight_ones}
use Rattle.ty.specs.Calls.{deliver_boxes}
use Rattle.val.specs.Values.{value_spec, nums_scalar, value_as_dim, value_as_dims}
use Rattle.velgrodis.specs.Answers.{no, value, while_reading, validation_of, deliver_sizes}
use Rattle.velgrodis.specs.Codes.{sided}
use Rattle.numbered.specs.Calls.{Call, vg_dim_cmp, vg_read, vg_type_length, vg_shape_record, vg_as_boxes, vg_pervade, vg_check_shape, vg_validate, vg_val_spec, vg_as_dim, vg_as-dims, vg_nums_scalar}
use Rattle.numbered.specs.Calls.{vg_kinds, vg_check_sheet, beside_validation, reply_to}

-- a call, with the number and the place that it is refused with
pub data Example : Type 0 where
  the_refusal : Call → ℕ → ℕ → Example
  -- the length of the type that begins some bytes
  the_length : List ℕ → ℕ → Example
  -- a validation for a side, with the input that was being read besides, and one that is accepted
  the_reading : ℕ → List ℕ → List ℕ → ℕ → ℕ → Input → Example
  the_accepted : ℕ → List ℕ → List ℕ → List ℕ → ℕ → Example

abbrev pub Shown : Example → Type 0
Shown (the_refusal c k p) = reply_to c ≡ no k p
Shown (the_length s n) = reply_to (vg_type_length s) ≡ value n 0
Shown (the_reading side s t k p i) = beside_validation (validation_of (sided validate side s t [])) ≡ while_reading i (no k p)
Shown (the_accepted side s t result n) = beside_validation (validation_of (sided validate side s t result)) ≡ while_reading neither (value n 0)

-- a kind under [], and under [n]
abbrev atom : ℕ → List ℕ
atom kind = 0x53 ∷ 0x48 ∷ 0 ∷ 255 ∷ 0x53 ∷ 0x43 ∷ kind ∷ []

abbrev vector : ℕ → ℕ → List ℕ
vector n kind = 0x53 ∷ 0x48 ∷ 1 ∷ 255 ∷ n ∷ 0 ∷ 0 ∷ 0 ∷ 0 ∷ 0 ∷ 0 ∷ 0 ∷ 0x53 ∷ 0x43 ∷ kind ∷ []

-- n times [] of an All box, and nothing in the last
abbrev boxes : ℕ → List ℕ
boxes zero = []
boxes (suc n) = 0x53 ∷ 0x48 ∷ 0 ∷ 255 ∷ 0x53 ∷ 0x43 ∷ 8 ∷ 0x42 ∷ 0x58 ∷ 1 ∷ boxes n

unfoldable pub examples : List Example
examples =
    -- 2^60 as a size, the second of two
    the_refusal (vg_dim_cmp 3 (2 ^ 60)) oversized 1
    -- a type's reading: 1 to 6
    ∷ the_refusal (vg_read (0x53 ∷ 0x48 ∷ 1 ∷ [])) ended 0
    ∷ the_refusal (vg_read (0x58 ∷ 0x58 ∷ [])) unmarked 0
    ∷ the_refusal (vg_read (0x53 ∷ 0x48 ∷ 9 ∷ [])) out_of_range 0
    ∷ the_refusal (vg_read (0x53 ∷ 0x48 ∷ 1 ∷ 255 ∷ 0 ∷ 0 ∷ 0 ∷ 0 ∷ 0 ∷ 0 ∷ 0 ∷ 0x10 ∷ [])) oversized 0
    ∷ the_refusal (vg_read (boxes 8)) too_many 80
    ∷ the_refusal (vg_read (atom 3 ++ (0 ∷ []))) trailing 7
    -- the type that begins some bytes: cut off, and followed by a byte of another
    ∷ the_refusal (vg_type_length (0x53 ∷ 0x48 ∷ 0 ∷ 255 ∷ 0x53 ∷ [])) ended 4
    ∷ the_length (atom 3 ++ (0 ∷ [])) 7
    -- a result too short; a 32nd copy
    ∷ the_refusal (vg_shape_record (atom 3) (0 ∷ 0 ∷ 0 ∷ [])) too_short 0
    ∷ the_refusal (vg_as_boxes (0x53 ∷ 0x48 ∷ 1 ∷ 255 ∷ 32 ∷ 0 ∷ 0 ∷ 0 ∷ 0 ∷ 0 ∷ 0 ∷ 0 ∷ 0x53 ∷ 0x43 ∷ 8 ∷ 0x42 ∷ 0x58 ∷ 0 ∷ []) []) too_many 0
    -- a flag and a side that are none, before anything is read; [3] with [4]; [2] on [3]; Num on Char
    ∷ the_refusal (vg_pervade 4 [] [] []) out_of_range 0
    ∷ the_refusal (vg_pervade 0 (vector 3 3) (vector 4 3) []) unpervaded 0
    ∷ the_refusal (vg_check_shape 3 [] [] []) out_of_range 0
    ∷ the_refusal (vg_check_shape 0 (vector 2 3) (vector 3 3) []) wrong_shape 0
    ∷ the_refusal (vg_validate 0 (atom 3) (atom 6) []) wrong_scalar 0
    ∷ the_refusal (vg_validate 0 (vector 2 3) (vector 3 3) []) wrong_shape 0
    -- a kind of value that is none; a fraction as a size; more than eight numbers; a NaN among them; no room for their sizes
    ∷ the_refusal (vg_as_dim 3 half [] []) out_of_range 0
    ∷ the_refusal (vg_as_dim 0 half [] []) not_a_size 0
    ∷ the_refusal (vg_as-dims 1 half (one ∷ eight_ones) [] []) out_of_range 0
    ∷ the_refusal (vg_as-dims 1 half (one ∷ nan ∷ []) [] []) not_a_size 1
    ∷ the_refusal (vg_as-dims 1 half (one ∷ []) [] []) too_short 0
    ∷ the_refusal (vg_val_spec 0 half [] [] []) not_a_size 0
    ∷ the_refusal (vg_nums_scalar [] []) too_short 0
    -- the table of kinds in a result of nine bytes
    ∷ the_refusal (vg_kinds (0 ∷ 0 ∷ 0 ∷ 0 ∷ 0 ∷ 0 ∷ 0 ∷ 0 ∷ 0 ∷ [])) too_short 0
    -- a sheet without scratch
    ∷ the_refusal (vg_check_sheet [] [] []) too_short 0
    ∷ []

unfoldable pub reading_examples : List Example
reading_examples =
    -- which input was being read: the spec; the type; both are damaged, and the spec is read first; a side that is none, before either;
    -- both were read: a mismatch, and a result too short
    the_reading 0 (0x53 ∷ 0x48 ∷ 1 ∷ []) (atom 3) ended 0 spec
    ∷ the_reading 1 (atom 3) (atom 10) out_of_range 4 checked_type
    ∷ the_reading 2 (atom 3 ++ (0 ∷ [])) (0x58 ∷ 0x58 ∷ []) trailing 7 spec
    ∷ the_reading 3 (0x58 ∷ 0x58 ∷ []) (atom 3) out_of_range 0 neither
    ∷ the_reading 0 (atom 3) (atom 6) wrong_scalar 0 neither
    ∷ the_reading 0 (vector 2 3) (vector 3 3) wrong_shape 0 neither
    ∷ the_reading 0 (vector 2 3) (atom 3) wrong_count 0 neither
    ∷ the_reading 0 (atom 3) (atom 3) too_short 0 neither
    ∷ the_accepted 0 (atom 3) (atom 3) (0 ∷ 0 ∷ 0 ∷ 0 ∷ 0 ∷ 0 ∷ 0 ∷ []) 7
    ∷ []

pub examples_shown : All Shown examples × All Shown reading_examples
unfolding examples reading_examples reply_to kind_table squares compatible_codes compatible_scalars kind_place union lone type_length deliver read_ty shape_from scalar_from box_from read_mark read_dims read_dim judged byte number
    bytes_of code kind_of write_shape write_scalar cmp_dim compatible is_any row_count code_of superset_codes superset_of together walk pervade_closing pervade wholly_any copies_for as_boxes agree
    sizes_agree count_test names_all mismatch shape_mismatch sided_shape merge_dims merge_closing merge_from write_ty check_shape check_scalar validate check_shape_only sheet_call sizes_from deliver_boxes value_spec nums_scalar value_as_dim
    value_as_dims deliver_sizes inside below
examples_shown = (
  (refl, (refl, (refl, (refl, (refl, (refl, (refl, (refl, (refl, (refl, (refl, (refl, (refl, (refl, (refl, (refl, (refl, (refl, (refl, (refl, (refl, (refl, (refl, (refl, (refl, (refl, tt)))))))))))))))))))))))))),
  (refl, (refl, (refl, (refl, (refl, (refl, (refl, (refl, (refl, tt))))))))),
)
