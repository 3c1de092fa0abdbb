-- Demand 1, "gets its result or one of" sixteen "numbered refusals", of every public call: the 50 of the library that answer so, what
-- each answers, as in its contract (`velgrodis/src`), and a table of the numbers that it can be refused with. (`vg_version` answers the
-- library's own number and nothing else.)
use Rattle.std.specs.Prelude.{ℕ, List, [], ◌∷◌, ◌≡◌, Float}
use Rattle.model.specs.Refusals.{ended, unmarked, out_of_range, oversized, too_many, trailing, too_short, unpervaded, wrong_scalar, wrong_shape, not_a_size, wrong_count, Among}
use Rattle.format.specs.Records.{write_scalar, write_ty}
use Rattle.format.specs.Outcome.{accepted, mapped, bound, lone, type_length, deliver, shape_record, scalar_record}
use Rattle.rules.specs.Order.{compare}
use Rattle.rules.specs.Scalars.{superset_of, compatible_scalars, compatible_with_boxes, union, unrefine}
use Rattle.rules.specs.KindTable.{kind_table}
use Rattle.rules.specs.Types.{into_row, into_first_row, into_last_row, into_nth_row, unboxed, as_boxes, field_place}
use Rattle.validation.specs.Validate.{validate, check_scalar_only, check_shape_only}
use Rattle.validation.specs.Separate.{separately}
use Rattle.places.specs.Places.{step_of}
use Rattle.machine.specs.Call.{sheet_call}
use Rattle.demand.specs.Numbers.{of_records, of_lone, of_sheet_call}
use Rattle.record.specs.Answers.{nothing}
use Rattle.known.specs.Whole.{of_types, of_scalars, of_scalar}
use Rattle.shape_calls.specs.Calls.{cmp_call, cmp_defined_call, max_call, join_sizes_call, compatible_call, row_compatible_call, merge_call, join_shapes_call, row_call, compatible_shapes_call, is_any_call, is_scalar_call, row_count_call, rank_call}
use Rattle.ty.specs.Calls.{deliver_boxes}
use Rattle.join.specs.Calls.{join_call as join_types_call}
use Rattle.val.specs.Values.{value_ty, value_spec, value_scalar, nums_scalar, value_row_count, value_rank, value_as_dim, value_as_dims, value_row, value_first_row, value_last_row, deliver_row}
use Rattle.velgrodis.specs.declared.Answer.{Answer}
use Rattle.velgrodis.specs.declared.Validation.{Validation}
use Rattle.velgrodis.specs.Answers.{counted, tested, shapes_tested, sized, sized_or_none, compared, found, located}
use Rattle.velgrodis.specs.Answers.{Handed, handed, written, listed, deliver_sizes, RowHanded, row_handed, rowed, ValidationHanded, validation_handed, validation_of, Returned, returned, checked}
use Rattle.velgrodis.specs.Codes.{pervade_flagged, sided, handed_in}

-- ---- the calls

-- A call by its export's name, with what is handed in and lent, in the order of its parameters. Bytes of types and of buffers are
-- lists of numbers.
pub data Call : Type 0 where
  -- two sizes
  vg_dim_cmp vg_dim_cmp_defined vg_dim_max vg_dim_join vg_dim_compatible vg_dim_row_compatible : ℕ → ℕ → Call
  -- the shapes of two types, with a result and without; of one; with a flag
  vg_merge vg_join_shapes : List ℕ → List ℕ → List ℕ → Call
  vg_compatible_shapes : List ℕ → List ℕ → Call
  vg_row_shape : List ℕ → List ℕ → Call
  vg_shape_is-any vg_shape_is-scalar vg_row_count vg_rank : List ℕ → Call
  vg_pervade : ℕ → List ℕ → List ℕ → List ℕ → Call
  -- the scalars of types, and their order
  vg_union : List ℕ → List ℕ → List ℕ → Call
  vg_unrefine : List ℕ → List ℕ → Call
  vg_superset vg_compatible_scalars vg_compatible_with_boxes vg_compare : List ℕ → List ℕ → Call
  -- the table of kinds
  vg_kinds : List ℕ → Call
  -- types
  vg_read vg_type_length : List ℕ → Call
  vg_shape_record vg_scalar_record vg_row vg_first-row vg_last-row vg_unboxed vg_as_boxes : List ℕ → List ℕ → Call
  vg_nth-row : List ℕ → ℕ → List ℕ → Call
  vg_field : List ℕ → ℕ → Call
  vg_join : List ℕ → List ℕ → List ℕ → Call
  -- a spec on a type, with a side and without
  vg_validate vg_check_shape : ℕ → List ℕ → List ℕ → List ℕ → Call
  vg_check_scalar : List ℕ → List ℕ → List ℕ → Call
  -- values: the kind, the number, the list, the type's bytes; then what is lent for the answer
  vg_val_ty vg_val_spec vg_val_scalar vg_as-dims : ℕ → Float → List Float → List ℕ → List ℕ → Call
  vg_val_row_count vg_val_rank vg_as_dim : ℕ → Float → List Float → List ℕ → Call
  vg_val_row vg_val_first-row vg_val_last-row : ℕ → Float → List Float → List ℕ → Float → List ℕ → Call
  vg_nums_scalar : List Float → List ℕ → Call
  -- a sheet with a result and a scratch; a sheet with a place
  vg_check_sheet : List ℕ → List ℕ → List ℕ → Call
  vg_find_step : List ℕ → ℕ → Call

-- ---- what each answers

-- the answer beside what is lent
abbrev pub beside : Handed → Answer
beside (handed r buffer) = r

abbrev pub beside_row : RowHanded → Answer
beside_row (row_handed r x buffer) = r

-- a validation, which has one number more (Readings)
abbrev pub beside_validation : ValidationHanded → Validation
beside_validation (validation_handed v buffer) = v

abbrev pub beside_both : Returned → Answer
beside_both (returned r result scratch) = r

unfoldable pub reply_to : Call → Answer
reply_to (vg_dim_cmp a b) = compared (cmp_call a b)
reply_to (vg_dim_cmp_defined a b) = compared (cmp_defined_call a b)
reply_to (vg_dim_max a b) = sized (max_call a b)
reply_to (vg_dim_join a b) = sized (join_sizes_call a b)
reply_to (vg_dim_compatible a b) = tested (compatible_call a b)
reply_to (vg_dim_row_compatible a b) = tested (row_compatible_call a b)
reply_to (vg_merge a b result) = beside (written (deliver (merge_call a b) result))
reply_to (vg_join_shapes a b result) = beside (written (deliver (join_shapes_call a b) result))
reply_to (vg_compatible_shapes a b) = shapes_tested (compatible_shapes_call a b)
reply_to (vg_row_shape t result) = beside (written (deliver (row_call t) result))
reply_to (vg_shape_is-any t) = tested (is_any_call t)
reply_to (vg_shape_is-scalar t) = tested (is_scalar_call t)
reply_to (vg_row_count t) = sized (row_count_call t)
reply_to (vg_rank t) = counted (rank_call t)
reply_to (vg_pervade flag a b result) = beside (written (deliver (pervade_flagged flag a b) result))
reply_to (vg_union a b result) = beside (written (deliver (of_scalars (λ k l. write_scalar (union k l)) a b) result))
reply_to (vg_unrefine t result) = beside (written (deliver (of_scalar (λ k. write_scalar (unrefine k)) t) result))
reply_to (vg_superset a b) = tested (of_scalars superset_of a b)
reply_to (vg_compatible_scalars a b) = tested (of_scalars compatible_scalars a b)
reply_to (vg_compatible_with_boxes a b) = tested (of_scalars compatible_with_boxes a b)
reply_to (vg_compare a b) = compared (of_types compare a b)
reply_to (vg_kinds result) = beside (written (deliver (accepted kind_table) result))
reply_to (vg_read t) = counted (mapped nothing (lone t))
reply_to (vg_type_length s) = counted (type_length s)
reply_to (vg_shape_record t result) = beside (written (deliver (mapped shape_record (lone t)) result))
reply_to (vg_scalar_record t result) = beside (written (deliver (mapped scalar_record (lone t)) result))
reply_to (vg_row t result) = beside (written (deliver (mapped (λ u. write_ty (into_row u)) (lone t)) result))
reply_to (vg_first-row t result) = beside (written (deliver (mapped (λ u. write_ty (into_first_row u)) (lone t)) result))
reply_to (vg_last-row t result) = beside (written (deliver (mapped (λ u. write_ty (into_last_row u)) (lone t)) result))
reply_to (vg_nth-row t n result) = beside (written (deliver (mapped (λ u. write_ty (into_nth_row n u)) (lone t)) result))
reply_to (vg_unboxed t result) = beside (written (deliver (mapped (λ u. write_ty (unboxed u)) (lone t)) result))
reply_to (vg_as_boxes t result) = beside (listed (deliver_boxes (bound as_boxes (lone t)) result))
reply_to (vg_field t n) = found (mapped (field_place n) (lone t))
reply_to (vg_join a b result) = beside (written (deliver (join_types_call a b) result))
reply_to (vg_validate side spec t result) = (beside_validation (validation_of (sided validate side spec t result))).answer
reply_to (vg_check_shape side spec t result) = (beside_validation (validation_of (sided check_shape_only side spec t result))).answer
reply_to (vg_check_scalar spec t result) = (beside_validation (validation_of (separately check_scalar_only spec t result))).answer
reply_to (vg_val_ty kind x list t result) = beside (written (deliver (mapped write_ty (bound value_ty (handed_in kind x list t))) result))
reply_to (vg_val_spec kind x list t result) = beside (written (deliver (mapped write_ty (bound value_spec (handed_in kind x list t))) result))
reply_to (vg_val_scalar kind x list t result) = beside (written (deliver (mapped write_scalar (mapped value_scalar (handed_in kind x list t))) result))
reply_to (vg_nums_scalar list result) = beside (written (deliver (accepted (write_scalar (nums_scalar list))) result))
reply_to (vg_val_row_count kind x list t) = sized (bound value_row_count (handed_in kind x list t))
reply_to (vg_val_rank kind x list t) = counted (mapped value_rank (handed_in kind x list t))
reply_to (vg_val_row kind x list t before result) = beside_row (rowed before (deliver_row (mapped value_row (handed_in kind x list t)) result))
reply_to (vg_val_first-row kind x list t before result) = beside_row (rowed before (deliver_row (mapped value_first_row (handed_in kind x list t)) result))
reply_to (vg_val_last-row kind x list t before result) = beside_row (rowed before (deliver_row (mapped value_last_row (handed_in kind x list t)) result))
reply_to (vg_as_dim kind x list t) = sized_or_none (bound value_as_dim (handed_in kind x list t))
reply_to (vg_as-dims kind x list t sizes) = beside (listed (deliver_sizes (bound value_as_dims (handed_in kind x list t)) sizes))
reply_to (vg_check_sheet sheet result scratch) = beside_both (checked (sheet_call sheet result scratch))
reply_to (vg_find_step sheet p) = located (step_of sheet p)

-- ---- the numbers

-- Two sizes: one above 2^53.
abbrev pub of_sizes : List ℕ
of_sizes = oversized ∷ []

-- A type that is read, with a result, which can be too short. (Without one: `of_lone`.)
abbrev pub of_written : List ℕ
of_written = ended ∷ unmarked ∷ out_of_range ∷ oversized ∷ too_many ∷ trailing ∷ too_short ∷ []

-- A pervading; a spec's shape on a type's, and a whole spec or its scalar, in which boxes hold shapes.
abbrev pub of_pervaded : List ℕ
of_pervaded = ended ∷ unmarked ∷ out_of_range ∷ oversized ∷ too_many ∷ trailing ∷ too_short ∷ unpervaded ∷ []

abbrev pub of_shape_checked : List ℕ
of_shape_checked = ended ∷ unmarked ∷ out_of_range ∷ oversized ∷ too_many ∷ trailing ∷ too_short ∷ wrong_shape ∷ wrong_count ∷ []

abbrev pub of_validated : List ℕ
of_validated = ended ∷ unmarked ∷ out_of_range ∷ oversized ∷ too_many ∷ trailing ∷ too_short ∷ wrong_scalar ∷ wrong_shape ∷ wrong_count ∷ []

-- A number as a size, and numbers as sizes, for which there is a result.
abbrev pub of_size : List ℕ
of_size = ended ∷ unmarked ∷ out_of_range ∷ oversized ∷ too_many ∷ trailing ∷ not_a_size ∷ []

abbrev pub of_sizes_written : List ℕ
of_sizes_written = ended ∷ unmarked ∷ out_of_range ∷ oversized ∷ too_many ∷ trailing ∷ too_short ∷ not_a_size ∷ []

-- A list of numbers alone, whatever they are, and the table of kinds: only its result.
abbrev pub of_result : List ℕ
of_result = too_short ∷ []

-- A place of a sheet: it is never refused.
abbrev pub never_refused : List ℕ
never_refused = []

-- The table: what each call can be refused with.
abbrev pub numbers_of : Call → List ℕ
numbers_of (vg_dim_cmp a b) = of_sizes
numbers_of (vg_dim_cmp_defined a b) = of_sizes
numbers_of (vg_dim_max a b) = of_sizes
numbers_of (vg_dim_join a b) = of_sizes
numbers_of (vg_dim_compatible a b) = of_sizes
numbers_of (vg_dim_row_compatible a b) = of_sizes
numbers_of (vg_merge a b result) = of_written
numbers_of (vg_join_shapes a b result) = of_written
numbers_of (vg_compatible_shapes a b) = of_lone
numbers_of (vg_row_shape t result) = of_written
numbers_of (vg_shape_is-any t) = of_lone
numbers_of (vg_shape_is-scalar t) = of_lone
numbers_of (vg_row_count t) = of_lone
numbers_of (vg_rank t) = of_lone
numbers_of (vg_pervade flag a b result) = of_pervaded
numbers_of (vg_union a b result) = of_written
numbers_of (vg_unrefine t result) = of_written
numbers_of (vg_superset a b) = of_lone
numbers_of (vg_compatible_scalars a b) = of_lone
numbers_of (vg_compatible_with_boxes a b) = of_lone
numbers_of (vg_compare a b) = of_lone
numbers_of (vg_kinds result) = of_result
numbers_of (vg_read t) = of_lone
numbers_of (vg_type_length s) = of_records
numbers_of (vg_shape_record t result) = of_written
numbers_of (vg_scalar_record t result) = of_written
numbers_of (vg_row t result) = of_written
numbers_of (vg_first-row t result) = of_written
numbers_of (vg_last-row t result) = of_written
numbers_of (vg_nth-row t n result) = of_written
numbers_of (vg_unboxed t result) = of_written
numbers_of (vg_as_boxes t result) = of_written
numbers_of (vg_field t n) = of_lone
numbers_of (vg_join a b result) = of_written
numbers_of (vg_validate side spec t result) = of_validated
numbers_of (vg_check_shape side spec t result) = of_shape_checked
numbers_of (vg_check_scalar spec t result) = of_validated
numbers_of (vg_val_ty kind x list t result) = of_written
numbers_of (vg_val_spec kind x list t result) = of_sizes_written
numbers_of (vg_val_scalar kind x list t result) = of_written
numbers_of (vg_nums_scalar list result) = of_result
numbers_of (vg_val_row_count kind x list t) = of_lone
numbers_of (vg_val_rank kind x list t) = of_lone
numbers_of (vg_val_row kind x list t before result) = of_written
numbers_of (vg_val_first-row kind x list t before result) = of_written
numbers_of (vg_val_last-row kind x list t before result) = of_written
numbers_of (vg_as_dim kind x list t) = of_size
numbers_of (vg_as-dims kind x list t sizes) = of_sizes_written
numbers_of (vg_check_sheet sheet result scratch) = of_sheet_call
numbers_of (vg_find_step sheet p) = never_refused

-- An answer of kind 0, which is a refusal, has one of these numbers.
abbrev pub RefusesOnly : List ℕ → Answer → Type 0
RefusesOnly ns r = r.kind ≡ 0 → Among ns r.number
