-- Demand 1, of every public call: whatever is handed in and lent, an answer that is a refusal has one of the numbers that the table
-- says of the call, and these are of the sixteen.
use Rattle.std.specs.Prelude.{ℕ, zero, suc, Bool, List, ◌≡◌, refl, leb}
use Rattle.std.proofs.Common.{arith, ⊎_elim}
use Rattle.std.proofs.Math.Option.{Option, none, some}
use Rattle.model.specs.Limits.{max_fields}
use Rattle.model.specs.Refusals.{too_short, wrong_shape, wrong_count, refusals, Among}
use Rattle.model.specs.Types.{Dim, static, unknown, Shape, plain, box_any, box_all, box_def, Ty, ty, shape_of, scalar_of}
use Rattle.model.specs.Within.{All}
use Rattle.format.specs.Reader.{Read, got, stopped}
use Rattle.format.specs.Records.{write_shape, write_scalar, write_ty, read_type}
use Rattle.format.specs.Outcome.{Outcome, accepted, refused, mapped, bound, both, refusal_of, lone, place_after, type_length, shape_record, scalar_record}
use Rattle.rules.specs.Sizes.{Order, less, same, more, cmp_dim, cmp_defined, larger, join_dim, compatible, row_compatible}
use Rattle.rules.specs.Shapes.{is_scalar, is_any, row_count, rank, row_shape, Compatibility, says_yes, says_no, compatible_with, merge_from, join_shapes}
use Rattle.rules.specs.Order.{compare}
use Rattle.rules.specs.Scalars.{superset_of, compatible_scalars, compatible_with_boxes, union, unrefine}
use Rattle.rules.specs.KindTable.{kind_table}
use Rattle.rules.specs.Pervade.{pervade}
use Rattle.rules.specs.Types.{any_ty, join_types, into_row, into_first_row, into_last_row, into_nth_row, unboxed, copies_for, as_boxes, Stretch, stretch, field_place}
use Rattle.validation.specs.CheckShape.{Side, unsided, left, right, check_shape}
use Rattle.validation.proofs.CheckShapeLaws.{check_shape-refused}
use Rattle.validation.specs.Validate.{validate, check_scalar_only, check_shape_only}
use Rattle.validation.specs.Separate.{being_read, separately}
use Rattle.validation.proofs.Claims.{of_validation, Listed}
use Rattle.validation.proofs.RefusalsLaws.{validate-listed, check_scalar_only-listed}
use Rattle.machine.specs.Call.{sheet_call}
use Rattle.places.specs.Places.{ToldStep, told_step, step_of}
use Rattle.machine.specs.Steps.{max_flag, fills_top, fills_below}
use Rattle.record.specs.Answers.{nothing}
use Rattle.known.specs.Whole.{of_types, of_scalars, of_scalar}
use Rattle.shape_calls.specs.Calls.{is_size, size_at, on_sizes, cmp_call, cmp_defined_call, max_call, join_sizes_call, compatible_call, row_compatible_call, on_shape}
use Rattle.shape_calls.specs.Calls.{on_shapes, merge_call, join_shapes_call, row_call, pervaded, pervade_call, compatible_shapes_call, is_any_call, is_scalar_call, row_count_call, rank_call}
use Rattle.join.specs.Calls.{join_call as join_types_call}
use Rattle.val.specs.Values.{value_ty, value_spec, value_scalar, nums_scalar, value_row_count, value_rank, value_as_dim, value_as_dims, value_row, value_first_row, value_last_row}
use Rattle.velgrodis.specs.declared.Answer.{Answer}
use Rattle.velgrodis.specs.Answers.{or_nothing, numbered, counted, told, tested, yes_or_no, shapes_tested, dimmed, sized, sized_or_none, ordered, compared, step_told, stretched, found, validation_of}
use Rattle.velgrodis.specs.Codes.{pervade_flagged, sided, handed_in}
use Rattle.demand.specs.Numbers.{of_records, of_lone, of_sheet_call, RefusedWith}
use Rattle.demand.proofs.Numbered.{among-more, accepted_with, refused_with, stops_type, lone-numbered, mapped-numbered, call-numbered}
use Rattle.numbered.specs.Calls.{Call, beside_validation, reply_to, of_sizes, of_written, of_pervaded, of_shape_checked, of_validated, of_size, of_sizes_written, of_result, numbers_of, RefusesOnly}
use Rattle.numbered.specs.Calls.{vg_dim_cmp, vg_dim_cmp_defined, vg_dim_max, vg_dim_join, vg_dim_compatible, vg_dim_row_compatible, vg_merge, vg_join_shapes, vg_compatible_shapes, vg_row_shape, vg_shape_is-any}
use Rattle.numbered.specs.Calls.{vg_shape_is-scalar, vg_row_count, vg_rank, vg_pervade, vg_union, vg_unrefine, vg_superset, vg_compatible_scalars, vg_compatible_with_boxes, vg_compare, vg_kinds, vg_read, vg_type_length, vg_shape_record}
use Rattle.numbered.specs.Calls.{vg_scalar_record, vg_row, vg_first-row, vg_last-row, vg_unboxed, vg_as_boxes, vg_nth-row, vg_field, vg_join, vg_validate, vg_check_shape, vg_check_scalar, vg_val_ty, vg_val_spec}
use Rattle.numbered.specs.Calls.{vg_val_scalar, vg_as-dims, vg_val_row_count, vg_val_rank, vg_as_dim, vg_val_row, vg_val_first-row, vg_val_last-row, vg_nums_scalar, vg_check_sheet, vg_find_step}
use Rattle.numbered.specs.CallLaws.{more-numbered, either-numbered, bound-numbered, both-numbered, NotRefused, answered-only, written-only, separate-only, boxes-only, sizes-only, row-only, sheet-only}
use Rattle.numbered.specs.ValueLaws.{ty_with, row_count_with, spec_with, as_dim_with, as-dims_with, handed_with}

-- ---- answers alone are no refusals

ordered-not-refused : (o : Order) → NotRefused (ordered o)
ordered-not-refused less = λ e. absurd (omega arith)
ordered-not-refused same = λ e. absurd (omega arith)
ordered-not-refused more = λ e. absurd (omega arith)

yes_or_no-not-refused : (c : Compatibility) → NotRefused (yes_or_no c)
yes_or_no-not-refused says_yes = λ e. absurd (omega arith)
yes_or_no-not-refused (says_no none) = λ e. absurd (omega arith)
yes_or_no-not-refused (says_no (some i)) = λ e. absurd (omega arith)

or_nothing-not-refused : {A : Type 0} (f : A → Answer) → ((a : A) → NotRefused (f a)) → (o : Option A) → NotRefused (or_nothing f o)
or_nothing-not-refused f g none = λ e. absurd (omega arith)
or_nothing-not-refused f g (some a) = g a

step-not-refused : (n : ToldStep) → NotRefused (step_told n)
step-not-refused (told_step n c) = λ e. absurd (omega arith)

stretched-not-refused : (s : Stretch) → NotRefused (stretched s)
stretched-not-refused (stretch start length) = λ e. absurd (omega arith)

module _ (ns : List ℕ) where
  counted-only : (o : Outcome ℕ) → RefusedWith ns o → RefusesOnly ns (counted o)
  counted-only o h = answered-only ns numbered (λ n e. absurd (omega arith)) o h

  tested-only : (o : Outcome Bool) → RefusedWith ns o → RefusesOnly ns (tested o)
  tested-only o h = answered-only ns told (λ t e. absurd (omega arith)) o h

  shapes_tested-only : (o : Outcome Compatibility) → RefusedWith ns o → RefusesOnly ns (shapes_tested o)
  shapes_tested-only o h = answered-only ns yes_or_no yes_or_no-not-refused o h

  sized-only : (o : Outcome Dim) → RefusedWith ns o → RefusesOnly ns (sized o)
  sized-only o h = answered-only ns dimmed (λ d e. absurd (omega arith)) o h

  sized_or_none-only : (o : Outcome (Option Dim)) → RefusedWith ns o → RefusesOnly ns (sized_or_none o)
  sized_or_none-only o h = answered-only ns (or_nothing dimmed) (or_nothing-not-refused dimmed (λ d e. absurd (omega arith))) o h

  compared-only : (o : Outcome Order) → RefusedWith ns o → RefusesOnly ns (compared o)
  compared-only o h = answered-only ns ordered ordered-not-refused o h

  found-only : (o : Outcome (Option Stretch)) → RefusedWith ns o → RefusesOnly ns (found o)
  found-only o h = answered-only ns (or_nothing stretched) (or_nothing-not-refused stretched stretched-not-refused) o h

-- ---- the numbers of a type that is read are among those of each call on types

lone-lone : All (Among of_lone) of_lone
lone-lone = (refl, (refl, (refl, (refl, (refl, (refl, tt))))))

lone-written : All (Among of_written) of_lone
lone-written = (refl, (refl, (refl, (refl, (refl, (refl, tt))))))

lone-pervaded : All (Among of_pervaded) of_lone
lone-pervaded = (refl, (refl, (refl, (refl, (refl, (refl, tt))))))

lone-shape-checked : All (Among of_shape_checked) of_lone
lone-shape-checked = (refl, (refl, (refl, (refl, (refl, (refl, tt))))))

lone-validated : All (Among of_validated) of_lone
lone-validated = (refl, (refl, (refl, (refl, (refl, (refl, tt))))))

lone-size : All (Among of_size) of_lone
lone-size = (refl, (refl, (refl, (refl, (refl, (refl, tt))))))

lone-sizes-written : All (Among of_sizes_written) of_lone
lone-sizes-written = (refl, (refl, (refl, (refl, (refl, (refl, tt))))))

-- ---- sizes and types that are read

length_with : (s : List ℕ) → RefusedWith of_records (type_length s)
unfolding type_length
length_with s = go (read_type s 0) refl
  where
    go : (r : Read Ty) → read_type s 0 ≡ r → RefusedWith of_records (place_after r)
    go (got t next) e = accepted_with
    go (stopped k p) e = refused_with ((stops_type s).number_is 0 k p e)

size_with : (p n : ℕ) → RefusedWith of_sizes (size_at p n)
size_with p n = either-numbered (is_size n) accepted_with (refused_with refl)

sizes_with : {C : Type 0} (f : Dim → Dim → C) (a b : ℕ) → RefusedWith of_sizes (on_sizes f a b)
sizes_with f a b = both-numbered (λ d e. accepted (f d e)) (size_at 0 a) (size_at 1 b) (size_with 0 a) (size_with 1 b) (λ d e. accepted_with)

module _ {ns : List ℕ} (all : All (Among ns) of_lone) where
  lone_with : (s : List ℕ) → RefusedWith ns (lone s)
  lone_with s = more-numbered of_lone all (lone-numbered s)

  of_lone_type : {C : Type 0} (f : Ty → C) (s : List ℕ) → RefusedWith ns (mapped f (lone s))
  of_lone_type f s = mapped-numbered f (lone s) (lone_with s)

  from_one : {C : Type 0} (f : Ty → Outcome C) → ((t : Ty) → RefusedWith ns (f t)) → (s : List ℕ) → RefusedWith ns (bound f (lone s))
  from_one f h s = bound-numbered f (lone s) (lone_with s) h

  from-two : {C : Type 0} (f : Ty → Ty → Outcome C) → ((t u : Ty) → RefusedWith ns (f t u)) → (a b : List ℕ) → RefusedWith ns (both f (lone a) (lone b))
  from-two f h a b = both-numbered f (lone a) (lone b) (lone_with a) (lone_with b) h

  -- what a rule that refuses nothing says of one type or two
  of-shape : {C : Type 0} (f : Shape → C) (s : List ℕ) → RefusedWith ns (on_shape (λ x. accepted (f x)) s)
  of-shape f s = from_one (λ t. accepted (f (shape_of t))) (λ t. accepted_with) s

  of-shapes : {C : Type 0} (f : Shape → Shape → C) (a b : List ℕ) → RefusedWith ns (on_shapes (λ x y. accepted (f x y)) a b)
  of-shapes f a b = from-two (λ t u. accepted (f (shape_of t) (shape_of u))) (λ t u. accepted_with) a b

  of_two_types : {C : Type 0} (f : Ty → Ty → C) (a b : List ℕ) → RefusedWith ns (of_types f a b)
  of_two_types f a b = from-two (λ t u. accepted (f t u)) (λ t u. accepted_with) a b

  -- a validation of what was read, and for a side; one that is none is 3
  separate_with : Among ns too_short → (f : Ty → Ty → Outcome Ty) → ((s t : Ty) → RefusedWith ns (f s t)) → (spec t result : List ℕ) → RefusesOnly ns (beside_validation (validation_of (separately f spec t result))).answer
  separate_with short f h spec t result =
      let call : Outcome (List ℕ) = both (λ s u. mapped write_ty (f s u)) (lone spec) (lone t) in
      separate-only ns short call result (being_read (refusal_of (lone spec) (lone t))) (from-two (λ s u. mapped write_ty (f s u)) (λ s u. mapped-numbered write_ty (f s u) (h s u)) spec t)

  sided_with : Among ns too_short → (f : Side → Ty → Ty → Outcome Ty) → ((side : Side) (s t : Ty) → RefusedWith ns (f side s t)) → (n : ℕ) (spec t result : List ℕ)
      → RefusesOnly ns (beside_validation (validation_of (sided f n spec t result))).answer
  sided_with short f h zero spec t result = separate_with short (f unsided) (h unsided) spec t result
  sided_with short f h (suc zero) spec t result = separate_with short (f left) (h left) spec t result
  sided_with short f h (suc (suc zero)) spec t result = separate_with short (f right) (h right) spec t result
  sided_with short f h (suc (suc (suc n))) spec t result = λ e. all.1.1.0

-- ---- the rules

pervaded_with : (o : Option Shape) → RefusedWith of_pervaded (pervaded o)
pervaded_with none = refused_with refl
pervaded_with (some s) = accepted_with

pervade_with : (f g : Bool) (a b : List ℕ) → RefusedWith of_pervaded (pervade_call f g a b)
pervade_with f g a b = from-two lone-pervaded (λ t u. pervaded (pervade f g (shape_of t) (shape_of u))) (λ t u. pervaded_with (pervade f g (shape_of t) (shape_of u))) a b

flagged_with : (flag : ℕ) (a b : List ℕ) → RefusedWith of_pervaded (pervade_flagged flag a b)
flagged_with flag a b = either-numbered (leb flag max_flag) (pervade_with (fills_top flag) (fills_below flag) a b) (refused_with refl)

copies_with : (d : Dim) (t : Ty) → RefusedWith of_written (copies_for d t)
unfolding copies_for
copies_with unknown t = accepted_with
copies_with (static n) t = either-numbered (leb n max_fields) accepted_with (refused_with refl)

boxes_with : (t : Ty) → RefusedWith of_written (as_boxes t)
unfolding as_boxes
boxes_with (ty s (plain k)) = accepted_with
boxes_with (ty s box_any) = copies_with (row_count s) any_ty
boxes_with (ty s (box_all t k)) = copies_with (row_count s) (ty t k)
boxes_with (ty s (box_def n f)) = accepted_with

pub listed_with : {ns : List ℕ} → All (Among ns) of_validation → {A : Type 0} (o : Outcome A) → Listed o → RefusedWith ns o
listed_with m (accepted a) h = accepted_with
listed_with {ns} m (refused n p) h = refused_with (among-more of_validation ns m n h.0)

validation-known : All (Among of_validated) of_validation
validation-known = (refl, (refl, (refl, (refl, tt))))

validate_with : (side : Side) (s t : Ty) → RefusedWith of_validated (validate side s t)
validate_with side s t = listed_with validation-known (validate side s t) (validate-listed side s t)

scalar_with : (s t : Ty) → RefusedWith of_validated (check_scalar_only s t)
scalar_with s t = listed_with validation-known (check_scalar_only s t) (check_scalar_only-listed s t)

pub shape_with : {ns : List ℕ} → Among ns wrong_shape → Among ns wrong_count → (side : Side) (s t : Ty) → RefusedWith ns (check_shape_only side s t)
unfolding check_shape_only
shape_with {ns} size count side (ty s k) (ty t l) = mapped-numbered (λ u. ty u l) (check_shape side s t) (go (check_shape side s t) refl)
  where
    go : (r : Outcome Shape) → check_shape side s t ≡ r → RefusedWith ns r
    go (accepted u) e = accepted_with
    go (refused n p) e = refused_with (⊎_elim (λ q. rw q size) (λ q. rw q count) (check_shape-refused side s t e).0)

shape-checked_with : (side : Side) (s t : Ty) → RefusedWith of_shape_checked (check_shape_only side s t)
shape-checked_with = shape_with refl refl

-- ---- every call

-- "Gets its result or one of" sixteen "numbered refusals": each call, one of its own.
pub call-refuses-only : (c : Call) → RefusesOnly (numbers_of c) (reply_to c)
unfolding reply_to
call-refuses-only (vg_dim_cmp a b) = compared-only of_sizes (cmp_call a b) (sizes_with cmp_dim a b)
call-refuses-only (vg_dim_cmp_defined a b) = compared-only of_sizes (cmp_defined_call a b) (sizes_with cmp_defined a b)
call-refuses-only (vg_dim_max a b) = sized-only of_sizes (max_call a b) (sizes_with larger a b)
call-refuses-only (vg_dim_join a b) = sized-only of_sizes (join_sizes_call a b) (sizes_with join_dim a b)
call-refuses-only (vg_dim_compatible a b) = tested-only of_sizes (compatible_call a b) (sizes_with compatible a b)
call-refuses-only (vg_dim_row_compatible a b) = tested-only of_sizes (row_compatible_call a b) (sizes_with row_compatible a b)
call-refuses-only (vg_merge a b result) = written-only of_written refl (merge_call a b) result (of-shapes lone-written (λ s t. write_shape (merge_from s t)) a b)
call-refuses-only (vg_join_shapes a b result) = written-only of_written refl (join_shapes_call a b) result (of-shapes lone-written (λ s t. write_shape (join_shapes s t)) a b)
call-refuses-only (vg_compatible_shapes a b) = shapes_tested-only of_lone (compatible_shapes_call a b) (of-shapes lone-lone compatible_with a b)
call-refuses-only (vg_row_shape t result) = written-only of_written refl (row_call t) result (of-shape lone-written (λ s. write_shape (row_shape s)) t)
call-refuses-only (vg_shape_is-any t) = tested-only of_lone (is_any_call t) (of-shape lone-lone is_any t)
call-refuses-only (vg_shape_is-scalar t) = tested-only of_lone (is_scalar_call t) (of-shape lone-lone is_scalar t)
call-refuses-only (vg_row_count t) = sized-only of_lone (row_count_call t) (of-shape lone-lone row_count t)
call-refuses-only (vg_rank t) = counted-only of_lone (rank_call t) (of-shape lone-lone rank t)
call-refuses-only (vg_pervade flag a b result) = written-only of_pervaded refl (pervade_flagged flag a b) result (flagged_with flag a b)
call-refuses-only (vg_union a b result) =
    written-only of_written refl (of_scalars (λ k l. write_scalar (union k l)) a b) result
    (of_two_types lone-written (λ t u. write_scalar (union (scalar_of t) (scalar_of u))) a b)
call-refuses-only (vg_unrefine t result) = written-only of_written refl (of_scalar (λ k. write_scalar (unrefine k)) t) result (of_lone_type lone-written (λ u. write_scalar (unrefine (scalar_of u))) t)
call-refuses-only (vg_superset a b) = tested-only of_lone (of_scalars superset_of a b) (of_two_types lone-lone (λ t u. superset_of (scalar_of t) (scalar_of u)) a b)
call-refuses-only (vg_compatible_scalars a b) = tested-only of_lone (of_scalars compatible_scalars a b) (of_two_types lone-lone (λ t u. compatible_scalars (scalar_of t) (scalar_of u)) a b)
call-refuses-only (vg_compatible_with_boxes a b) = tested-only of_lone (of_scalars compatible_with_boxes a b) (of_two_types lone-lone (λ t u. compatible_with_boxes (scalar_of t) (scalar_of u)) a b)
call-refuses-only (vg_compare a b) = compared-only of_lone (of_types compare a b) (of_two_types lone-lone compare a b)
call-refuses-only (vg_kinds result) = written-only of_result refl (accepted kind_table) result accepted_with
call-refuses-only (vg_read t) = counted-only of_lone (mapped nothing (lone t)) (of_lone_type lone-lone nothing t)
call-refuses-only (vg_type_length s) = counted-only of_records (type_length s) (length_with s)
call-refuses-only (vg_shape_record t result) = written-only of_written refl (mapped shape_record (lone t)) result (of_lone_type lone-written shape_record t)
call-refuses-only (vg_scalar_record t result) = written-only of_written refl (mapped scalar_record (lone t)) result (of_lone_type lone-written scalar_record t)
call-refuses-only (vg_row t result) = written-only of_written refl (mapped (λ u. write_ty (into_row u)) (lone t)) result (of_lone_type lone-written (λ u. write_ty (into_row u)) t)
call-refuses-only (vg_first-row t result) = written-only of_written refl (mapped (λ u. write_ty (into_first_row u)) (lone t)) result (of_lone_type lone-written (λ u. write_ty (into_first_row u)) t)
call-refuses-only (vg_last-row t result) = written-only of_written refl (mapped (λ u. write_ty (into_last_row u)) (lone t)) result (of_lone_type lone-written (λ u. write_ty (into_last_row u)) t)
call-refuses-only (vg_nth-row t n result) = written-only of_written refl (mapped (λ u. write_ty (into_nth_row n u)) (lone t)) result (of_lone_type lone-written (λ u. write_ty (into_nth_row n u)) t)
call-refuses-only (vg_unboxed t result) = written-only of_written refl (mapped (λ u. write_ty (unboxed u)) (lone t)) result (of_lone_type lone-written (λ u. write_ty (unboxed u)) t)
call-refuses-only (vg_as_boxes t result) = boxes-only of_written refl (bound as_boxes (lone t)) result (from_one lone-written as_boxes boxes_with t)
call-refuses-only (vg_field t n) = found-only of_lone (mapped (field_place n) (lone t)) (of_lone_type lone-lone (field_place n) t)
call-refuses-only (vg_join a b result) = written-only of_written refl (join_types_call a b) result (of_two_types lone-written (λ t u. write_ty (join_types t u)) a b)
call-refuses-only (vg_validate side spec t result) = sided_with lone-validated refl validate validate_with side spec t result
call-refuses-only (vg_check_shape side spec t result) = sided_with lone-shape-checked refl check_shape_only shape-checked_with side spec t result
call-refuses-only (vg_check_scalar spec t result) = separate_with lone-validated refl check_scalar_only scalar_with spec t result
call-refuses-only (vg_val_ty kind x list t result) =
    written-only of_written refl (mapped write_ty (bound value_ty (handed_in kind x list t))) result
    (mapped-numbered write_ty (bound value_ty (handed_in kind x list t)) (bound-numbered value_ty (handed_in kind x list t) (handed_with lone-written kind x list t) (ty_with refl)))
call-refuses-only (vg_val_spec kind x list t result) =
    written-only of_sizes_written refl (mapped write_ty (bound value_spec (handed_in kind x list t))) result
    (mapped-numbered write_ty (bound value_spec (handed_in kind x list t)) (bound-numbered value_spec (handed_in kind x list t) (handed_with lone-sizes-written kind x list t) (spec_with (refl, (refl, (refl, tt))))))
call-refuses-only (vg_val_scalar kind x list t result) =
    written-only of_written refl (mapped write_scalar (mapped value_scalar (handed_in kind x list t))) result
    (mapped-numbered write_scalar (mapped value_scalar (handed_in kind x list t)) (mapped-numbered value_scalar (handed_in kind x list t) (handed_with lone-written kind x list t)))
call-refuses-only (vg_nums_scalar list result) = written-only of_result refl (accepted (write_scalar (nums_scalar list))) result accepted_with
call-refuses-only (vg_val_row_count kind x list t) =
    sized-only of_lone (bound value_row_count (handed_in kind x list t))
    (bound-numbered value_row_count (handed_in kind x list t) (handed_with lone-lone kind x list t) (row_count_with refl))
call-refuses-only (vg_val_rank kind x list t) =
    counted-only of_lone (mapped value_rank (handed_in kind x list t))
    (mapped-numbered value_rank (handed_in kind x list t) (handed_with lone-lone kind x list t))
call-refuses-only (vg_val_row kind x list t before result) =
    row-only of_written refl before (mapped value_row (handed_in kind x list t)) result
    (mapped-numbered value_row (handed_in kind x list t) (handed_with lone-written kind x list t))
call-refuses-only (vg_val_first-row kind x list t before result) =
    row-only of_written refl before (mapped value_first_row (handed_in kind x list t)) result
    (mapped-numbered value_first_row (handed_in kind x list t) (handed_with lone-written kind x list t))
call-refuses-only (vg_val_last-row kind x list t before result) =
    row-only of_written refl before (mapped value_last_row (handed_in kind x list t)) result
    (mapped-numbered value_last_row (handed_in kind x list t) (handed_with lone-written kind x list t))
call-refuses-only (vg_as_dim kind x list t) =
    sized_or_none-only of_size (bound value_as_dim (handed_in kind x list t))
    (bound-numbered value_as_dim (handed_in kind x list t) (handed_with lone-size kind x list t) (as_dim_with (refl, (refl, tt))))
call-refuses-only (vg_as-dims kind x list t sizes) =
    sizes-only of_sizes_written refl (bound value_as_dims (handed_in kind x list t)) sizes
    (bound-numbered value_as_dims (handed_in kind x list t) (handed_with lone-sizes-written kind x list t) (as-dims_with (refl, (refl, (refl, tt)))))
call-refuses-only (vg_check_sheet sheet result scratch) = sheet-only of_sheet_call (sheet_call sheet result scratch) (call-numbered sheet result scratch)
call-refuses-only (vg_find_step sheet p) = λ e. absurd (or_nothing-not-refused step_told step-not-refused (step_of sheet p) e)

-- ---- the lists are of the sixteen

sizes-known : All (Among refusals) of_sizes
sizes-known = (refl, tt)

records-known : All (Among refusals) of_records
records-known = (refl, (refl, (refl, (refl, (refl, tt)))))

lone-known : All (Among refusals) of_lone
lone-known = (refl, (refl, (refl, (refl, (refl, (refl, tt))))))

written_known : All (Among refusals) of_written
written_known = (refl, (refl, (refl, (refl, (refl, (refl, (refl, tt)))))))

pervaded-known : All (Among refusals) of_pervaded
pervaded-known = (refl, (refl, (refl, (refl, (refl, (refl, (refl, (refl, tt))))))))

shape-checked-known : All (Among refusals) of_shape_checked
shape-checked-known = (refl, (refl, (refl, (refl, (refl, (refl, (refl, (refl, (refl, tt)))))))))

validated-known : All (Among refusals) of_validated
validated-known = (refl, (refl, (refl, (refl, (refl, (refl, (refl, (refl, (refl, (refl, tt))))))))))

size-known : All (Among refusals) of_size
size-known = (refl, (refl, (refl, (refl, (refl, (refl, (refl, tt)))))))

sizes-written_known : All (Among refusals) of_sizes_written
sizes-written_known = (refl, (refl, (refl, (refl, (refl, (refl, (refl, (refl, tt))))))))

result-known : All (Among refusals) of_result
result-known = (refl, tt)

sheet_call-known : All (Among refusals) of_sheet_call
sheet_call-known = (refl, (refl, (refl, (refl, (refl, (refl, (refl, (refl, (refl, (refl, (refl, (refl, (refl, (refl, tt))))))))))))))

pub numbers-known : (c : Call) → All (Among refusals) (numbers_of c)
numbers-known (vg_dim_cmp a b) = sizes-known
numbers-known (vg_dim_cmp_defined a b) = sizes-known
numbers-known (vg_dim_max a b) = sizes-known
numbers-known (vg_dim_join a b) = sizes-known
numbers-known (vg_dim_compatible a b) = sizes-known
numbers-known (vg_dim_row_compatible a b) = sizes-known
numbers-known (vg_merge a b result) = written_known
numbers-known (vg_join_shapes a b result) = written_known
numbers-known (vg_compatible_shapes a b) = lone-known
numbers-known (vg_row_shape t result) = written_known
numbers-known (vg_shape_is-any t) = lone-known
numbers-known (vg_shape_is-scalar t) = lone-known
numbers-known (vg_row_count t) = lone-known
numbers-known (vg_rank t) = lone-known
numbers-known (vg_pervade flag a b result) = pervaded-known
numbers-known (vg_union a b result) = written_known
numbers-known (vg_unrefine t result) = written_known
numbers-known (vg_superset a b) = lone-known
numbers-known (vg_compatible_scalars a b) = lone-known
numbers-known (vg_compatible_with_boxes a b) = lone-known
numbers-known (vg_compare a b) = lone-known
numbers-known (vg_kinds result) = result-known
numbers-known (vg_read t) = lone-known
numbers-known (vg_type_length s) = records-known
numbers-known (vg_shape_record t result) = written_known
numbers-known (vg_scalar_record t result) = written_known
numbers-known (vg_row t result) = written_known
numbers-known (vg_first-row t result) = written_known
numbers-known (vg_last-row t result) = written_known
numbers-known (vg_nth-row t n result) = written_known
numbers-known (vg_unboxed t result) = written_known
numbers-known (vg_as_boxes t result) = written_known
numbers-known (vg_field t n) = lone-known
numbers-known (vg_join a b result) = written_known
numbers-known (vg_validate side spec t result) = validated-known
numbers-known (vg_check_shape side spec t result) = shape-checked-known
numbers-known (vg_check_scalar spec t result) = validated-known
numbers-known (vg_val_ty kind x list t result) = written_known
numbers-known (vg_val_spec kind x list t result) = sizes-written_known
numbers-known (vg_val_scalar kind x list t result) = written_known
numbers-known (vg_nums_scalar list result) = result-known
numbers-known (vg_val_row_count kind x list t) = lone-known
numbers-known (vg_val_rank kind x list t) = lone-known
numbers-known (vg_val_row kind x list t before result) = written_known
numbers-known (vg_val_first-row kind x list t before result) = written_known
numbers-known (vg_val_last-row kind x list t before result) = written_known
numbers-known (vg_as_dim kind x list t) = size-known
numbers-known (vg_as-dims kind x list t sizes) = sizes-written_known
numbers-known (vg_check_sheet sheet result scratch) = sheet_call-known
numbers-known (vg_find_step sheet p) = tt

-- "One of" sixteen.
pub call_known : (c : Call) → RefusesOnly refusals (reply_to c)
call_known c = λ e. among-more (numbers_of c) refusals (numbers-known c) (reply_to c).number (call-refuses-only c e)
