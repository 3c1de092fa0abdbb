-- The second half of demand 3 is not empty: three sheets of the same four puts, [3] and [?] in both orders and [..2] and [..4], which
-- name closing sizes, in three groupings; and two of [3] and [4], in both orders. Each is written as steps and as bytes and keeps every
-- condition. What the second half then says of them: the first three are accepted with one shape, real arrays get through, and the
-- other two are mismatches that none get through.
use Rattle.std.specs.Prelude.{ℕ, true, false, List, [], ◌∷◌, ◌++◌, ◌≡◌, refl, length}
use Rattle.std.proofs.Common.{arith, sym, ◌∙◌, ap}
use Rattle.std.proofs.Math.Option.{some}
use Rattle.model.specs.Refusals.{unpervaded}
use Rattle.model.specs.Types.{static, unknown, shape, Ty}
use Rattle.model.specs.Within.{All, DimWithin, Within}
use Rattle.format.specs.Reader.{Bytes, byte, judged, number, bytes_of}
use Rattle.format.specs.Records.{code, kind_of, write_shape, write_scalar, write_ty, read_mark, read_dim, read_dims, shape_from, scalar_from, read_ty}
use Rattle.format.specs.Outcome.{accepted, refused, shape_record}
use Rattle.rules.specs.Sizes.{cmp_dim}
use Rattle.rules.specs.Order.{code_of}
use Rattle.rules.specs.Scalars.{superset_codes, superset_of, union}
use Rattle.rules.specs.Pervade.{against_absent, together, walk, pervade_closing}
use Rattle.rules.specs.PervadeInSheets.{in_sheets_at, pervade_in_sheets}
use Rattle.machine.specs.SheetLimits.{scratch_bytes, result_bytes}
use Rattle.machine.specs.Steps.{Step, put, pervading}
use Rattle.machine.specs.Run.{gives, refuses, pervade_types, step, steps}
use Rattle.machine.specs.Written.{write_steps}
use Rattle.machine.specs.Names.{SheetOf}
use Rattle.machine.specs.Sheet.{opcode_from, argument_from, step_from, written_from, work_from, sheet_more, sheet_from, sheet_run}
use Rattle.machine.specs.Call.{write_types}
use Rattle.machine.specs.WellFormed.{types_left}
use Rattle.machine.specs.Real.{fits, real_pervade, Feeds, real_step, real_run, Through}
use Rattle.machine.specs.Conditions.{PutOrPervade, puts, SamePuts, count_closing}
use Rattle.machine.proofs.WrittenOut.{sheet-of-out}
use Rattle.demand.specs.Claims.{Check, check_of, answer_to, Leaves, Mismatched, verdict_of, SecondConditions, NoneThrough, SecondHalf, Regrouped}
use Rattle.demand.proofs.Calls.{run-leaves, run_mismatched}
use Rattle.demand.proofs.Words.{steps_well_formed}
use Rattle.demand.proofs.Demand.{second-half, mismatch_exactly, same_verdict, same_shape}
use Rattle.demand.proofs.WorkedWith.{num_of, nums, one_size, any_size, last_size, num-within, nums-within, within3, within4, are-bytes, are_heights, are-heights, zeroes, long-enough}

-- ---- how they are written

abbrev pub put3 : Step
put3 = put (nums (static 3 ∷ []))

abbrev pub put4 : Step
put4 = put (nums (static 4 ∷ []))

abbrev pub put? : Step
put? = put (nums (unknown ∷ []))

-- put [..n] Num
abbrev put_last : ℕ → Step
put_last n = put (num_of (shape [] (some (static n ∷ []))))

abbrev pub pervade0 : Step
pervade0 = pervading false false

-- the bytes of a put of a record, and of pervade 0
abbrev pub putting : List ℕ → List ℕ
putting r = 0x50 ∷ 0x55 ∷ r

abbrev pub pervading0 : List ℕ
pervading0 = 0x50 ∷ 0x56 ∷ 0x00 ∷ []

-- ---- the sheets

-- ([3] [?]) ([..2] [..4])
abbrev pub pairs_steps : List Step
pairs_steps = put3 ∷ put? ∷ pervade0 ∷ put_last 2 ∷ put_last 4 ∷ pervade0 ∷ pervade0 ∷ []

abbrev pub pairs_bytes : List ℕ
pairs_bytes = putting (one_size 3) ++ (putting any_size ++ (pervading0 ++ (putting (last_size 2) ++ (putting (last_size 4) ++ (pervading0 ++ pervading0)))))

-- (([?] [3]) [..2]) [..4]
abbrev pub left_steps : List Step
left_steps = put? ∷ put3 ∷ pervade0 ∷ put_last 2 ∷ pervade0 ∷ put_last 4 ∷ pervade0 ∷ []

abbrev pub left_bytes : List ℕ
left_bytes = putting any_size ++ (putting (one_size 3) ++ (pervading0 ++ (putting (last_size 2) ++ (pervading0 ++ (putting (last_size 4) ++ pervading0)))))

-- [..4] ([?] ([..2] [3]))
abbrev pub right_steps : List Step
right_steps = put_last 4 ∷ put? ∷ put_last 2 ∷ put3 ∷ pervade0 ∷ pervade0 ∷ pervade0 ∷ []

abbrev pub right_bytes : List ℕ
right_bytes = putting (last_size 4) ++ (putting any_size ++ (putting (last_size 2) ++ (putting (one_size 3) ++ (pervading0 ++ (pervading0 ++ pervading0)))))

-- [3] [4], and [4] [3]
abbrev pub unlike_steps : List Step
unlike_steps = put3 ∷ put4 ∷ pervade0 ∷ []

abbrev pub unlike_bytes : List ℕ
unlike_bytes = putting (one_size 3) ++ (putting (one_size 4) ++ pervading0)

abbrev pub turned_steps : List Step
turned_steps = put4 ∷ put3 ∷ pervade0 ∷ []

abbrev pub turned_bytes : List ℕ
turned_bytes = putting (one_size 4) ++ (putting (one_size 3) ++ pervading0)

-- a call with the scratch asked for, and a result for the one type left, no byte more
abbrev pub check_with : List ℕ → Check
check_with s = check_of s (zeroes (result_bytes 1)) (zeroes scratch_bytes)

-- ---- they are bytes

pairs-bytes : Bytes pairs_bytes
pairs-bytes = are-bytes pairs_bytes refl

left-bytes : Bytes left_bytes
left-bytes = are-bytes left_bytes refl

right-bytes : Bytes right_bytes
right-bytes = are-bytes right_bytes refl

unlike-bytes : Bytes unlike_bytes
unlike-bytes = are-bytes unlike_bytes refl

turned-bytes : Bytes turned_bytes
turned-bytes = are-bytes turned_bytes refl

-- ---- they keep the conditions

pub within? : Within (nums (unknown ∷ []))
within? = nums-within (unknown ∷ []) (omega arith, (tt, tt))

within_last : (n : ℕ) → DimWithin (static n) → Within (num_of (shape [] (some (static n ∷ []))))
within_last n h = num-within (shape [] (some (static n ∷ []))) ((omega arith, tt), (omega arith, (h, tt)))

pub pairs_sheet : SheetOf pairs_bytes pairs_steps
unfolding bytes_of code write_shape write_scalar write_ty write_steps
pairs_sheet = sheet-of-out pairs_bytes pairs_steps refl (within3, (within?, (tt, (within_last 2 (omega arith), (within_last 4 (omega arith), (tt, (tt, tt))))))) (omega arith)

pub left-sheet : SheetOf left_bytes left_steps
unfolding bytes_of code write_shape write_scalar write_ty write_steps
left-sheet = sheet-of-out left_bytes left_steps refl (within?, (within3, (tt, (within_last 2 (omega arith), (tt, (within_last 4 (omega arith), (tt, tt))))))) (omega arith)

pub right-sheet : SheetOf right_bytes right_steps
unfolding bytes_of code write_shape write_scalar write_ty write_steps
right-sheet = sheet-of-out right_bytes right_steps refl (within_last 4 (omega arith), (within?, (within_last 2 (omega arith), (within3, (tt, (tt, (tt, tt))))))) (omega arith)

pub unlike-sheet : SheetOf unlike_bytes unlike_steps
unfolding bytes_of code write_shape write_scalar write_ty write_steps
unlike-sheet = sheet-of-out unlike_bytes unlike_steps refl (within3, (within4, (tt, tt))) (omega arith)

pub turned-sheet : SheetOf turned_bytes turned_steps
unfolding bytes_of code write_shape write_scalar write_ty write_steps
turned-sheet = sheet-of-out turned_bytes turned_steps refl (within4, (within3, (tt, tt))) (omega arith)

pub conditions : (s : List ℕ) (xs : List Step) → Bytes s → SheetOf s xs → are_heights xs 0 ≡ true → All PutOrPervade xs → types_left xs ≡ 1 → SecondConditions (check_with s) xs
conditions s xs small sheet heights only one = record {
  bytes = small;
  well_formed = steps_well_formed s (zeroes (result_bytes 1)) (zeroes scratch_bytes) xs sheet (are-heights xs 0 heights) (rw one (long-enough (result_bytes 1))) (long-enough scratch_bytes);
  puts-and-pervadings = only;
  one_left = one;
}

-- Each step has what it takes, at most six types lie on the stack, and one is left.
pub pairs_conditions : SecondConditions (check_with pairs_bytes) pairs_steps
pairs_conditions = conditions pairs_bytes pairs_steps pairs-bytes pairs_sheet refl (tt, (tt, (refl, (tt, (tt, (refl, (refl, tt))))))) refl

pub left-conditions : SecondConditions (check_with left_bytes) left_steps
left-conditions = conditions left_bytes left_steps left-bytes left-sheet refl (tt, (tt, (refl, (tt, (refl, (tt, (refl, tt))))))) refl

pub right-conditions : SecondConditions (check_with right_bytes) right_steps
right-conditions = conditions right_bytes right_steps right-bytes right-sheet refl (tt, (tt, (tt, (tt, (refl, (refl, (refl, tt))))))) refl

pub unlike-conditions : SecondConditions (check_with unlike_bytes) unlike_steps
unlike-conditions = conditions unlike_bytes unlike_steps unlike-bytes unlike-sheet refl (tt, (tt, (refl, tt))) refl

pub turned-conditions : SecondConditions (check_with turned_bytes) turned_steps
turned-conditions = conditions turned_bytes turned_steps turned-bytes turned-sheet refl (tt, (tt, (refl, tt))) refl

-- ---- what the rules make of them

-- [3..] Num, whose shape's record is this
abbrev pub one_type_left : Ty
one_type_left = num_of (shape (static 3 ∷ []) (some []))

pub one-record : shape_record one_type_left ≡ 0x53 ∷ 0x48 ∷ 0x01 ∷ 0x00 ∷ 0x03 ∷ 0 ∷ 0 ∷ 0 ∷ 0 ∷ 0 ∷ 0 ∷ 0 ∷ []
unfolding bytes_of write_shape
one-record = refl

pairs_run : sheet_run pairs_bytes ≡ accepted (one_type_left ∷ [])
unfolding byte judged number code kind_of read_mark read_dim read_dims shape_from scalar_from read_ty code_of superset_codes superset_of union against_absent
    together walk pervade_closing in_sheets_at pervade_in_sheets pervade_types step steps opcode_from argument_from step_from written_from work_from sheet_more sheet_from sheet_run
pairs_run = refl

one-length : length (write_types (one_type_left ∷ [])) ≡ 15
unfolding bytes_of code write_shape write_scalar write_ty write_types
one-length = refl

pub pairs_leaves : Leaves (check_with pairs_bytes) (one_type_left ∷ [])
pairs_leaves =
    let within : Within one_type_left = num-within (shape (static 3 ∷ []) (some [])) ((omega arith, (omega arith, tt)), (omega arith, tt)) in
    run-leaves (check_with pairs_bytes) (long-enough scratch_bytes) (one_type_left ∷ []) pairs_run (within, tt) (omega (arith, one-length, long-enough (result_bytes 1)))

-- [3] and [4] are refused at the pervading.
unlike-run : sheet_run unlike_bytes ≡ refused unpervaded 34
unfolding byte judged number code kind_of read_mark read_dim read_dims shape_from scalar_from read_ty cmp_dim code_of superset_codes superset_of union together
    walk pervade_closing in_sheets_at pervade_in_sheets pervade_types step steps opcode_from argument_from step_from written_from work_from sheet_more sheet_from sheet_run
unlike-run = refl

pub unlike_mismatched : Mismatched (check_with unlike_bytes)
unlike_mismatched = run_mismatched (check_with unlike_bytes) (long-enough scratch_bytes) 34 unlike-run

-- ---- "mismatch exactly when no real arrays that fit the puts get through"

-- Shapes 3, 1, 3 2 and 3 2 4 fit [3], [?], [..2] and [..4], and get through.
abbrev pub pairs_feeds : Feeds pairs_steps
pairs_feeds = (3 ∷ [], (1 ∷ [], (tt, (3 ∷ 2 ∷ [], (3 ∷ 2 ∷ 4 ∷ [], (tt, (tt, tt)))))))

pub pairs_through : Through pairs_steps pairs_feeds ((3 ∷ 2 ∷ 4 ∷ []) ∷ [])
unfolding fits real_pervade real_step real_run
pairs_through = record { fit = (refl, (refl, (tt, (refl, (refl, (tt, (tt, tt))))))); run = refl }

pub pairs_second-half : SecondHalf (check_with pairs_bytes) pairs_steps
pairs_second-half = second-half (check_with pairs_bytes) pairs_steps pairs_conditions

-- So mismatch is not answered there.
pub pairs_matched : Mismatched (check_with pairs_bytes) → ⊥
pairs_matched m = (mismatch_exactly (check_with pairs_bytes) pairs_steps pairs_conditions).0 m pairs_feeds ((3 ∷ 2 ∷ 4 ∷ []) ∷ []) pairs_through

-- And no real arrays that fit [3] and [4] get through.
pub unlike-none : NoneThrough unlike_steps
unlike-none = (mismatch_exactly (check_with unlike_bytes) unlike_steps unlike-conditions).0 unlike_mismatched

-- ---- "every other order or grouping gets the same verdict and, if accepted, the same shape"

pub pairs_left : SamePuts pairs_steps left_steps
pairs_left t = omega arith

pub pairs_right : SamePuts pairs_steps right_steps
pairs_right t = omega arith

pub unlike-turned : SamePuts unlike_steps turned_steps
unlike-turned t = omega arith

abbrev pairs_regrouped-left : Regrouped (check_with pairs_bytes) (check_with left_bytes) pairs_steps left_steps
pairs_regrouped-left = record { one = pairs_conditions; other = left-conditions; same-puts = pairs_left }

abbrev pairs_regrouped-right : Regrouped (check_with pairs_bytes) (check_with right_bytes) pairs_steps right_steps
pairs_regrouped-right = record { one = pairs_conditions; other = right-conditions; same-puts = pairs_right }

abbrev unlike-regrouped : Regrouped (check_with unlike_bytes) (check_with turned_bytes) unlike_steps turned_steps
unlike-regrouped = record { one = unlike-conditions; other = turned-conditions; same-puts = unlike-turned }

-- Two of the four name closing sizes.
pub pairs_closing : count_closing (puts pairs_steps) ≡ 2
pairs_closing = refl

-- The verdict of all three is accepted.
pub accepted_verdicts :
    (verdict_of (answer_to (check_with pairs_bytes)) ≡ gives tt)
    × (verdict_of (answer_to (check_with left_bytes)) ≡ gives tt)
    × (verdict_of (answer_to (check_with right_bytes)) ≡ gives tt)
accepted_verdicts =
    let first : verdict_of (answer_to (check_with pairs_bytes)) ≡ gives tt = ap verdict_of pairs_leaves.outcome in
    let left = same_verdict (check_with pairs_bytes) (check_with left_bytes) pairs_steps left_steps pairs_regrouped-left in
    let right = same_verdict (check_with pairs_bytes) (check_with right_bytes) pairs_steps right_steps pairs_regrouped-right in
    (first, sym left ∙ first, sym right ∙ first)

-- The type that each of the others leaves has the shape [3..].
pub left-shape : (u : Ty) × Leaves (check_with left_bytes) (u ∷ []) × (shape_record one_type_left ≡ shape_record u)
left-shape = same_shape (check_with pairs_bytes) (check_with left_bytes) pairs_steps left_steps pairs_regrouped-left one_type_left pairs_leaves (omega (arith, pairs_closing))

pub right-shape : (u : Ty) × Leaves (check_with right_bytes) (u ∷ []) × (shape_record one_type_left ≡ shape_record u)
right-shape = same_shape (check_with pairs_bytes) (check_with right_bytes) pairs_steps right_steps pairs_regrouped-right one_type_left pairs_leaves (omega (arith, pairs_closing))

-- The verdict of [3] and [4], in both orders, is mismatch.
pub mismatch_verdicts : (verdict_of (answer_to (check_with unlike_bytes)) ≡ refuses unpervaded) × (verdict_of (answer_to (check_with turned_bytes)) ≡ refuses unpervaded)
mismatch_verdicts =
    let first : verdict_of (answer_to (check_with unlike_bytes)) ≡ refuses unpervaded = ap verdict_of unlike_mismatched.outcome in
    let turned = same_verdict (check_with unlike_bytes) (check_with turned_bytes) unlike_steps turned_steps unlike-regrouped in
    (first, sym turned ∙ first)

-- The two verdicts are two.
pub verdicts_differ : verdict_of (answer_to (check_with pairs_bytes)) ≡ verdict_of (answer_to (check_with unlike_bytes)) → ⊥
verdicts_differ e =
    let a = accepted_verdicts.0 in
    let b = mismatch_verdicts.0 in
    let z : ◌≡◌ {A = ℕ} 0 1 = cc in
    absurd (omega arith)
