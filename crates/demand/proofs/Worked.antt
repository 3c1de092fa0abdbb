-- The first half of demand 3 is not empty: one sheet with all five steps, written as steps and as bytes, that the call accepts,
-- that keeps every condition, and that real arrays get through; and what the first half then says of it.
use Rattle.std.specs.Prelude.{ℕ, ◌≤◌, false, List, [], ◌∷◌, ◌++◌, ◌≡◌, refl, length}
use Rattle.std.proofs.Common.{arith}
use Rattle.model.specs.Types.{static, unknown, Ty, inside, below}
use Rattle.model.specs.Within.{Within}
use Rattle.format.specs.Reader.{byte, judged, number, bytes_of}
use Rattle.format.specs.Records.{code, kind_of, write_shape, write_scalar, write_ty, read_mark, read_dim, read_dims, shape_from, scalar_from, read_ty}
use Rattle.format.specs.Outcome.{accepted}
use Rattle.rules.specs.Sizes.{cmp_dim, larger, compatible, join_dim}
use Rattle.rules.specs.Shapes.{is_any, row_shape, merge_dims, merge_closing, merge_from, join_dims, join_closing, join_shapes}
use Rattle.rules.specs.Order.{code_of}
use Rattle.rules.specs.Scalars.{superset_codes, superset_of, union}
use Rattle.rules.specs.Pervade.{together, walk, pervade_closing}
use Rattle.rules.specs.PervadeInSheets.{in_sheets_at, pervade_in_sheets}
use Rattle.rules.specs.Types.{join_types, wholly_any, row_scalar, row_by}
use Rattle.validation.specs.CheckShape.{agree, sizes_agree, count_test, names_all, mismatch, shape_mismatch, sided_shape, check_shape}
use Rattle.validation.specs.CheckScalar.{check_scalar}
use Rattle.validation.specs.Validate.{validate}
use Rattle.machine.specs.SheetLimits.{scratch_bytes}
use Rattle.machine.specs.Steps.{Step, put, row, pervading, join, validating}
use Rattle.machine.specs.Run.{pervade_types, step, steps}
use Rattle.machine.specs.Written.{write_steps}
use Rattle.machine.specs.Names.{SheetOf}
use Rattle.machine.specs.Sheet.{opcode_from, argument_from, step_from, written_from, work_from, sheet_more, sheet_from, sheet_run}
use Rattle.machine.specs.Call.{write_types}
use Rattle.machine.specs.Real.{fits, real_pervade, the_one_below, Feeds, real_step, real_run, Through}
use Rattle.machine.specs.Conditions.{RowsNoOpenDef, JoinsAlike}
use Rattle.machine.proofs.WrittenOut.{sheet-of-out}
use Rattle.demand.specs.Claims.{Check, check_of, Leaves, MakesAccepted, FirstConditions, EachHolds}
use Rattle.demand.proofs.Calls.{run-leaves}
use Rattle.demand.proofs.WorkedWith.{nums, one_size, nums-within, within3, within4, zeroes, long-enough, as-worked}
use Rattle.demand.proofs.Demand.{first-half}

-- ---- the sheet

-- put [2 ?] Num, row, put [3] Num, pervade 0, put [4] Num, join, validate [3] Num
abbrev pub worked_steps : List Step
worked_steps = put (nums (static 2 ∷ unknown ∷ [])) ∷ row ∷ put (nums (static 3 ∷ [])) ∷ pervading false false ∷ put (nums (static 4 ∷ [])) ∷ join ∷ validating (nums (static 3 ∷ [])) ∷ []

abbrev pub worked_bytes : List ℕ
worked_bytes =
    (0x50 ∷ 0x55 ∷ 0x53 ∷ 0x48 ∷ 0x02 ∷ 0xFF ∷ 0x02 ∷ 0 ∷ 0 ∷ 0 ∷ 0 ∷ 0 ∷ 0 ∷ 0 ∷ 0xFF ∷ 0xFF ∷ 0xFF ∷ 0xFF ∷ 0xFF ∷ 0xFF ∷ 0xFF ∷ 0xFF ∷ 0x53 ∷ 0x43 ∷ 0x03 ∷ [])
    ++ ((0x52 ∷ 0x57 ∷ [])
    ++ ((0x50 ∷ 0x55 ∷ one_size 3)
    ++ ((0x50 ∷ 0x56 ∷ 0x00 ∷ [])
    ++ ((0x50 ∷ 0x55 ∷ one_size 4)
    ++ ((0x4A ∷ 0x4E ∷ [])
    ++ (0x56 ∷ 0x41 ∷ one_size 3))))))

-- the type left: [3] Num
abbrev pub worked_left : List Ty
worked_left = nums (static 3 ∷ []) ∷ []

-- the real arrays: of shapes 2 3, 3 and 4, and the join keeps the one below
abbrev pub worked_feeds : Feeds worked_steps
worked_feeds = (2 ∷ 3 ∷ [], (tt, (3 ∷ [], (tt, (4 ∷ [], (the_one_below, (tt, tt)))))))

-- ---- it is a sheet

within2? : Within (nums (static 2 ∷ unknown ∷ []))
within2? = nums-within (static 2 ∷ unknown ∷ []) (omega arith, (omega arith, (tt, tt)))

pub worked-sheet : SheetOf worked_bytes worked_steps
unfolding bytes_of code write_shape write_scalar write_ty write_steps
worked-sheet = sheet-of-out worked_bytes worked_steps refl (within2?, (tt, (within3, (tt, (within4, (tt, (within3, tt))))))) (omega arith)

-- ---- it is accepted

worked-run : sheet_run worked_bytes ≡ accepted worked_left
unfolding inside below byte judged number code kind_of read_mark read_dim read_dims shape_from scalar_from read_ty cmp_dim larger compatible join_dim is_any
    row_shape merge_dims merge_closing merge_from join_dims join_closing join_shapes code_of superset_codes superset_of union together walk
    pervade_closing in_sheets_at pervade_in_sheets join_types wholly_any row_scalar row_by agree sizes_agree count_test names_all mismatch shape_mismatch sided_shape check_shape check_scalar validate pervade_types
    step steps opcode_from argument_from step_from written_from work_from sheet_more sheet_from sheet_run
worked-run = refl

worked-length : length (write_types worked_left) ≡ 15
unfolding bytes_of code write_shape write_scalar write_ty write_types
worked-length = refl

-- With any result of at least 15 bytes, which the type left takes, and any scratch that is long enough.
pub worked-leaves : (result scratch : List ℕ) → 15 ≤ length result → scratch_bytes ≤ length scratch → Leaves (check_of worked_bytes result scratch) worked_left
worked-leaves result scratch room enough =
    run-leaves (check_of worked_bytes result scratch) enough worked_left worked-run (within3, tt) (omega (arith, worked-length))

-- There are such buffers.
abbrev pub worked_check : Check
worked_check = check_of worked_bytes (zeroes 15) (zeroes scratch_bytes)

pub worked-buffers : Leaves worked_check worked_left
worked-buffers = worked-leaves (zeroes 15) (zeroes scratch_bytes) (long-enough 15) (long-enough scratch_bytes)

-- ---- it keeps the conditions

-- The row is of [2 ?] Num, no Def; the join is of [4] and [3], closed and of one size each.
pub worked-conditions : FirstConditions worked_steps
unfolding inside below code cmp_dim larger compatible join_dim is_any row_shape merge_dims merge_closing merge_from join_dims join_closing join_shapes code_of
    superset_codes superset_of union together walk pervade_closing in_sheets_at pervade_in_sheets join_types wholly_any row_scalar row_by agree sizes_agree count_test names_all mismatch shape_mismatch
    sided_shape check_shape check_scalar validate pervade_types step
worked-conditions = record {
  names-no-closing = (refl, (tt, (refl, (tt, (refl, (tt, (refl, tt)))))));
  rows-no_open_def = as-worked RowsNoOpenDef worked_steps [] (tt, (refl, (tt, (tt, (tt, (tt, (tt, tt)))))));
  joins-alike = as-worked JoinsAlike worked_steps [] (tt, (tt, (tt, (tt, (tt, (refl, (tt, tt)))))));
}

-- ---- real arrays get through

pub worked_through : Through worked_steps worked_feeds ((3 ∷ []) ∷ [])
unfolding fits real_pervade real_step real_run
worked_through = record { fit = (refl, (tt, (refl, (tt, (refl, (tt, (tt, tt))))))); run = refl }

-- ---- what the first half says of it

-- The type left, [3] Num, holds the shape 3 of the real array there.
pub worked_holds : EachHolds worked_left ((3 ∷ []) ∷ [])
worked_holds =
    let makes : MakesAccepted worked_check worked_steps worked_left = record { bytes = worked-sheet; leaves = worked-buffers } in
    first-half worked_check worked_steps worked_left makes worked-conditions worked_feeds ((3 ∷ []) ∷ []) worked_through
