-- The first half of demand 3 speaks of filled pervadings (document 02, 2026-01): a sheet in which 12 marks, filled, meet ?, nothing in
-- [..], and ? once more with both sides filled. The call accepts it, it keeps every condition, and real tables of other lengths get
-- through it; what the first half then says of it, and that a checker which left 12 would be wrong.
use Rattle.std.specs.Prelude.{ℕ, true, false, List, [], ◌∷◌, ◌++◌, ◌≡◌, refl, length}
use Rattle.std.proofs.Common.{arith}
use Rattle.std.proofs.Math.Option.{none, some}
use Rattle.model.specs.Types.{static, unknown, shape, Ty, inside, below}
use Rattle.model.specs.Within.{Within}
use Rattle.format.specs.Reader.{byte, judged, number, bytes_of}
use Rattle.format.specs.Records.{code, kind_of, write_shape, write_scalar, write_ty, read_mark, read_dim, read_dims, shape_from, scalar_from, read_ty}
use Rattle.format.specs.Outcome.{accepted}
use Rattle.rules.specs.Shapes.{any_shape}
use Rattle.rules.specs.Order.{code_of}
use Rattle.rules.specs.Scalars.{superset_codes, superset_of, union}
use Rattle.rules.specs.Pervade.{together, walk, pervade_closing, pervade}
use Rattle.rules.specs.PervadeInSheets.{in_sheets_at, pervade_in_sheets}
use Rattle.machine.specs.SheetLimits.{scratch_bytes}
use Rattle.machine.specs.Steps.{Step, put, pervading}
use Rattle.machine.specs.Run.{pervade_types, step, steps}
use Rattle.machine.specs.Written.{write_steps}
use Rattle.machine.specs.Names.{SheetOf}
use Rattle.machine.specs.Sheet.{opcode_from, argument_from, step_from, written_from, work_from, sheet_more, sheet_from, sheet_run}
use Rattle.machine.specs.Call.{write_types}
use Rattle.machine.specs.Real.{RealShape, fits, Holds, real_pervade, Feeds, real_step, real_run, Through}
use Rattle.machine.specs.Conditions.{RowsNoOpenDef, JoinsAlike}
use Rattle.machine.proofs.WrittenOut.{sheet-of-out}
use Rattle.demand.specs.Claims.{Check, check_of, Leaves, MakesAccepted, FirstConditions, EachHolds}
use Rattle.demand.proofs.Calls.{run-leaves}
use Rattle.demand.proofs.Demand.{first-half}
use Rattle.demand.proofs.WorkedWith.{num_of, nums, one_size, any_size, num-within, nums-within, zeroes, long-enough, as-worked}

-- ---- the sheet

-- [12] Num, [?] Num and [..] Num
abbrev twelve : Ty
twelve = nums (static 12 ∷ [])

abbrev unknown_nums : Ty
unknown_nums = nums (unknown ∷ [])

abbrev anything : Ty
anything = num_of any_shape

-- put [?] Num, put [12] Num, pervade 1; put [..] Num, put [12] Num, pervade 1; put [?] Num, put [12] Num, pervade 3
abbrev pub filled_steps : List Step
filled_steps =
    put unknown_nums ∷ put twelve ∷ pervading true false
    ∷ put anything ∷ put twelve ∷ pervading true false
    ∷ put unknown_nums ∷ put twelve ∷ pervading true true
    ∷ []

abbrev pub filled_bytes : List ℕ
filled_bytes =
    (0x50 ∷ 0x55 ∷ any_size)
    ++ ((0x50 ∷ 0x55 ∷ one_size 12)
    ++ ((0x50 ∷ 0x56 ∷ 0x01 ∷ [])
    ++ ((0x50 ∷ 0x55 ∷ 0x53 ∷ 0x48 ∷ 0x00 ∷ 0x00 ∷ 0x53 ∷ 0x43 ∷ 0x03 ∷ [])
    ++ ((0x50 ∷ 0x55 ∷ one_size 12)
    ++ ((0x50 ∷ 0x56 ∷ 0x01 ∷ [])
    ++ ((0x50 ∷ 0x55 ∷ any_size)
    ++ ((0x50 ∷ 0x55 ∷ one_size 12)
    ++ (0x50 ∷ 0x56 ∷ 0x03 ∷ []))))))))

-- the types left, bottom first: [?] Num, [?..] Num, [?] Num
abbrev pub filled_left : List Ty
filled_left = unknown_nums ∷ num_of (shape (unknown ∷ []) (some [])) ∷ unknown_nums ∷ []

-- the real arrays: 12 marks each time, against 20, against 15 2, and against 9
abbrev pub filled_feeds : Feeds filled_steps
filled_feeds = (20 ∷ [], (12 ∷ [], (tt, (15 ∷ 2 ∷ [], (12 ∷ [], (tt, (9 ∷ [], (12 ∷ [], (tt, tt)))))))))

-- what they leave, bottom first: twice the 12 grow, and last the 9 do
abbrev pub filled_real : List RealShape
filled_real = (20 ∷ []) ∷ (15 ∷ 2 ∷ []) ∷ (12 ∷ []) ∷ []

-- ---- it is a sheet, and accepted

twelve-within : Within twelve
twelve-within = nums-within (static 12 ∷ []) (omega arith, (omega arith, tt))

unknown_nums-within : Within unknown_nums
unknown_nums-within = nums-within (unknown ∷ []) (omega arith, (tt, tt))

anything-within : Within anything
anything-within = num-within any_shape ((omega arith, tt), (omega arith, tt))

pub filled-sheet : SheetOf filled_bytes filled_steps
unfolding bytes_of code write_shape write_scalar write_ty write_steps
filled-sheet = sheet-of-out filled_bytes filled_steps refl (unknown_nums-within, (twelve-within, (tt, (anything-within, (twelve-within, (tt, (unknown_nums-within, (twelve-within, (tt, tt))))))))) (omega arith)

filled-run : sheet_run filled_bytes ≡ accepted filled_left
unfolding inside below byte judged number code kind_of read_mark read_dim read_dims shape_from scalar_from read_ty code_of superset_codes superset_of union
    together walk pervade_closing in_sheets_at pervade_in_sheets pervade_types step steps opcode_from argument_from step_from written_from work_from sheet_more sheet_from sheet_run
filled-run = refl

filled-length : length (write_types filled_left) ≡ 45
unfolding bytes_of code write_shape write_scalar write_ty write_types
filled-length = refl

abbrev pub filled_check : Check
filled_check = check_of filled_bytes (zeroes 45) (zeroes scratch_bytes)

pub filled-leaves : Leaves filled_check filled_left
filled-leaves =
    let enough = long-enough scratch_bytes in
    let room = long-enough 45 in
    let within : Within (num_of (shape (unknown ∷ []) (some []))) = num-within (shape (unknown ∷ []) (some [])) ((omega arith, (tt, tt)), (omega arith, tt)) in
    run-leaves filled_check enough filled_left filled-run (unknown_nums-within, (within, (unknown_nums-within, tt))) (omega (arith, filled-length))

-- ---- it keeps the conditions

-- There is no row and no join, and no put names closing sizes.
pub filled-conditions : FirstConditions filled_steps
unfolding code code_of superset_codes superset_of union together walk pervade_closing in_sheets_at pervade_in_sheets pervade_types step
filled-conditions = record {
  names-no-closing = (refl, (refl, (tt, (refl, (refl, (tt, (refl, (refl, (tt, tt)))))))));
  rows-no_open_def = as-worked RowsNoOpenDef filled_steps [] (tt, (tt, (tt, (tt, (tt, (tt, (tt, (tt, (tt, tt)))))))));
  joins-alike = as-worked JoinsAlike filled_steps [] (tt, (tt, (tt, (tt, (tt, (tt, (tt, (tt, (tt, tt)))))))));
}

-- ---- real arrays get through, and what the first half says of them

pub filled_through : Through filled_steps filled_feeds filled_real
unfolding fits real_pervade real_step real_run
filled_through = record { fit = (refl, (refl, (tt, (refl, (refl, (tt, (refl, (refl, (tt, tt))))))))); run = refl }

-- [?] Num holds the shape 20, [?..] Num the shape 15 2, and [?] Num the shape 12.
pub filled_holds : EachHolds filled_left filled_real
filled_holds =
    let makes : MakesAccepted filled_check filled_steps filled_left = record { bytes = filled-sheet; leaves = filled-leaves } in
    first-half filled_check filled_steps filled_left makes filled-conditions filled_feeds filled_real filled_through

-- ---- titles that ran ahead

-- By the rule of the separate call the first pervading would leave [12], which does not hold the shape 20.
pub twelve_too_few : (pervade true false (shape (static 12 ∷ []) none) (shape (unknown ∷ []) none) ≡ some (shape (static 12 ∷ []) none)) × (Holds twelve (20 ∷ []) → ⊥)
unfolding together walk pervade_closing pervade fits
twelve_too_few = (refl, λ h. let z : ◌≡◌ {A = ℕ} 0 1 = cc in absurd (omega arith))
