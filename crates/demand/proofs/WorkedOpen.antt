-- The first half of demand 3 speaks of open shapes and of Defs too: a sheet that joins two open shapes and takes a row of a closed Def,
-- that the call accepts, that keeps every condition, and that real arrays get through; and what the first half then says of it.
use Rattle.std.specs.Prelude.{ℕ, List, [], ◌∷◌, ◌++◌, ◌≡◌, refl, length}
use Rattle.std.proofs.Common.{arith}
use Rattle.std.proofs.Math.Option.{none, some}
use Rattle.model.specs.Types.{static, unknown, shape, num, char, plain, box_all, box_def, no_fields, field, Ty, ty, inside, below}
use Rattle.model.specs.Within.{DimWithin, Within}
use Rattle.format.specs.Reader.{byte, judged, number, bytes_of}
use Rattle.format.specs.Records.{code, kind_of, write_shape, write_scalar, write_ty, read_mark, read_dim, read_dims, shape_from, read_name, read_fields, def_from, box_from, scalar_from, read_ty}
use Rattle.format.specs.Outcome.{accepted}
use Rattle.rules.specs.Sizes.{join_dim}
use Rattle.rules.specs.Shapes.{rank, row_shape, join_dims, join_longer, join_ends, join_closing, join_shapes}
use Rattle.rules.specs.Order.{code_of}
use Rattle.rules.specs.Scalars.{superset_codes, superset_of, union}
use Rattle.rules.specs.Types.{join_types, first_field, row_scalar, row_by}
use Rattle.machine.specs.SheetLimits.{scratch_bytes}
use Rattle.machine.specs.Steps.{Step, put, row, join}
use Rattle.machine.specs.Run.{step, steps}
use Rattle.machine.specs.Written.{write_steps}
use Rattle.machine.specs.Names.{SheetOf}
use Rattle.machine.specs.Sheet.{opcode_from, argument_from, step_from, written_from, work_from, sheet_more, sheet_from, sheet_run}
use Rattle.machine.specs.Call.{write_types}
use Rattle.machine.specs.Real.{RealShape, fits, the_top, Feeds, real_step, real_run, Through}
use Rattle.machine.specs.Conditions.{RowsNoOpenDef, JoinsAlike}
use Rattle.machine.proofs.WrittenOut.{sheet-of-out}
use Rattle.demand.specs.Claims.{Check, check_of, Leaves, MakesAccepted, FirstConditions, EachHolds}
use Rattle.demand.proofs.Calls.{run-leaves}
use Rattle.demand.proofs.Demand.{first-half}
use Rattle.demand.proofs.WorkedWith.{num_of, num-within, zeroes, long-enough, as-worked}

-- ---- the sheet

-- [n..] Num, and an unnamed Def of [] Num and [] Char under [2]
abbrev open_nums : ℕ → Ty
open_nums n = num_of (shape (static n ∷ []) (some []))

abbrev closed_def : Ty
closed_def = ty (shape (static 2 ∷ []) none) (box_def none (field (shape [] none) (plain num) (field (shape [] none) (plain char) no_fields)))

-- put [2..] Num, put [3..] Num, join, put the Def, row
abbrev pub open_steps : List Step
open_steps = put (open_nums 2) ∷ put (open_nums 3) ∷ join ∷ put closed_def ∷ row ∷ []

-- the record of [n..] Num, and of a kind under []
abbrev open_size : ℕ → List ℕ
open_size n = 0x53 ∷ 0x48 ∷ 0x01 ∷ 0x00 ∷ n ∷ 0 ∷ 0 ∷ 0 ∷ 0 ∷ 0 ∷ 0 ∷ 0 ∷ 0x53 ∷ 0x43 ∷ 0x03 ∷ []

abbrev scalar_type_bytes : ℕ → List ℕ
scalar_type_bytes kind = 0x53 ∷ 0x48 ∷ 0x00 ∷ 0xFF ∷ 0x53 ∷ 0x43 ∷ kind ∷ []

abbrev pub open_bytes : List ℕ
open_bytes =
    (0x50 ∷ 0x55 ∷ open_size 2)
    ++ ((0x50 ∷ 0x55 ∷ open_size 3)
    ++ ((0x4A ∷ 0x4E ∷ [])
    ++ ((0x50 ∷ 0x55 ∷ 0x53 ∷ 0x48 ∷ 0x01 ∷ 0xFF ∷ 0x02 ∷ 0 ∷ 0 ∷ 0 ∷ 0 ∷ 0 ∷ 0 ∷ 0 ∷ 0x53 ∷ 0x43 ∷ 0x08 ∷ 0x42 ∷ 0x58 ∷ 0x02 ∷ 0xFF ∷ 0x02 ∷ [])
    ++ (scalar_type_bytes 0x03
    ++ (scalar_type_bytes 0x06
    ++ (0x52 ∷ 0x57 ∷ []))))))

-- the types left, bottom first: [?..] Num, and the Def's row, [] All of [] Num
abbrev pub open_left : List Ty
open_left = num_of (shape (unknown ∷ []) (some [])) ∷ ty (shape [] none) (box_all (shape [] none) (plain num)) ∷ []

-- the real arrays: of shapes 2 5, 3 and 2, and the join keeps the top
abbrev pub open_feeds : Feeds open_steps
open_feeds = (2 ∷ 5 ∷ [], (3 ∷ [], (the_top, (2 ∷ [], (tt, tt)))))

-- what they leave, bottom first: 3 and a scalar
abbrev pub open_real : List RealShape
open_real = (3 ∷ []) ∷ [] ∷ []

-- ---- it is a sheet, and accepted

open_within : (n : ℕ) → DimWithin (static n) → Within (open_nums n)
open_within n h = num-within (shape (static n ∷ []) (some [])) ((omega arith, (h, tt)), (omega arith, tt))

def-within : Within closed_def
unfolding inside below
def-within = record { records = (((omega arith, (omega arith, tt)), tt), (tt, omega arith, (((omega arith, tt), tt), tt, (((omega arith, tt), tt), tt, tt)))); few = omega arith; shallow = omega arith }

pub open_sheet : SheetOf open_bytes open_steps
unfolding bytes_of code write_shape write_scalar write_ty write_steps
open_sheet = sheet-of-out open_bytes open_steps refl (open_within 2 (omega arith), (open_within 3 (omega arith), (tt, (def-within, (tt, tt))))) (omega arith)

open_run : sheet_run open_bytes ≡ accepted open_left
unfolding inside below byte judged number code kind_of read_mark read_dim read_dims shape_from read_name read_fields def_from box_from scalar_from read_ty
    join_dim rank row_shape join_dims join_longer join_ends join_closing join_shapes code_of superset_codes superset_of union join_types first_field row_scalar
    row_by step steps opcode_from argument_from step_from written_from work_from sheet_more sheet_from sheet_run
open_run = refl

open_length : length (write_types open_left) ≡ 32
unfolding bytes_of code write_shape write_scalar write_ty write_types
open_length = refl

row_within : Within (ty (shape [] none) (box_all (shape [] none) (plain num)))
unfolding inside below
row_within = record { records = (((omega arith, tt), tt), (((omega arith, tt), tt), tt)); few = omega arith; shallow = omega arith }

abbrev pub open_check : Check
open_check = check_of open_bytes (zeroes 32) (zeroes scratch_bytes)

pub open_leaves : Leaves open_check open_left
open_leaves =
    let enough = long-enough scratch_bytes in
    let room = long-enough 32 in
    let within : Within (num_of (shape (unknown ∷ []) (some []))) = num-within (shape (unknown ∷ []) (some [])) ((omega arith, (tt, tt)), (omega arith, tt)) in
    run-leaves open_check enough open_left open_run (within, (row_within, tt)) (omega (arith, open_length))

-- ---- it keeps the conditions

-- The join is of [3..] and [2..], both open; the row is of a Def under [2], closed.
pub open_conditions : FirstConditions open_steps
unfolding code join_dim rank row_shape join_dims join_longer join_ends join_closing join_shapes code_of superset_codes superset_of union join_types first_field row_scalar row_by step
open_conditions = record {
  names-no-closing = (refl, (refl, (tt, (refl, (tt, tt)))));
  rows-no_open_def = as-worked RowsNoOpenDef open_steps [] (tt, (tt, (tt, (tt, (refl, tt)))));
  joins-alike = as-worked JoinsAlike open_steps [] (tt, (tt, (tt, (tt, (tt, tt)))));
}

-- ---- real arrays get through, and what the first half says of them

pub open_through : Through open_steps open_feeds open_real
unfolding fits real_step real_run
open_through = record { fit = (refl, (refl, (tt, (refl, (tt, tt))))); run = refl }

-- [?..] Num holds the shape 3, and the Def's row a scalar.
pub open_holds : EachHolds open_left open_real
open_holds =
    let makes : MakesAccepted open_check open_steps open_left = record { bytes = open_sheet; leaves = open_leaves } in
    first-half open_check open_steps open_left makes open_conditions open_feeds open_real open_through
