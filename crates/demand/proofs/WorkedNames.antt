-- Demand 3 of sheets with names (document 02, 2026-06). One declares A as [3], uses it, puts [?] and pervades: both halves speak of it as of
-- the puts that it comes to, and a sheet of the same two puts without names, in the other order, is another order of it. The second uses A,
-- declared as [3], declares it again as [4] and uses it once more: the first put keeps its type, so that [3] meets [4]: a mismatch, as no
-- real arrays get through.
use Rattle.std.specs.Prelude.{ℕ, List, [], ◌∷◌, ◌++◌, ◌≡◌, refl, length}
use Rattle.std.proofs.Common.{arith, sym, ◌∙◌, ap}
use Rattle.model.specs.Refusals.{unpervaded}
use Rattle.model.specs.Types.{static, Ty}
use Rattle.format.specs.Reader.{byte, judged, number, bytes_of}
use Rattle.format.specs.Records.{code, kind_of, write_shape, write_scalar, write_ty, read_mark, read_dim, read_dims, shape_from, read_name, scalar_from, read_ty}
use Rattle.format.specs.Outcome.{accepted, shape_record}
use Rattle.rules.specs.Order.{code_of}
use Rattle.rules.specs.Scalars.{superset_codes, superset_of, union}
use Rattle.rules.specs.Pervade.{against_absent, together, walk, pervade_closing}
use Rattle.rules.specs.PervadeInSheets.{in_sheets_at, pervade_in_sheets}
use Rattle.machine.specs.SheetLimits.{scratch_bytes, result_bytes}
use Rattle.machine.specs.Steps.{Step}
use Rattle.machine.specs.Run.{gives, refuses, pervade_types, step, steps}
use Rattle.machine.specs.Written.{TableName, working, declaring, using_name, write_steps, TableNameWithin}
use Rattle.machine.specs.Names.{unfolded, SheetOf}
use Rattle.machine.specs.Sheet.{opcode_from, name_from, argument_from, step_from, written_from, work_from, sheet_more, sheet_from, sheet_run}
use Rattle.machine.specs.Call.{write_types}
use Rattle.machine.specs.Real.{fits, real_pervade, Feeds, real_step, real_run, Through}
use Rattle.machine.specs.Conditions.{RowsNoOpenDef, JoinsAlike, puts, count_closing}
use Rattle.machine.proofs.WrittenOut.{sheet-of-out}
use Rattle.demand.specs.Claims.{answer_to, Leaves, Mismatched, verdict_of, MakesAccepted, FirstConditions, EachHolds, SecondConditions, Regrouped}
use Rattle.demand.proofs.Calls.{run-leaves}
use Rattle.demand.proofs.Demand.{first-half, mismatch_exactly, same_verdict, same_shape}
use Rattle.demand.proofs.WorkedWith.{nums, one_size, any_size, within3, within4, are-bytes, long-enough, as-worked}
use Rattle.demand.proofs.WorkedSecond.{put3, put?, pervade0, putting, pervading0, unlike_steps, turned_steps, turned_bytes, check_with, within?, conditions, turned-conditions, unlike-turned, unlike-none, mismatch_verdicts}

-- ---- how they are written

abbrev A : TableName
A = 0x41 ∷ []

A-given : TableNameWithin A
A-given = (omega arith, (omega arith, ((omega arith, omega arith), tt)))

abbrev declaring_a : List ℕ → List ℕ
declaring_a r = 0x4E ∷ 0x4D ∷ 0x01 ∷ 0x41 ∷ r

abbrev using_a : List ℕ
using_a = 0x55 ∷ 0x53 ∷ 0x01 ∷ 0x41 ∷ []

-- ---- the sheets

-- A is [3]; A [?]
abbrev pub named_steps : List Step
named_steps = put3 ∷ put? ∷ pervade0 ∷ []

abbrev pub named_bytes : List ℕ
named_bytes = declaring_a (one_size 3) ++ (using_a ++ (putting any_size ++ pervading0))

-- [?] [3]
abbrev pub plain_steps : List Step
plain_steps = put? ∷ put3 ∷ pervade0 ∷ []

abbrev pub plain_bytes : List ℕ
plain_bytes = putting any_size ++ (putting (one_size 3) ++ pervading0)

-- A is [3]; A; A is [4]; A: the steps are those of [3] [4]
abbrev pub twice_bytes : List ℕ
twice_bytes = declaring_a (one_size 3) ++ (using_a ++ (declaring_a (one_size 4) ++ (using_a ++ pervading0)))

pub named-sheet : SheetOf named_bytes named_steps
unfolding bytes_of code write_shape write_scalar write_ty write_steps unfolded
named-sheet = record {
  written = declaring A (nums (static 3 ∷ [])) ∷ using_name A ∷ working put? ∷ working pervade0 ∷ [];
  bytes = refl;
  within = ((A-given, within3), (A-given, (within?, (tt, tt))));
  few = omega arith;
  names_hold = ((refl, refl, (refl, refl, (refl, refl, (refl, refl, tt)))));
  comes_to = refl;
}

pub plain-sheet : SheetOf plain_bytes plain_steps
unfolding bytes_of code write_shape write_scalar write_ty write_steps
plain-sheet = sheet-of-out plain_bytes plain_steps refl (within?, (within3, (tt, tt))) (omega arith)

pub twice-sheet : SheetOf twice_bytes unlike_steps
unfolding bytes_of code write_shape write_scalar write_ty write_steps unfolded
twice-sheet = record {
  written = declaring A (nums (static 3 ∷ [])) ∷ using_name A ∷ declaring A (nums (static 4 ∷ [])) ∷ using_name A ∷ working pervade0 ∷ [];
  bytes = refl;
  within = ((A-given, within3), (A-given, ((A-given, within4), (A-given, (tt, tt)))));
  few = omega arith;
  names_hold = ((refl, refl, (refl, refl, (refl, refl, (refl, refl, (refl, refl, tt))))));
  comes_to = refl;
}

-- ---- they keep the conditions

pub named-conditions : SecondConditions (check_with named_bytes) named_steps
named-conditions = conditions named_bytes named_steps (are-bytes named_bytes refl) named-sheet refl (tt, (tt, (refl, tt))) refl

pub plain-conditions : SecondConditions (check_with plain_bytes) plain_steps
plain-conditions = conditions plain_bytes plain_steps (are-bytes plain_bytes refl) plain-sheet refl (tt, (tt, (refl, tt))) refl

pub twice-conditions : SecondConditions (check_with twice_bytes) unlike_steps
twice-conditions = conditions twice_bytes unlike_steps (are-bytes twice_bytes refl) twice-sheet refl (tt, (tt, (refl, tt))) refl

-- names no closing sizes, takes no row, joins nothing
pub named-first : FirstConditions named_steps
unfolding code code_of superset_codes superset_of union together walk pervade_closing in_sheets_at pervade_in_sheets pervade_types step
named-first = record {
  names-no-closing = (refl, (refl, (tt, tt)));
  rows-no_open_def = as-worked RowsNoOpenDef named_steps [] (tt, (tt, (tt, tt)));
  joins-alike = as-worked JoinsAlike named_steps [] (tt, (tt, (tt, tt)));
}

-- ---- the first half

-- the type left: [3] Num
abbrev pub named_left : List Ty
named_left = nums (static 3 ∷ []) ∷ []

named-run : sheet_run named_bytes ≡ accepted named_left
unfolding byte judged number code kind_of read_mark read_dim read_dims shape_from read_name scalar_from read_ty code_of superset_codes superset_of union against_absent together walk
    pervade_closing in_sheets_at pervade_in_sheets pervade_types step steps opcode_from name_from argument_from step_from written_from work_from sheet_more sheet_from sheet_run
named-run = refl

named-length : length (write_types named_left) ≡ 15
unfolding bytes_of code write_shape write_scalar write_ty write_types
named-length = refl

pub named-leaves : Leaves (check_with named_bytes) named_left
named-leaves = run-leaves (check_with named_bytes) (long-enough scratch_bytes) named_left named-run (within3, tt) (omega (arith, named-length, long-enough (result_bytes 1)))

-- "Real arrays are then chosen for each use, as for a put": 3 for the use of A, 1 for the put.
abbrev pub named_feeds : Feeds named_steps
named_feeds = (3 ∷ [], (1 ∷ [], (tt, tt)))

pub named_through : Through named_steps named_feeds ((3 ∷ []) ∷ [])
unfolding fits real_pervade real_step real_run
named_through = record { fit = (refl, (refl, (tt, tt))); run = refl }

-- The type left holds the shape of the real array there.
pub named_holds : EachHolds named_left ((3 ∷ []) ∷ [])
named_holds =
    let makes : MakesAccepted (check_with named_bytes) named_steps named_left = record { bytes = named-sheet; leaves = named-leaves } in
    first-half (check_with named_bytes) named_steps named_left makes named-first named_feeds ((3 ∷ []) ∷ []) named_through

-- ---- the second half

abbrev named-regrouped : Regrouped (check_with named_bytes) (check_with plain_bytes) named_steps plain_steps
named-regrouped = record { one = named-conditions; other = plain-conditions; same-puts = λ t. omega arith }

-- Another order without names gets the same verdict and the same shape.
pub named_verdicts : (verdict_of (answer_to (check_with named_bytes)) ≡ gives tt) × (verdict_of (answer_to (check_with plain_bytes)) ≡ gives tt)
named_verdicts =
    let first : verdict_of (answer_to (check_with named_bytes)) ≡ gives tt = ap verdict_of named-leaves.outcome in
    let plain = same_verdict (check_with named_bytes) (check_with plain_bytes) named_steps plain_steps named-regrouped in
    (first, sym plain ∙ first)

pub plain-shape : (u : Ty) × Leaves (check_with plain_bytes) (u ∷ []) × (shape_record (nums (static 3 ∷ [])) ≡ shape_record u)
plain-shape =
    let closing : count_closing (puts named_steps) ≡ 0 = refl in
    same_shape (check_with named_bytes) (check_with plain_bytes) named_steps plain_steps named-regrouped (nums (static 3 ∷ [])) named-leaves (omega (arith, closing))

-- A name declared twice: mismatch, as of the same puts in the other order without names.
pub twice_verdict : verdict_of (answer_to (check_with twice_bytes)) ≡ refuses unpervaded
twice_verdict =
    let regrouped : Regrouped (check_with twice_bytes) (check_with turned_bytes) unlike_steps turned_steps = record { one = twice-conditions; other = turned-conditions; same-puts = unlike-turned } in
    same_verdict (check_with twice_bytes) (check_with turned_bytes) unlike_steps turned_steps regrouped ∙ mismatch_verdicts.1

-- and no real arrays get through, as of [3] and [4] without names
pub twice_mismatched : Mismatched (check_with twice_bytes)
twice_mismatched = (mismatch_exactly (check_with twice_bytes) unlike_steps twice-conditions).1 unlike-none
