-- That the words of demand 3 mean what they say: an accepted sheet is the bytes of one written list and of one only, and what that comes to
-- is worked to the types left; and a well-formed sheet is the bytes of one that comes to steps that never lack types nor have too many.
use Rattle.std.specs.Prelude.{ℕ, ◌≤◌, List, [], reverse, ◌≡◌, length}
use Rattle.std.proofs.Common.{sym, ◌∙◌, ap}
use Rattle.model.specs.Types.{Ty}
use Rattle.format.specs.Reader.{Bytes}
use Rattle.machine.specs.SheetLimits.{scratch_bytes, result_bytes}
use Rattle.machine.specs.Steps.{Step}
use Rattle.machine.specs.Names.{unfolded, SheetOf}
use Rattle.machine.specs.Run.{gives, aside, steps, bottom_first}
use Rattle.machine.specs.Sheet.{sheet_run}
use Rattle.machine.specs.WellFormed.{WellFormed, types_left, Heights}
use Rattle.machine.proofs.StepsTook.{well_formed-took}
use Rattle.machine.proofs.StepsReads.{write_steps-same}
use Rattle.machine.proofs.Sheets.{sheet-steps, accepted-steps, skim-steps, left-within}
use Rattle.demand.specs.Claims.{Check, IsAccepted, MakesAccepted}
use Rattle.demand.proofs.Calls.{call-accepted}

-- ---- accepted

-- A sheet that the call accepts, whatever the two buffers held, is the bytes of a written list; the steps that it comes to are worked, from
-- the empty stack, to the types left.
pub accepted-sheet : (c : Check) → Bytes c.sheet → IsAccepted c
    → (xs : List Step) × (ts : List Ty) × MakesAccepted c xs ts × (steps xs [] ≡ gives (reverse ts))
accepted-sheet c small a =
    let (ts, b) = call-accepted c a in
    let (xs, h, k) = accepted-steps c.sheet small ts b.run in
    let within = (left-within c.sheet xs ts h b.run).1 in
    (xs, ts, record { bytes = h; leaves = record { within = within; outcome = rw (b.tallied, b.in_front, b.zero-after) a.outcome } }, k)

-- There is one such written list, and so one list of steps.
pub one_written : (s : List ℕ) (xs ys : List Step) (h : SheetOf s xs) (k : SheetOf s ys) → h.written ≡ k.written
one_written s xs ys h k = write_steps-same h.written k.written h.within k.within (sym h.bytes ∙ k.bytes)

pub one_list : (s : List ℕ) (xs ys : List Step) → SheetOf s xs → SheetOf s ys → xs ≡ ys
one_list s xs ys h k = sym h.comes_to ∙ ap (unfolded []) (one_written s xs ys h k) ∙ k.comes_to

-- The bytes of a sheet get what its steps get, the place aside: the same types left, bottom first, or the same refusal.
pub sheet-of-steps : (s : List ℕ) (xs : List Step) → SheetOf s xs → aside (sheet_run s) ≡ bottom_first (steps xs [])
sheet-of-steps = sheet-steps

-- ---- well-formed

-- A well-formed sheet is the bytes of a written list that comes to steps none of which lacks types or lays down one too many, and the other
-- way round.
pub well_formed-steps : (s result scratch : List ℕ) → Bytes s → (xs : List Step) → WellFormed s result scratch xs → SheetOf s xs × Heights xs 0
well_formed-steps = well_formed-took

pub steps_well_formed : (s result scratch : List ℕ) (xs : List Step) → SheetOf s xs → Heights xs 0
    → result_bytes (types_left xs) ≤ length result → scratch_bytes ≤ length scratch
    → WellFormed s result scratch xs
steps_well_formed s result scratch xs h k r c = record { written = h.written; read = skim-steps s xs h k; comes_to = h.comes_to; result_holds = r; scratch_holds = c }
