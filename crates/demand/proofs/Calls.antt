-- What an accepted call says of its run, and the call's answer from the run of a list of steps.
use Rattle.std.specs.Prelude.{ℕ, ◌≤◌, List, [], ◌∷◌, ◌≡◌, length, take, drop}
use Rattle.std.proofs.Common.{arith, sym, ◌∙◌, ap, take_at}
use Rattle.std.proofs.Math.Seq.{take-append_seam}
use Rattle.model.specs.Refusals.{unpervaded}
use Rattle.model.specs.Types.{Ty}
use Rattle.model.specs.Within.{All, Within}
use Rattle.format.specs.Outcome.{Outcome, accepted, refused}
use Rattle.machine.specs.SheetLimits.{scratch_bytes, result_bytes}
use Rattle.machine.specs.Steps.{Step}
use Rattle.machine.specs.Names.{SheetOf}
use Rattle.machine.specs.Run.{gives, refuses, aside, steps, bottom_first}
use Rattle.machine.specs.Sheet.{sheet_run}
use Rattle.machine.specs.Call.{tally, called, write_types, zeroed, at_front}
use Rattle.machine.specs.WellFormed.{types_left}
use Rattle.demand.specs.Claims.{Check, answer_to, IsAccepted, Leaves, Mismatched, MakesAccepted}
use Rattle.machine.proofs.CallLaws.{Ways, short_scratch, run_refused, short_result, types_written, call_writes, call-refuses, call_ways, left-fits}
use Rattle.machine.proofs.StepsWithin.{write_types-same}
use Rattle.machine.proofs.Sheets.{sheet-steps, left-within}

-- ---- an accepted call

-- What an accepted call says.
pub record AcceptedBy (c : Check) (a : IsAccepted c) (ts : List Ty) : Type 0 where
  pub run : sheet_run c.sheet ≡ accepted ts
  pub tallied : tally (length ts) (length (write_types ts)) ≡ a.left
  pub in_front : at_front (write_types ts) c.result ≡ a.result-after
  pub zero-after : zeroed c.scratch ≡ a.scratch_after

pub call-accepted : (c : Check) (a : IsAccepted c) → (ts : List Ty) × AcceptedBy c a ts
call-accepted c a = go (call_ways c.sheet c.result c.scratch)
  where
    e : answer_to c ≡ called (accepted a.left) a.result-after a.scratch_after
    e = a.outcome

    go : Ways c.sheet c.result c.scratch → (ts : List Ty) × AcceptedBy c a ts
    go (short_scratch l w) = let h = e in let z : ◌≡◌ {A = ℕ} 0 1 = cc in absurd (omega arith)
    go (run_refused l k p r w) = let h = e in let z : ◌≡◌ {A = ℕ} 0 1 = cc in absurd (omega arith)
    go (short_result l ts r m w) = let h = e in let z : ◌≡◌ {A = ℕ} 0 1 = cc in absurd (omega arith)
    go (types_written l ts r room w) = let h = sym w ∙ e in (ts, record { run = r; tallied = cc; in_front = cc; zero-after = cc })

-- Types that stand at the front of a buffer are told by their number and the number of their bytes.
front-told : (ts us : List Ty) (buffer : List ℕ) → All Within ts → All Within us
    → tally (length us) (length (write_types us)) ≡ tally (length ts) (length (write_types ts)) → at_front (write_types us) buffer ≡ at_front (write_types ts) buffer
    → us ≡ ts
front-told ts us buffer v w a e =
    let n : length us ≡ length ts = cc in
    let b : length (write_types us) ≡ length (write_types ts) = cc in
    let first = take_at (write_types us) (drop (length (write_types us)) buffer) (length (write_types ts)) b in
    let second = take-append_seam (write_types ts) (drop (length (write_types ts)) buffer) in
    write_types-same us ts w v n (sym first ∙ ap (take (length (write_types ts))) e ∙ second)

-- The types that an accepted call leaves are those of its run.
pub leaves_run : (c : Check) (xs : List Step) (ts : List Ty) → MakesAccepted c xs ts → sheet_run c.sheet ≡ accepted ts
leaves_run c xs ts m = go (call-accepted c a)
  where
    a : IsAccepted c
    a = record { left = tally (length ts) (length (write_types ts)); result-after = at_front (write_types ts) c.result; scratch_after = zeroed c.scratch; outcome = m.leaves.outcome }

    go : (us : List Ty) × AcceptedBy c a us → sheet_run c.sheet ≡ accepted ts
    go (us, b) =
        let within = (left-within c.sheet xs us m.bytes b.run).1 in
        b.run ∙ ap accepted (front-told ts us c.result m.leaves.within within b.tallied b.in_front)

-- ---- the call, with buffers that are long enough

aside-accepted : {A : Type 0} (o : Outcome A) (a : A) → aside o ≡ gives a → o ≡ accepted a
aside-accepted (accepted b) a e = cc
aside-accepted (refused k p) a e = let z : ◌≡◌ {A = ℕ} 0 1 = cc in absurd (omega arith)

aside-refused : {A C : Type 0} (o : Outcome A) (k : ℕ) → aside o ≡ refuses k → ((p : ℕ) → o ≡ refused k p → C) → C
aside-refused (accepted b) k e f = let z : ◌≡◌ {A = ℕ} 0 1 = cc in absurd (omega arith)
aside-refused (refused j p) k e f = let w : j ≡ k = cc in f p (rw w)

module _ (c : Check) (enough : scratch_bytes ≤ length c.scratch) where
  pub run-leaves : (ts : List Ty) → sheet_run c.sheet ≡ accepted ts → All Within ts → length (write_types ts) ≤ length c.result → Leaves c ts
  run-leaves ts e within room = record { within = within; outcome = call_writes c.sheet c.result c.scratch enough ts e room }

  pub run_mismatched : (p : ℕ) → sheet_run c.sheet ≡ refused unpervaded p → Mismatched c
  run_mismatched p e = record { place = p; outcome = call-refuses c.sheet c.result c.scratch enough unpervaded p e }

  module _ (xs : List Step) (sheet : SheetOf c.sheet xs) where
    pub call-leaves : result_bytes (types_left xs) ≤ length c.result → (t : Ty) → steps xs [] ≡ gives (t ∷ []) → Leaves c (t ∷ [])
    call-leaves room t e =
        let run : sheet_run c.sheet ≡ accepted (t ∷ []) = aside-accepted (sheet_run c.sheet) (t ∷ []) (sheet-steps c.sheet xs sheet ∙ ap bottom_first e) in
        let within = (left-within c.sheet xs (t ∷ []) sheet run).1 in
        run-leaves (t ∷ []) run within (omega (arith, left-fits c.sheet xs (t ∷ []) sheet run))

    pub call-mismatch : steps xs [] ≡ refuses unpervaded → Mismatched c
    call-mismatch e =
        aside-refused (sheet_run c.sheet) unpervaded (sheet-steps c.sheet xs sheet ∙ ap bottom_first e) λ p run.
        run_mismatched p run
