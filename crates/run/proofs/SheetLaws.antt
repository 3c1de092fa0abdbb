-- The whole sheet: all steps, the types left, and both buffers.
use Rattle.std.specs.Prelude.{Result, Ok, Err}
use Rattle.std.specs.Result.{IsErrAnd}
use Rattle.std.proofs.lemmas.Result.{err_from_is_err_and}
use Prim.Native.Nat.{ℕ, ◌+◌, ◌-◌, ◌≤◌, ◌<◌}
use native.Mathlib.Omega.{arith}
use mathlib.Core.Bool.{Bool, true, false, cond}
use mathlib.Core.List.{List, [], ◌++◌, map, reverse}
use mathlib.Core.Logic.{◌⊎◌, inr, ⊎_elim}
use mathlib.Core.Path.{◌≡◌, refl, sym, ◌∙◌, ap}
use lib.ListN.{length, take, drop, replicate, length-append, length-drop, length-replicate, length-reverse}
use lib.Seq.{length-take-le, drop_at}
use lib.Dec.{leb}
use borrow.Author.Tests.{le-leb, lt-ltb, le-ltb}
use Rattle.model.specs.Limits.{max_bytes}
use Rattle.model.specs.Refusals.{too_short}
use Rattle.model.specs.Types.{Ty}
use Rattle.format.specs.Reader.{Bytes, Read, got, stopped}
use Rattle.format.specs.ReaderLaws.{split}
use Rattle.format.specs.Records.{mark_bytes}
use Rattle.format.specs.Outcome.{Outcome, accepted, refused, Delivery, delivery, deliver}
use Rattle.limits.specs.Answers.{number_of}
use Rattle.limits.specs.declared.refusal.Refusal.{Refusal}
use Rattle.limits.specs.declared.refusal.Reason.TheVariants.{Overflow}
use Rattle.lent.specs.Written.{Written, delivered}
use Rattle.machine.specs.SheetLimits.{max_steps, max_stack, max_names, scratch_bytes}
use Rattle.machine.specs.Steps.{mark_of}
use Rattle.machine.proofs.Opcodes.{mark-two}
use Rattle.machine.specs.Run.{Stack}
use Rattle.machine.specs.Sheet.{State, fresh, work, written_from, work_from, sheet_from, sheet_run}
use Rattle.machine.proofs.SheetSteps.{placed-got, written-got, work-taken, sheet_from-end, sheet_from-over, sheet_from-step, sheet_from-stop}
use Rattle.machine.specs.Call.{Called, called, tally, write_types, first_zero, zeroed, at_front, left_with, hand_over, sheet_call}
use Rattle.machine.proofs.StepsTook.{took-step}
use Rattle.machine.specs.Written.{written_as, write_rest, write_step}
use Rattle.names.specs.Table.{InForce, HasNames}
use Rattle.names.specs.TableLaws.{none_in_force}
use Rattle.stack.specs.Stack.{Memory, memory, full_trays, size, Stacked, HasStack, NoneInTray, Keeps}
use Rattle.stack.proofs.StackLaws.{stacked-none, stacked-count, stacked-sizes}
use Rattle.stack.proofs.KeepsLaws.{trays_keep}
use Rattle.step.specs.Answers.{NameTable, name_table, StepsTo, Waits, StepsOrWaits}
use Rattle.step.specs.declared.Stepped.{Stepped}
use Rattle.run.specs.Answers.{called_of, InState, Going, ReadOn, Runs, Answers}
use Rattle.run.specs.declared.Left.{Left}
use Rattle.run.specs.declared.Reached.{Reached}

-- ---- the stack and the names of a state

-- there are such, wherever the types lie
module _ {st : State Stack} {m : Memory} {t : NameTable} {reached : Reached} (h : InState m t reached st) where
  state-has : HasStack m reached.count
  state-has = record { types = st.stack; stacked = h.stacked }

  state-names : HasNames m.sheet t.places t.bounds reached.named
  state-names = record { names = st.names; in_force = h.in_force }

  state-kept : {m₁ : Memory} → m₁.sheet ≡ m.sheet → Keeps m reached.count m₁ → InState m₁ t reached st
  state-kept same kept = record { stacked = kept st.stack h.stacked; in_force = rw same h.in_force; steps = h.steps }

-- and where there are, they are those of some state
module _ (m : Memory) (t : NameTable) (reached : Reached) (has : HasStack m reached.count) (names : HasNames m.sheet t.places t.bounds reached.named) where
  abbrev some-state : State Stack
  some-state = record { stack = has.types; names = names.names; taken = reached.taken }

  some-here : InState m t reached some-state
  some-here = record { stacked = has.stacked; in_force = names.in_force; steps = refl }

  pub some_state : (st : State Stack) × InState m t reached st
  some_state = (some-state, some-here)

-- where none lies in its tray, other trays may stand in their place
module _ {ends lengths s scratch : List ℕ} {count : ℕ} (none : NoneInTray ends count) where
  pub trays_kept : (small large : List ℕ) → Keeps (memory ends lengths s small scratch) count (memory ends lengths s large scratch)
  trays_kept small large = trays_keep ends lengths s small large scratch count none

  pub trays_has : (large : List ℕ) → (small : List ℕ) × HasStack (memory ends lengths s small scratch) count → HasStack (memory ends lengths s large scratch) count
  trays_has large (small, has) = record { types = has.types; stacked = trays_kept small large has.types has.stacked }

-- ---- all steps

-- no step ends where it begins
step-forth : (s : List ℕ) → Bytes s → (st st₁ : State Stack) (at n : ℕ) → at < length s → work_from s st at at ≡ got st₁ n → at < n
unfolding work_from
step-forth s small st st₁ at n more e =
    split (written_from s (length st.stack) st.names at at) e λ w m e₁ e₂.
    placed-got (work w st) at m e₂ λ _ reaches.
    written-got s (length st.stack) st.names at at e₁ λ e₃ _ _.
    let took = (took-step s small (length st.stack) at at w m e₃).bytes.is in
    let long = length-append (write_step w) (drop m s) in
    let mark = length-append (mark_bytes (mark_of (written_as w))) (write_rest w) in
    omega (arith, reaches, length-drop at s, length-drop m s, ap length took, long, mark, mark-two (written_as w))

-- Some steps from whatever state stack and names were of, among them some state.
pub record GoesOn (m₀ : Memory) (t₀ : NameTable) (from : Reached) (m : Memory) (t : NameTable) (reached : Reached) : Type 0 where
  pub some : (st : State Stack) × InState m₀ t₀ from st
  pub goes : (st : State Stack) → InState m₀ t₀ from st → Going (sheet_from m₀.sheet st from.at) m t reached

-- what they come to
abbrev pub RunsFrom : Memory → NameTable → Reached → Result Reached Refusal → Memory → NameTable → List ℕ → Type 0
RunsFrom m₀ t₀ from r m t out = (st : State Stack) → InState m₀ t₀ from st → Runs r m t out (sheet_from m₀.sheet st from.at)

-- how far a sheet has come by a step, when so many were taken
abbrev reached_by : Stepped → ℕ → Reached
reached_by w taken = record { at = w.at; count = w.count; named = w.named; taken = taken }

-- what is known of a step from whatever state
abbrev Stepping : Memory → NameTable → Reached → Result Stepped Refusal → Memory → NameTable → List ℕ → Type 0
Stepping m t reached r m₁ t₁ out =
    (st : State Stack) → Stacked m reached.count st.stack → InForce m.sheet t.places t.bounds reached.named st.names → StepsOrWaits r m₁ t₁ reached.at out st

-- none yet
pub goes_none : (m : Memory) (t : NameTable) (from : Reached) → HasStack m from.count → HasNames m.sheet t.places t.bounds from.named → GoesOn m t from m t from
goes_none m t from has names = record { some = (some-state m t from has names, some-here m t from has names); goes = λ st h. record { state = st; here = h; same = refl } }

module _ {m₀ : Memory} {t₀ : NameTable} {from : Reached} {m : Memory} {t : NameTable} {reached : Reached} (g : GoesOn m₀ t₀ from m t reached) where
  -- the 65th is refused
  pub goes_over : (out : List ℕ) → max_steps ≤ reached.taken → reached.at < length m.sheet → RunsFrom m₀ t₀ from (Err (record { 0 = Overflow; 1 = reached.at })) m t out
  goes_over out most more st h = let x = g.goes st h in x.same ∙ sheet_from-over m.sheet x.state reached.at (omega (arith, x.here.steps)) more

  -- one step more, by which the same sheet is read
  module _ (few : reached.taken < max_steps) (more : reached.at < length m.sheet) (m₁ : Memory) (t₁ : NameTable) (kept : m₁.sheet ≡ m.sheet) (out : List ℕ) where
    from-kept : (st : State Stack) {o : Read (State Stack)} → work_from m₁.sheet st reached.at reached.at ≡ o → work_from m.sheet st reached.at reached.at ≡ o
    from-kept st e = sym (ap (λ s. work_from s st reached.at reached.at) kept) ∙ e

    module _ (w : Stepped) (to : Stepping m t reached (Ok w) m₁ t₁ out) where
      pub goes_on : (w.at ≡ reached.at → ⊥) → GoesOn m₀ t₀ from m₁ t₁ (reached_by w (reached.taken + 1))
      goes_on on = record { some = g.some; goes = λ st h. go (g.goes st h) }
        where
          go : {o : Read (State Stack)} → Going o m t reached → Going o m₁ t₁ (reached_by w (reached.taken + 1))
          go {o} x = ⊎_elim (λ steps. next steps) (λ waits. absurd (on waits.0.answer)) (to x.state x.here.stacked x.here.in_force)
            where
              next : StepsTo (Ok w) m₁ t₁ (work_from m₁.sheet x.state reached.at reached.at) → Going o m₁ t₁ (reached_by w (reached.taken + 1))
              next (st, e, stacked, force) = record {
                state = st;
                here = record { stacked = stacked; in_force = force; steps = omega (arith, work-taken m₁.sheet x.state st reached.at reached.at w.at e, x.here.steps) };
                same = x.same ∙ sheet_from-step m.sheet x.state reached.at st w.at (omega (arith, x.here.steps)) more (from-kept x.state e) ∙ ap (λ s. sheet_from s st w.at) (sym kept);
              }

      -- it waits: it is to be worked yet
      pub goes_waits : Bytes m.sheet → w.at ≡ reached.at → RunsFrom m₀ t₀ from (Ok (reached_by w reached.taken)) m₁ t₁ out
      goes_waits small stays st₀ h₀ = go (g.goes st₀ h₀)
        where
          go : {o : Read (State Stack)} → Going o m t reached → ReadOn m₁ t₁ (reached_by w reached.taken) out o
          go {o} x = ⊎_elim (λ steps. next steps) (λ (waits, force). waiting waits force) (to x.state x.here.stacked x.here.in_force)
            where
              next : StepsTo (Ok w) m₁ t₁ (work_from m₁.sheet x.state reached.at reached.at) → ReadOn m₁ t₁ (reached_by w reached.taken) out o
              next (st, e, stacked, force) = absurd (omega (arith, step-forth m.sheet small x.state st reached.at w.at more (from-kept x.state e)))

              waiting : Waits m₁ w.count w.at reached.at out x.state.stack → InForce m₁.sheet t₁.places t₁.bounds w.named x.state.names
                  → ReadOn m₁ t₁ (reached_by w reached.taken) out o
              waiting waits force = record {
                going = record {
                  state = x.state;
                  here = record { stacked = waits.stacked; in_force = force; steps = x.here.steps };
                  same = x.same ∙ ap (λ s. sheet_from s x.state reached.at) (sym kept) ∙ ap (λ n. sheet_from m₁.sheet x.state n) (sym stays);
                };
                ends = inr (inr waits.short);
              }

    -- it is refused: the exit of a `?`
    pub goes_stops : (r : Refusal) → Stepping m t reached (Err r) m₁ t₁ out → (q : Result Reached Refusal) → IsErrAnd q (λ e. e ≡ r) → RunsFrom m₀ t₀ from q m₁ t₁ out
    goes_stops r to q is st₀ h₀ = let (y, same, e) = err_from_is_err_and q is in rw (same, e) (go (g.goes st₀ h₀))
      where
        go : {o : Read (State Stack)} → Going o m t reached → o ≡ stopped (number_of r.0) r.1
        go {o} x = ⊎_elim (λ steps. next steps) (λ waits. absurd waits) (to x.state x.here.stacked x.here.in_force)
          where
            next : work_from m₁.sheet x.state reached.at reached.at ≡ stopped (number_of r.0) r.1 → o ≡ stopped (number_of r.0) r.1
            next e = x.same ∙ sheet_from-stop m.sheet x.state reached.at (number_of r.0) r.1 (omega (arith, x.here.steps)) more (from-kept x.state e)

-- ---- what a part of them comes to

-- at first stack and names are empty, whatever the trays and the scratch hold: zeroes for so many places, as a call begins with them
abbrev places_for : ℕ → List ℕ
places_for n = replicate {A = ℕ} n 0

abbrev pub start : Reached
start = record { at = 0; count = 0; named = 0; taken = 0 }

module _ (lengths s trays scratch : List ℕ) (asked : (max_stack ≤ length lengths) × (scratch_bytes ≤ length scratch)) where
  abbrev Begun : Memory
  Begun = memory (places_for max_stack) lengths s trays scratch

  abbrev Unnamed : NameTable
  Unnamed = name_table (places_for max_names) (places_for max_names)

  pub state_fresh : InState Begun Unnamed start (fresh [])
  state_fresh =
      let ended : max_stack ≤ length (places_for max_stack) = omega (arith, length-replicate {A = ℕ} max_stack 0) in
      let kept : max_names ≤ length (places_for max_names) = omega (arith, length-replicate {A = ℕ} max_names 0) in
      record {
        stacked = stacked-none Begun asked.1 ended asked.0;
        in_force = none_in_force s (places_for max_names) (places_for max_names) kept kept;
        steps = refl;
      }

-- the types left where no steps are
run-left : (s : List ℕ) (st : State Stack) (at : ℕ) → length s ≤ at → sheet_from s (fresh []) 0 ≡ sheet_from s st at → sheet_run s ≡ accepted (reverse st.stack)
unfolding sheet_run
run-left s st at h e = rw (e ∙ sheet_from-end s st at h)

-- what is known where the rest of the sheet is to be run from a place, with the stack of some state, and where types are left
abbrev pub OnFrom : Memory → NameTable → Reached → Type 0 → Type 0
OnFrom m t reached C = (st : State Stack) → InState m t reached st → sheet_from m.sheet (fresh []) 0 ≡ sheet_from m.sheet st reached.at → C

abbrev pub LeftFrom : Memory → ℕ → Type 0 → Type 0
LeftFrom m count C = (ts : Stack) → Stacked m count ts → sheet_run m.sheet ≡ accepted (reverse ts) → C

-- at the end of the sheet its types are left
pub left_at_end : {m : Memory} {t : NameTable} {reached : Reached} {C : Type 0} → length m.sheet ≤ reached.at → LeftFrom m reached.count C → OnFrom m t reached C
left_at_end {m} {t} {reached} end f st h same = f st.stack h.stacked (run-left m.sheet st reached.at end same)

-- and where the types lie elsewhere the rest is as it was
pub on_kept : {m m₁ : Memory} {t : NameTable} {reached : Reached} {C : Type 0} → m₁.sheet ≡ m.sheet → Keeps m reached.count m₁ → OnFrom m₁ t reached C → OnFrom m t reached C
on_kept {m} {m₁} {t} {reached} sheet kept f st h same =
    f st (state-kept h sheet kept) (rw sheet same)

-- the steps from a state
module _ {m₀ : Memory} {t₀ : NameTable} {from : Reached} {m : Memory} {t : NameTable} {out : List ℕ} where
  module _ {reached : Reached} (ran : RunsFrom m₀ t₀ from (Ok reached) m t out) where
    pub ran_has : {st : State Stack} → InState m₀ t₀ from st → HasStack m reached.count × HasNames m.sheet t.places t.bounds reached.named
    ran_has {st} h = let here = (ran st h).going.here in (state-has here, state-names here)

    pub ran_on : {C : Type 0} {st : State Stack} → InState m₀ t₀ from st → sheet_from m.sheet (fresh []) 0 ≡ sheet_from m₀.sheet st from.at → OnFrom m t reached C → C
    ran_on {C} {st} h all f = let g = (ran st h).going in f g.state g.here (all ∙ g.same)

    -- trays and a buffer that have room for any type do not end them
    pub ran_whole : {C : Type 0} {st : State Stack} → InState m₀ t₀ from st → sheet_from m.sheet (fresh []) 0 ≡ sheet_from m₀.sheet st from.at
        → full_trays ≤ length m.trays → max_bytes ≤ length out → LeftFrom m reached.count C → C
    ran_whole {C} {st} h all trays-room room f =
        ⊎_elim (λ end. ran_on h all (left_at_end end f)) (λ short. absurd (⊎_elim (λ less. omega arith) (λ less. omega arith) short)) (ran st h).ends

-- a refusal: the exit of a `?`
pub unran : {m₀ : Memory} {t₀ : NameTable} {from : Reached} {st : State Stack} (s : List ℕ) (r : Refusal)
    → ((st : State Stack) → InState m₀ t₀ from st → sheet_from m₀.sheet st from.at ≡ stopped (number_of r.0) r.1)
    → InState m₀ t₀ from st → sheet_from s (fresh []) 0 ≡ sheet_from m₀.sheet st from.at
    → (q : Result Left Refusal) → IsErrAnd q (λ e. e ≡ r) → (result lengths : List ℕ) → Answers q result lengths s result
unfolding sheet_run hand_over
unran {st = st} s r ran h all q is result lengths =
    let (y, same, e) = err_from_is_err_and q is in
    rw (same, e) (record { called = rw (all ∙ ran st h); measured = tt })

-- ---- the types left

module _ (size : ℕ) (us : List Ty) (result out x : List ℕ) where
  -- what a delivery of their bytes comes to where they have room, or not, and what handing over does
  abbrev Handed : Bool → Called
  Handed b = cond b (called (accepted (tally (length us) (length (write_types us)))) (at_front (write_types us) result) x) (called (refused too_short size) result x)

  abbrev Delivered : Bool → Delivery
  Delivered b = cond b (delivery (accepted (length (write_types us))) (at_front (write_types us) result)) (delivery (refused too_short 0) result)

  -- of a count that is known to be theirs
  handed-count : {n count : ℕ} → length us ≡ count → delivery (accepted n) out ≡ deliver (accepted (write_types us)) result → called (accepted (tally count n)) out x ≡ hand_over size (accepted us) result x
  unfolding deliver hand_over
  handed-count {n} h e = rw (← h) (go (leb (length (write_types us)) (length result)) e)
    where
      go : (b : Bool) → delivery (accepted n) out ≡ Delivered b → called (accepted (tally (length us) n)) out x ≡ Handed b
      go true e =
          let a : n ≡ length (write_types us) = cc in
          let b : out ≡ at_front (write_types us) result = cc in
          rw (a, b)
      go false e = let z : ◌≡◌ {A = ℕ} 0 1 = cc in absurd (omega arith)

  not-handed : {k p : ℕ} → delivery (refused k p) out ≡ deliver (accepted (write_types us)) result → called (refused k size) out x ≡ hand_over size (accepted us) result x
  unfolding deliver hand_over
  not-handed {k} {p} e = go (leb (length (write_types us)) (length result)) e
    where
      go : (b : Bool) → delivery (refused k p) out ≡ Delivered b → called (refused k size) out x ≡ Handed b
      go true e = let z : ◌≡◌ {A = ℕ} 0 1 = cc in absurd (omega arith)
      go false e =
          let a : k ≡ too_short = cc in
          let b : out ≡ result = cc in
          rw (a, b)

-- how long each of them is
handed-sizes : (m : Memory) (count : ℕ) {ts : Stack} → Stacked m count ts → (us : List Ty) → accepted (reverse ts) ≡ accepted us → take count m.lengths ≡ map size us
handed-sizes m count {ts} h us e = let x : reverse ts ≡ us = cc in rw (← x) (stacked-sizes m count h)

-- they go to the result, or it is too short for them
module _ (m : Memory) (count : ℕ) (result out : List ℕ) where
  abbrev Delivers : Written → Type 0
  Delivers w = (ts : Stack) → Stacked m count ts → delivered w out ≡ deliver (accepted (write_types (reverse ts))) result

  pub handed : (bytes : ℕ) → Delivers (Ok bytes) → LeftFrom m count (Answers (Ok (record { types = count; bytes = bytes })) out m.lengths m.sheet result)
  handed bytes made ts h e =
      let many : length (reverse ts) ≡ count = length-reverse ts ∙ stacked-count m count h in
      record {
        called = rw e (handed-count (length m.sheet) (reverse ts) result out [] many (made ts h));
        measured = λ us is. handed-sizes m count h us (sym e ∙ is);
      }

  pub not_handed : (r : Refusal) → Delivers (Err r) → LeftFrom m count (Answers (Err (record { 0 = r.0; 1 = length m.sheet })) out m.lengths m.sheet result)
  not_handed r made ts h e = record { called = rw e (not-handed (length m.sheet) (reverse ts) result out [] (made ts h)); measured = tt }

-- where the result has room, the types left stand in it
left-whole : (size : ℕ) (us : List Ty) (result x : List ℕ) → length (write_types us) ≤ length result → left_with us result x ≡ hand_over size (accepted us) result x
unfolding hand_over
left-whole size us result x h = rw (le-leb (length (write_types us)) (length result) h)

-- a sheet without a step leaves none
module _ (s result lengths : List ℕ) (none : length s ≤ 0) where
  empty_run : sheet_run s ≡ accepted []
  empty_run = run-left s (fresh []) 0 none refl

  pub no_steps : Answers (Ok (record { types = 0; bytes = 0 })) result lengths s result
  unfolding write_types
  no_steps = record { called = rw empty_run (left-whole (length s) [] result [] (omega arith)); measured = λ ts is. nothing_else ts (sym empty_run ∙ is) }
    where
      nothing_else : (ts : List Ty) → accepted [] ≡ accepted ts → [] ≡ map size ts
      nothing_else ts e = let x : [] ≡ ts = cc in rw (← x)

-- ---- both buffers

-- an outcome beside another scratch
abbrev beside : List ℕ → Called → Called
beside z (called o result scratch) = called o result z

beside-handed : (size : ℕ) (o : Outcome (List Ty)) (result x z : List ℕ) → beside z (hand_over size o result x) ≡ hand_over size o result z
unfolding hand_over
beside-handed size (refused k p) result x z = refl
beside-handed size (accepted ts) result x z = go (leb (length (write_types ts)) (length result))
  where
    go : (b : Bool) → beside z (Handed size ts result [] x b) ≡ Handed size ts result [] z b
    go true = refl
    go false = refl

module _ (s result scratch : List ℕ) where
  pub call_short : length scratch < scratch_bytes → called (refused too_short 0) result scratch ≡ sheet_call s result scratch
  unfolding sheet_call
  call_short h = rw (lt-ltb (length scratch) scratch_bytes h)

  -- a call that ran on the front of the scratch, which was cleared afterwards
  module _ (r : Result Left Refusal) (out front after : List ℕ) (h : scratch_bytes ≤ length scratch) (kept : length front ≡ length (take scratch_bytes scratch)) where
    -- what stands behind the bytes asked for is not looked at
    zeroed_same : zeroed (front ++ drop scratch_bytes scratch) ≡ zeroed scratch
    unfolding zeroed first_zero
    zeroed_same =
        let long : length front ≡ scratch_bytes = kept ∙ length-take-le scratch_bytes scratch h in
        ap (λ x. replicate scratch_bytes 0 ++ x) (drop_at front (drop scratch_bytes scratch) scratch_bytes long)

    pub call_runs : called_of r out [] ≡ hand_over (length s) (sheet_run s) result [] → after ≡ zeroed (front ++ drop scratch_bytes scratch)
        → called_of r out after ≡ sheet_call s result scratch
    unfolding sheet_call
    call_runs e cleared =
        rw (le-ltb (length scratch) scratch_bytes h, cleared, zeroed_same)
        (ap (beside (zeroed scratch)) e ∙ beside-handed (length s) (sheet_run s) result [] (zeroed scratch))
