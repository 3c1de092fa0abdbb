-- One step, for each way out of it.
use Rattle.std.specs.Prelude.{Result, Ok, Err}
use Rattle.std.specs.Result.{IsErrAnd}
use Rattle.std.proofs.lemmas.Result.{err_from_is_err_and}
use Prim.Native.Nat.{ℕ, ◌+◌, ◌-◌, ◌≤◌, ◌<◌}
use native.Mathlib.Omega.{arith}
use mathlib.Core.Bool.{Bool}
use mathlib.Core.List.{List, [], ◌∷◌}
use mathlib.Core.Logic.{◌⊎◌, inl, inr, ⊎_elim}
use mathlib.Core.Option.{Option, none, some}
use mathlib.Core.Path.{◌≡◌, refl, sym, ◌∙◌, ap, subst}
use lib.ListN.{length, take, drop}
use borrow.Author.Tests.{le-leb, lt-leb}
use Rattle.model.specs.Refusals.{undeclared, too_many_names}
use Rattle.model.specs.Types.{Ty}
use Rattle.model.specs.Within.{Within}
use Rattle.format.specs.Reader.{Bytes, Read, got, stopped}
use Rattle.format.specs.Records.{write_ty}
use Rattle.format.specs.ReadWrite.{lone_write}
use Rattle.format.specs.Views.{Stands}
use Rattle.format.specs.Outcome.{Outcome, accepted, refused, mapped, lone}
use Rattle.limits.specs.Answers.{number_of}
use Rattle.limits.specs.declared.refusal.Refusal.{Refusal}
use Rattle.rules.specs.Types.{into_row, join_types}
use Rattle.validation.specs.CheckShape.{unsided}
use Rattle.validation.specs.Validate.{validate}
use Rattle.lent.specs.Written.{Written, Puts, Short}
use Rattle.machine.specs.SheetLimits.{max_stack, max_names}
use Rattle.machine.specs.Steps.{Step, takes, put, row, pervading, join, validating}
use Rattle.machine.specs.Run.{Ruling, gives, refuses, following, aside, Stack, onto, pervade_types, step, steps}
use Rattle.machine.proofs.RunLaws.{step-put}
use Rattle.machine.proofs.StepsTook.{took-step}
use Rattle.machine.specs.Written.{TableName, WrittenStep, written_as, working, declaring, using_name}
use Rattle.machine.specs.Names.{Names, type_in_force, declare, names_past}
use Rattle.machine.specs.Sheet.{State, after_step, placed, step_from, work_from}
use Rattle.machine.proofs.SheetSteps.{written-unread, written-unknown, written_crowded, written_read, work-unread, work_rule}
use Rattle.names.specs.Table.{NameStands, Declares, InForce, HasNames}
use Rattle.names.specs.TableLaws.{spans_forth, spans_there, spans_lone}
use Rattle.stack.specs.Stack.{Memory, size, Stacked, HasStack, Unpacked, Keeps, Takes}
use Rattle.stack.proofs.StackLaws.{stacked-count, stacked_top, stacked-below}
use Rattle.cursor.specs.Answers.{StepIs}
use Rattle.cursor.specs.declared.Step as cursor
use Rattle.cursor.specs.declared.Step.TheVariants.{Put as APut, Row as ARow, Pervading as APervading, Join as AJoin, Validating as AValidating, Declaring as ADeclaring, Using as AUsing}
use Rattle.tops.specs.Answers.{Workable, OfTop, OfTwo, at_start}
use Rattle.tops.proofs.TopLaws.{has_one, has-two, row_within, join-within, pervade-within, validated-within}
use Rattle.step.specs.Answers.{NameTable, name_table, Works, StepsTo, RuleWaits, StepWaits, StepsOrWaits, with_names, Ready, StepWorks, RuleWorks, UseWorks, NameKept, Ruled, LaysDown, after_rule}
use Rattle.step.specs.declared.Worked.{Worked}
use Rattle.step.specs.declared.Stepped.{Stepped}

-- ---- what a rule wrote takes the place of the types that it was made of

rule_wrote : {C : Type 0} (o : Outcome Ty) (out : List ℕ) {n : ℕ} → Puts (Ok n) out (mapped write_ty o) ⊎ Short (Ok n) out
    → ((t : Ty) → o ≡ accepted t → take n out ≡ write_ty t → n ≤ length out → C) → C
rule_wrote {C} o out {n} given f = ⊎_elim (λ puts. go o refl puts) (λ short. let z : ◌≡◌ {A = ℕ} 0 1 = cc in absurd (omega arith)) given
  where
    go : (x : Outcome Ty) → o ≡ x → Puts (Ok n) out (mapped write_ty x) → C
    go (refused k p) same (e, fits) = let z : ◌≡◌ {A = ℕ} 0 1 = cc in absurd (omega arith)
    go (accepted t) same (e, fits) = f t same (cc) fits

-- what was stored is what the rule made
module _ {m m₁ : Memory} {count k n : ℕ} {out : List ℕ} (at next : ℕ)
    (stored : (t : Ty) → k ≤ count → Within t → take n out ≡ write_ty t → Takes m count k t m₁) where
  pub laid_down : LaysDown m count k (Ok n) out at next (Ok (record { at = next; count = k + 1 })) m₁
  laid_down ts o h ruled =
      rule_wrote o out ruled.given λ t e bytes fits.
      inl (t ∷ drop (count - k) ts, rw e, stored t ruled.there (ruled.within t e) bytes ts h)

-- a type that was put
pub put_works : {m m₁ : Memory} {count : ℕ} {t : Ty} (at next : ℕ) → count < max_stack → Takes m count count t m₁
    → StepWorks (put t) at next m count (Ok (record { at = next; count = count + 1 })) m₁
put_works {m} {m₁} {count} {t} at next low takes ts h =
    let z : count - count ≡ 0 = omega arith in
    (t ∷ ts, rw (step-put t ts (omega (arith, stacked-count m count h, low))), rw z at (takes ts h))

-- ---- a rule on the types on top

has_kept : (m m₁ : Memory) (count : ℕ) → Keeps m count m₁ → HasStack m count → HasStack m₁ count
has_kept m m₁ count kept has = record { types = has.types; stacked = kept has.types has.stacked }

-- types on top that were unpacked may be worked on
pub workable : {m m₁ : Memory} {count few : ℕ} → Keeps m count m₁ → Unpacked few m₁.ends count → Ready few m count → Workable few m₁ count
workable {m} {m₁} {count} kept unpacked ready = record { enough = ready.enough; has = has_kept m m₁ count kept ready.has; unpacked = unpacked }

-- what is asked for before a rule's outcome is laid down
abbrev pub HasRuled : Memory → ℕ → ℕ → Written → List ℕ → Type 0
HasRuled m count k w out = ((s : List ℕ) × HasStack (record m { sheet = s }) count) × ((o : Outcome Ty) × Ruled count k w out o)

-- where they were unpacked, so that the stack lies otherwise
module _ {m m₁ : Memory} {count : ℕ} (kept : Keeps m count m₁) (w : Written) (out : List ℕ) where
  module _ (f : Ty → Outcome Ty) (within : (t : Ty) → Within t → (x : Ty) → f t ≡ accepted x → Within x) (ready : Ready 1 m count) (made : OfTop f m₁ count w out) where
    one_ruled : (t : Ty) (us : Stack) → Stacked m₁ count (t ∷ us) → Ruled count (count - 1) w out (f t)
    one_ruled t us h = record {
      within = within t (stacked_top m₁ count h).within;
      given = made t us h;
      low = omega (arith, h.few, ready.enough);
      there = omega arith;
    }

    ruled_one : HasRuled m₁ count (count - 1) w out
    ruled_one =
        let has = has_kept m m₁ count kept ready.has in
        ((m₁.sheet, has), has_one has.types has.stacked ready.enough λ t us e. (f t, one_ruled t us (rw e at has.stacked)))

    works_one : (x : Step) → ((t : Ty) (us : Stack) → step x (t ∷ us) ≡ onto us (aside (f t))) → (at n : ℕ) (r : Result Worked Refusal) (m₂ : Memory)
        → LaysDown m₁ count (count - 1) w out at n r m₂ → RuleWorks x at n m count out r m₂
    works_one x is at n r m₂ laid ts h =
        has_one ts h ready.enough λ t us e.
        let one : count - (count - 1) ≡ 1 = omega (arith, ready.enough) in
        let same : after_rule ts (count - (count - 1)) (f t) ≡ step x ts = rw (one, e, is t us) in
        let there = kept ts h in
        subst (λ o. Works r m₂ (placed o at n) ⊎ RuleWaits r m₂ at out ts) same (laid ts (f t) there (one_ruled t us (rw e at there)))

  module _ (f : Ty → Ty → Outcome Ty) (within : (t u : Ty) → Within t → Within u → (x : Ty) → f t u ≡ accepted x → Within x) (ready : Ready 2 m count) (made : OfTwo f m₁ count w out) where
    two_ruled : (t u : Ty) (us : Stack) → Stacked m₁ count (t ∷ u ∷ us) → Ruled count (count - 2) w out (f t u)
    two_ruled t u us h = record {
      within = within t u (stacked_top m₁ count h).within (stacked-below m₁ count h).within;
      given = made t u us h;
      low = omega (arith, h.few, ready.enough);
      there = omega arith;
    }

    ruled_two : HasRuled m₁ count (count - 2) w out
    ruled_two =
        let has = has_kept m m₁ count kept ready.has in
        ((m₁.sheet, has), has-two has.types has.stacked ready.enough λ t u us e. (f t u, two_ruled t u us (rw e at has.stacked)))

    works_two : (x : Step) → ((t u : Ty) (us : Stack) → step x (t ∷ u ∷ us) ≡ onto us (aside (f t u))) → (at n : ℕ) (r : Result Worked Refusal) (m₂ : Memory)
        → LaysDown m₁ count (count - 2) w out at n r m₂ → RuleWorks x at n m count out r m₂
    works_two x is at n r m₂ laid ts h =
        has-two ts h ready.enough λ t u us e.
        let two : count - (count - 2) ≡ 2 = omega (arith, ready.enough) in
        let same : after_rule ts (count - (count - 2)) (f t u) ≡ step x ts = rw (two, e, is t u us) in
        let there = kept ts h in
        subst (λ o. Works r m₂ (placed o at n) ⊎ RuleWaits r m₂ at out ts) same (laid ts (f t u) there (two_ruled t u us (rw e at there)))

-- ---- each of the four

row_step : (t : Ty) (us : Stack) → step row (t ∷ us) ≡ onto us (aside (accepted (into_row t)))
unfolding step
row_step t us = refl

join_step : (t u : Ty) (us : Stack) → step join (t ∷ u ∷ us) ≡ onto us (aside (accepted (join_types t u)))
unfolding step
join_step t u us = refl

aside-start : {A : Type 0} (a : Ruling A) → aside (at_start a) ≡ a
aside-start (gives a) = refl
aside-start (refuses k) = refl

pervade-step : (f g : Bool) (t u : Ty) (us : Stack) → step (pervading f g) (t ∷ u ∷ us) ≡ onto us (aside (at_start (pervade_types f g t u)))
unfolding step
pervade-step f g t u us = rw (aside-start (pervade_types f g t u))

validate-step : (spec t : Ty) (us : Stack) → step (validating spec) (t ∷ us) ≡ onto us (aside (validate unsided spec t))
unfolding step
validate-step spec t us = refl

module _ {m m₁ : Memory} {count : ℕ} (kept : Keeps m count m₁) (w : Written) (out : List ℕ) where
  module _ (ready : Ready 1 m count) where
    module _ (made : OfTop (λ t. accepted (into_row t)) m₁ count w out) where
      pub row_ruled : HasRuled m₁ count (count - 1) w out
      row_ruled = ruled_one kept w out (λ t. accepted (into_row t)) row_within ready made

      pub row_works : (at n : ℕ) (r : Result Worked Refusal) (m₂ : Memory) → LaysDown m₁ count (count - 1) w out at n r m₂ → RuleWorks row at n m count out r m₂
      row_works = works_one kept w out (λ t. accepted (into_row t)) row_within ready made row row_step

    module _ (s : List ℕ) (small : Bytes s) (spec : Ty) (is : lone s ≡ accepted spec) (made : OfTop (λ t. validate unsided spec t) m₁ count w out) where
      kept_within : (t : Ty) → Within t → (x : Ty) → validate unsided spec t ≡ accepted x → Within x
      kept_within = validated-within spec (lone_write s small spec is).1

      pub validated_ruled : HasRuled m₁ count (count - 1) w out
      validated_ruled = ruled_one kept w out (λ t. validate unsided spec t) kept_within ready made

      pub validated_works : (at n : ℕ) (r : Result Worked Refusal) (m₂ : Memory) → LaysDown m₁ count (count - 1) w out at n r m₂ → RuleWorks (validating spec) at n m count out r m₂
      validated_works = works_one kept w out (λ t. validate unsided spec t) kept_within ready made (validating spec) (validate-step spec)

  module _ (ready : Ready 2 m count) where
    module _ (made : OfTwo (λ t u. accepted (join_types t u)) m₁ count w out) where
      pub join_ruled : HasRuled m₁ count (count - 2) w out
      join_ruled = ruled_two kept w out (λ t u. accepted (join_types t u)) join-within ready made

      pub join_works : (at n : ℕ) (r : Result Worked Refusal) (m₂ : Memory) → LaysDown m₁ count (count - 2) w out at n r m₂ → RuleWorks join at n m count out r m₂
      join_works = works_two kept w out (λ t u. accepted (join_types t u)) join-within ready made join join_step

    module _ (f g : Bool) (made : OfTwo (λ t u. at_start (pervade_types f g t u)) m₁ count w out) where
      pub pervading_ruled : HasRuled m₁ count (count - 2) w out
      pervading_ruled = ruled_two kept w out (λ t u. at_start (pervade_types f g t u)) (pervade-within f g) ready made

      pub pervading_works : (at n : ℕ) (r : Result Worked Refusal) (m₂ : Memory) → LaysDown m₁ count (count - 2) w out at n r m₂ → RuleWorks (pervading f g) at n m count out r m₂
      pervading_works = works_two kept w out (λ t u. at_start (pervade_types f g t u)) (pervade-within f g) ready made (pervading f g) (pervade-step f g)

-- ---- a step that was read

-- its type is a part of the sheet
pub type_inside : (s : List ℕ) (x : cursor.Step) (o : Read WrittenStep) {start n : ℕ} → StepIs (Ok x) s o → x ≡ AValidating start n → n ≤ length s
type_inside s x o {start} {n} read is =
    let read : StepIs (Ok (AValidating start n)) s o = rw is at read in
    let (u, e, spans) = read in
    spans_there s start n u spans

module _ (m : Memory) (count at : ℕ) (x : cursor.Step) (read : StepIs (Ok x) m.sheet (step_from m.sheet count at at)) where
  read_as : {y : cursor.Step} → x ≡ y → StepIs (Ok y) m.sheet (step_from m.sheet count at at)
  read_as is = rw is at read

  -- what is asked for before its rule is worked
  module _ (small : Bytes m.sheet) (ready : Ready 0 m count) where
    enough : {few n : ℕ} (y : Step) → step_from m.sheet count at at ≡ got (working y) n → few ≡ takes (written_as (working y)) → Ready few m count
    enough {few} {n} y e same = let took = took-step m.sheet small count at at (working y) n e in record { enough = rw same took.enough; has = ready.has; fit = ready.fit }

    pub put_asks : {start n : ℕ} → x ≡ APut start n → (count < max_stack) × (start ≤ n) × (max_stack ≤ length m.ends) × (max_stack ≤ length m.lengths)
    put_asks {start} {n} is =
        let (u, e, spans) = read_as is in
        let took = took-step m.sheet small count at at (working (put u)) n e in
        (omega (arith, took.room), spans_forth m.sheet start n u spans, ready.has.stacked.ended, ready.has.stacked.measured)

    pub row_asks : {n : ℕ} → x ≡ ARow n → Ready 1 m count
    row_asks is = enough row (read_as is) refl

    pub pervading_asks : {f g : Bool} {n : ℕ} → x ≡ APervading f g n → Ready 2 m count
    pervading_asks {f} {g} is = enough (pervading f g) (read_as is) refl

    pub join_asks : {n : ℕ} → x ≡ AJoin n → Ready 2 m count
    join_asks is = enough join (read_as is) refl

    pub validating_asks : {start n : ℕ} → x ≡ AValidating start n → Ready 1 m count × ((u : Ty) × (lone (take (n - start) (drop start m.sheet)) ≡ accepted u))
    validating_asks {start} {n} is = let (u, e, spans) = read_as is in (enough (validating u) e refl, (u, spans_lone m.sheet start n u spans))

    pub using_asks : {name n : ℕ} → x ≡ AUsing name n → (t : NameTable) (named : ℕ) → HasNames m.sheet t.places t.bounds named
        → (count < max_stack) × (max_stack ≤ length m.ends) × (max_stack ≤ length m.lengths) × HasNames m.sheet t.places t.bounds named × ((k : TableName) × NameStands m.sheet name k)
    using_asks {name} {n} is t named has =
        let (k, e, stands, end) = read_as is in
        let took = took-step m.sheet small count at at (using_name k) n e in
        (omega (arith, took.room), ready.has.stacked.ended, ready.has.stacked.measured, has, (k, stands))

-- ---- a step from a state

steps-one : (x : Step) (ts : Stack) → steps (x ∷ []) ts ≡ step x ts
unfolding steps
steps-one x ts = go (step x ts)
  where
    go : (a : Ruling Stack) → following a (λ b. gives b) ≡ a
    go (gives b) = refl
    go (refuses k) = refl

module _ (m : Memory) (t : NameTable) (named : ℕ) where
  -- the state after what a rule makes of the stack
  lifted : (st : State Stack) (w : WrittenStep) → InForce m.sheet t.places t.bounds named (names_past w st.names) → (at n : ℕ) (r : Result Worked Refusal) (a : Ruling Stack)
      → Works r m (placed a at n) → StepsTo (with_names r named) m t (placed (following a λ b. gives (after_step st w b)) at n)
  lifted st w force at n (Ok x) (gives b) (ts, e, stacked) = let y : b ≡ ts = cc in let z : n ≡ x.at = cc in (after_step st w ts, rw (y, z), stacked, force)
  lifted st w force at n (Ok x) (refuses k) (ts, e, stacked) = let z : ◌≡◌ {A = ℕ} 0 1 = cc in absurd (omega arith)
  lifted st w force at n (Err r) (gives b) e = let z : ◌≡◌ {A = ℕ} 0 1 = cc in absurd (omega arith)
  lifted st w force at n (Err r) (refuses j) e = let x : j ≡ number_of r.0 = cc in let y : at ≡ r.1 = cc in rw (x, y)

  lifted_waits : (st : State Stack) → InForce m.sheet t.places t.bounds named st.names → (at : ℕ) (out : List ℕ) (r : Result Worked Refusal)
      → RuleWaits r m at out st.stack → StepWaits (with_names r named) m t at out st
  lifted_waits st force at out (Ok x) waits = (waits, force)
  lifted_waits st force at out (Err r) waits = waits

-- a step from any state that stack and names are of
abbrev pub StepsFrom : Memory → ℕ → NameTable → ℕ → ℕ → Result Stepped Refusal → Memory → NameTable → List ℕ → Type 0
StepsFrom m count t named at r m₁ t₁ out =
    (st : State Stack) → Stacked m count st.stack → InForce m.sheet t.places t.bounds named st.names → StepsOrWaits r m₁ t₁ at out st

-- one of the five rules on a sheet s, of which four may wait
module _ (s : List ℕ) (at : ℕ) {m : Memory} {count named : ℕ} {places bounds : List ℕ} (st : State Stack) (h : Stacked m count st.stack) (force : InForce s places bounds named st.names) where
  module _ (r : Result Worked Refusal) (m₁ : Memory) (same : m₁.sheet ≡ s) (x : Step) {n : ℕ} (e : step_from s count at at ≡ got (working x) n) where
    abbrev t : NameTable
    t = name_table places bounds

    worked : Works r m₁ (placed (step x st.stack) at n) → StepsTo (with_names r named) m₁ t (work_from s st at at)
    worked works =
        let read = written_read s (length st.stack) st.names at at (working x) n (ap (λ k. step_from s k at at) (stacked-count m count h) ∙ e) refl refl in
        rw (work_rule s st at at (working x) n read, steps-one x st.stack)
        (lifted m₁ t named st (working x) (rw same force) at n r (step x st.stack) works)

    pub worked_or_waits : (out : List ℕ) → RuleWorks x at n m count out r m₁ → StepsOrWaits (with_names r named) m₁ t at out st
    worked_or_waits out works =
        ⊎_elim
        (λ w. inl (subst (λ l. StepsTo (with_names r named) m₁ t (work_from l st at at)) (sym same) (worked w)))
        (λ waits. inr (lifted_waits m₁ t named st (rw same force) at out r waits))
        (works st.stack h)

module _ (m : Memory) (count : ℕ) (t : NameTable) (named at : ℕ) where
  module _ (st : State Stack) (h : Stacked m count st.stack) (force : InForce m.sheet t.places t.bounds named st.names) where
    -- as it is read on that stack
    here : {o : Read WrittenStep} → step_from m.sheet count at at ≡ o → step_from m.sheet (length st.stack) at at ≡ o
    here e = ap (λ k. step_from m.sheet k at at) (stacked-count m count h) ∙ e

    unworked : {k p : ℕ} → step_from m.sheet count at at ≡ stopped k p → work_from m.sheet st at at ≡ stopped k p
    unworked {k} {p} e = work-unread m.sheet st at at k p (written-unread m.sheet (length st.stack) st.names at at k p (here e))

    -- a use: the put of the type in force, or 15
    used : (name : TableName) {n : ℕ} → step_from m.sheet count at at ≡ got (using_name name) n → (r : Result Worked Refusal) (m₁ : Memory) → m₁.sheet ≡ m.sheet
        → UseWorks (type_in_force st.names name) at n m count r m₁ → StepsTo (with_names r named) m₁ t (work_from m.sheet st at at)
    used name {n} e r m₁ same works = go (type_in_force st.names name) refl works
      where
        go : (o : Option Ty) → type_in_force st.names name ≡ o → UseWorks o at n m count r m₁ → StepsTo (with_names r named) m₁ t (work_from m.sheet st at at)
        go (some u) is w =
            let read = written_read m.sheet (length st.stack) st.names at at (using_name name) n (here e) (rw is) refl in
            rw (work_rule m.sheet st at at (using_name name) n read, is, steps-one (put u) st.stack)
            (lifted m₁ t named st (using_name name) (rw same force) at n r (step (put u) st.stack) (w st.stack h))
        go none is w =
            rw w
            (work-unread m.sheet st at at undeclared at (written-unknown m.sheet (length st.stack) st.names at at (using_name name) n (here e) (rw is)))

    -- a declaration: the names that it leaves, or 16
    declared : (name : TableName) (u : Ty) {n : ℕ} → step_from m.sheet count at at ≡ got (declaring name u) n → (r : Result Stepped Refusal) (t₁ : NameTable)
        → NameKept r m.sheet t₁ count at n (declare st.names name u) → StepsTo r m t₁ (work_from m.sheet st at at)
    unfolding steps
    declared name u {n} e (Ok x) t₁ (end, same, kept) =
        let few = le-leb (length (declare st.names name u)) max_names (omega (arith, kept.many, kept.few)) in
        let read = written_read m.sheet (length st.stack) st.names at at (declaring name u) n (here e) refl few in
        (after_step st (declaring name u) st.stack, work_rule m.sheet st at at (declaring name u) n read ∙ rw end, rw same h, kept)
    declared name u {n} e (Err r) t₁ (is, crowd) =
        rw is
        (work-unread m.sheet st at at too_many_names at
        (written_crowded m.sheet (length st.stack) st.names at at (declaring name u) n (here e) refl (lt-leb (length (declare st.names name u)) max_names crowd)))

  -- ---- each of the seven

  -- the exit of a `?` after the reading of the step
  pub unread_steps : (r : Refusal) → StepIs (Err r) m.sheet (step_from m.sheet count at at) → (q : Result Stepped Refusal) → IsErrAnd q (λ e. e ≡ r) → (out : List ℕ)
      → StepsFrom m count t named at q m t out
  unread_steps r read q is out st h force = let (x, same, e) = err_from_is_err_and q is in rw (same, e) (inl (unworked st h force read))

  module _ (x : cursor.Step) (read : StepIs (Ok x) m.sheet (step_from m.sheet count at at)) where
    -- what it comes to
    module _ (q : Result Stepped Refusal) (m₁ : Memory) (same : m₁.sheet ≡ m.sheet) (out : List ℕ) where
      module _ (r : Result Worked Refusal) (named_as : q ≡ with_names r named) where
        rule_steps : (y : Step) {n : ℕ} → step_from m.sheet count at at ≡ got (working y) n → RuleWorks y at n m count out r m₁ → StepsFrom m count t named at q m₁ t out
        rule_steps y e works st h force = rw named_as (worked_or_waits m.sheet at st h force r m₁ same y e out works)

        pub row_steps : {n : ℕ} → x ≡ ARow n → RuleWorks row at n m count out r m₁ → StepsFrom m count t named at q m₁ t out
        row_steps is works = rule_steps row (read_as m count at x read is) works

        pub pervading_steps : {f g : Bool} {n : ℕ} → x ≡ APervading f g n → RuleWorks (pervading f g) at n m count out r m₁ → StepsFrom m count t named at q m₁ t out
        pervading_steps {f} {g} is works = rule_steps (pervading f g) (read_as m count at x read is) works

        pub join_steps : {n : ℕ} → x ≡ AJoin n → RuleWorks join at n m count out r m₁ → StepsFrom m count t named at q m₁ t out
        join_steps is works = rule_steps join (read_as m count at x read is) works

        pub validating_steps : {start n : ℕ} → x ≡ AValidating start n
            → ((u : Ty) → lone (take (n - start) (drop start m.sheet)) ≡ accepted u → RuleWorks (validating u) at n m count out r m₁) → StepsFrom m count t named at q m₁ t out
        validating_steps {start} {n} is works = let (u, e, spans) = read_as m count at x read is in rule_steps (validating u) e (works u (spans_lone m.sheet start n u spans))

        pub put_steps : {start n : ℕ} → x ≡ APut start n
            → ((u : Ty) → Within u → n ≡ start + size u → Stands m.sheet start (write_ty u) → StepWorks (put u) at n m count r m₁) → StepsFrom m count t named at q m₁ t out
        put_steps is works =
            let (u, e, spans) = read_as m count at x read is in
            rule_steps (put u) e λ ts h. inl (works u spans.within spans.reaches spans.stands ts h)

        pub using_steps : {name n : ℕ} → x ≡ AUsing name n
            → ((ns : Names) (k : TableName) → InForce m.sheet t.places t.bounds named ns → NameStands m.sheet name k → UseWorks (type_in_force ns k) at n m count r m₁)
            → StepsFrom m count t named at q m₁ t out
        using_steps is works st h force =
            let (k, e, stands, end) = read_as m count at x read is in
            let steps = used st h force k e r m₁ same (works st.names k force stands) in
            rw named_as (inl (subst (λ l. StepsTo (with_names r named) m₁ t (work_from l st at at)) (sym same) steps))

    pub declaring_steps : (q : Result Stepped Refusal) (t₁ : NameTable) (out : List ℕ) {name n : ℕ} → x ≡ ADeclaring name n
        → ((ns : Names) (k : TableName) (u : Ty) → InForce m.sheet t.places t.bounds named ns → Declares m.sheet name n k u
        → NameKept q m.sheet t₁ count at n (declare ns k u)) → StepsFrom m count t named at q m t₁ out
    declaring_steps q t₁ out is kept st h force =
        let (k, u, e, declares) = read_as m count at x read is in
        inl (declared st h force k u e q t₁ (kept st.names k u force declares))
