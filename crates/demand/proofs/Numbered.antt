-- Demand 1, "gets its result or one of" sixteen "numbered refusals": whatever the bytes and the buffers, what a lone type and a sheet
-- are refused with; what the reading that makes a sheet well-formed is, and a well-formed sheet. What each public call is refused with stands
-- in the crate `numbered`.
use Prim.Native.Nat.{ℕ, zero, suc, ◌+◌, ◌-◌, ◌≤◌, ◌<◌}
use Rattle.std.proofs.Common.{arith, inl, inr, eqb-true, ltb-false}
use Rattle.std.specs.Prelude.{Bool, ◌&&◌, ◌||◌, ◌⊎◌, length, get_or, ltb}
use Rattle.std.proofs.Math.Bool.{true, false, cond}
use mathlib.Core.List.{List, [], ◌∷◌, reverse}
use Rattle.std.proofs.Math.Option.{Option, none, some}
use Rattle.std.proofs.Math.Path.{◌≡◌, refl}
use Rattle.std.proofs.Math.Dec.{eqb, leb}
use Rattle.model.specs.Limits.{max_size, ones, max_sizes, max_name, max_fields, max_types, max_depth}
use Rattle.model.specs.Refusals.{ended, unmarked, out_of_range, oversized, too_many, trailing, too_short, unpervaded, underflow, overflow, undeclared, too_many_names, is_among, Among}
use Rattle.model.specs.Types.{Shape, Scalar, Ty, ty, types}
use Rattle.model.specs.Within.{All}
use Rattle.format.specs.Reader.{Bytes, Read, got, stopped, Reader, and_then, ◌>>=◌, give, stop, need, here, byte, judged, number}
use Rattle.format.specs.Records.{Mark, mark, shape_mark, scalar_mark, box_mark, box_code, kind_of, is_count, is_optional, list_count, is_printing, form, or_stop, read_mark, read_dim, read_dims}
use Rattle.format.specs.Records.{shape_from, read_name, read_fields, def_from, box_from, scalar_from, read_ty, read_type}
use Rattle.format.specs.Outcome.{Outcome, accepted, refused, mapped, alone, lone}
use Rattle.rules.specs.PervadeInSheets.{pervade_in_sheets}
use Rattle.rules.specs.Scalars.{union}
use Rattle.validation.specs.CheckShape.{unsided}
use Rattle.validation.specs.Validate.{validate}
use Rattle.validation.proofs.Claims.{of_validation, Listed}
use Rattle.validation.proofs.RefusalsLaws.{validate-listed}
use Rattle.machine.specs.SheetLimits.{max_steps, max_stack, scratch_bytes, result_bytes}
use Rattle.machine.specs.Steps.{Step, put, row, pervading, join, validating, Opcode, a_put, a_row, a_pervading, a_join, a_validating, a_declaration, a_use, opcode_of, opcodes, takes, height_past}
use Rattle.machine.specs.Steps.{max_flag, Rule, of_none, of_one, of_two}
use Rattle.machine.specs.Run.{Ruling, gives, refuses, following, or_refuses, aside, Stack, onto, pervade_types, rule_of, rule_on, step, steps, bottom_first}
use Rattle.machine.specs.Written.{WrittenStep, written_as, is_name_length}
use Rattle.machine.specs.Names.{Names, is_known, has_room, unfolded_step, unfolded, SheetOf}
use Rattle.machine.specs.Sheet.{State, fresh, after_step, work, opcode_in, placed, opcode_from, name_from, argument_from, step_from, written_from, work_from, to_the_end, sheet_more, skim_more, sheet_from, skim_from, outcome_of, sheet_run, skim}
use Rattle.machine.specs.WellFormed.{WellFormed, types_left, Heights}
use Rattle.machine.specs.Call.{called, tally, write_types, zeroed, at_front, hand_over, sheet_call}
use Rattle.machine.proofs.RuleOn.{arity, rule_takes, lays_one}
use Rattle.machine.proofs.StepsTook.{well_formed-took}
use Rattle.machine.proofs.SheetWorked.{step_height}
use Rattle.machine.proofs.Sheets.{sheet-steps}
use Rattle.machine.proofs.CallLaws.{Ways, short_scratch, run_refused, short_result, types_written, call_ways, left-fits}
use Rattle.demand.specs.Numbers.{of_records, of_lone, of_reading, of_rules, of_sheet, of_sheet_call, RefusedWith, answer_in}

-- ---- lists of numbers

-- One of a list is one of every list that has them all.
pub among-more : (ns ms : List ℕ) → All (Among ms) ns → (k : ℕ) → Among ns k → Among ms k
among-more [] ms h k e = let z : ◌≡◌ {A = ℕ} 0 1 = cc in absurd (omega arith)
among-more (n ∷ ns) ms h k e = go (eqb k n) refl e (λ f. among-more ns ms h.1 k f)
  where
    go : (b : Bool) → eqb k n ≡ b → (b || is_among ns k) ≡ true → (Among ns k → Among ms k) → Among ms k
    go true x e rest = rw (eqb-true k n x) h.0
    go false x e rest = rest e

module _ {A : Type 0} {ns : List ℕ} where
  pub accepted_with : {a : A} → RefusedWith ns (accepted a)
  accepted_with = record { number_is = λ k p e. let z : ◌≡◌ {A = ℕ} 0 1 = cc in absurd (omega arith) }

  pub refused_with : {j q : ℕ} → Among ns j → RefusedWith {A = A} ns (refused j q)
  refused_with {j} h = record { number_is = λ k p e. let w : j ≡ k = cc in rw (← w) h }

-- ---- readers

-- Where the reader stops, it does so with a number of these. A record, so that the reader can be read off a goal.
pub record Stops {A : Type 0} (ns : List ℕ) (m : Reader A) : Type 0 where
  pub number_is : (at k p : ℕ) → m at ≡ stopped k p → Among ns k

module _ {ns : List ℕ} where
  stops_give : {A : Type 0} {a : A} → Stops ns (give a)
  stops_give = record { number_is = λ at k p e. let z : ◌≡◌ {A = ℕ} 0 1 = cc in absurd (omega arith) }

  stops_stop : {A : Type 0} {j p : ℕ} → Among ns j → Stops {A = A} ns (stop j p)
  stops_stop {A} {j} h = record { number_is = λ at k p e. let w : j ≡ k = cc in rw (← w) h }

  stops_need : (t : Bool) (j p : ℕ) → Among ns j → Stops ns (need t j p)
  stops_need true j p h = stops_give
  stops_need false j p h = stops_stop h

  then_number : {A B : Type 0} (r : Read A) (f : A → Reader B) → ((k p : ℕ) → r ≡ stopped k p → Among ns k) → ((a : A) → Stops ns (f a)) → (k p : ℕ) → and_then r f ≡ stopped k p → Among ns k
  then_number (got a next) f h l k p e = (l a).number_is next k p e
  then_number (stopped j q) f h l k p e = let w : j ≡ k = cc in rw (← w) (h j q refl)

  stops_bind : {A B : Type 0} {m : Reader A} (f : A → Reader B) → Stops ns m → ((a : A) → Stops ns (f a)) → Stops ns (m >>= f)
  stops_bind {A} {B} {m} f h l = record { number_is = λ at k p e. then_number (m at) f (h.number_is at) l k p e }

  stops_here : {A : Type 0} (f : ℕ → Reader A) → ((p : ℕ) → Stops ns (f p)) → Stops ns (here f)
  stops_here f h = record { number_is = λ at k p e. (h at).number_is at k p e }

  stops_or_stop : {A : Type 0} (a : Option A) (j p : ℕ) → Among ns j → Stops ns (or_stop a j p)
  stops_or_stop none j p h = stops_stop h
  stops_or_stop (some a) j p h = stops_give

  stops_cond : {A : Type 0} (t : Bool) {m n : Reader A} → Stops ns m → Stops ns n → Stops ns (cond t m n)
  stops_cond true h l = h
  stops_cond false h l = l

  stops_more : {A : Type 0} (ms : List ℕ) {m : Reader A} → All (Among ms) ns → Stops ns m → Stops ms m
  stops_more ms f h = record { number_is = λ at k p e. among-more ns ms f k (h.number_is at k p e) }

-- ---- records and types: 1 to 5

module _ (s : List ℕ) where
  stops_byte : (p : ℕ) → Stops of_records (byte s p)
  unfolding byte
  stops_byte p = record { number_is = λ at k q e. go at (ltb at (length s)) k q e }
    where
      go : (at : ℕ) (t : Bool) (k q : ℕ) → cond t (got (get_or s at 0) (suc at)) (stopped ended p) ≡ stopped k q → Among of_records k
      go at true k q e = let z : ◌≡◌ {A = ℕ} 0 1 = cc in absurd (omega arith)
      go at false k q e = let w : ended ≡ k = cc in rw (← w) refl

  stops_judged : (fits : ℕ → Bool) (p : ℕ) → Stops of_records (judged s fits p)
  unfolding judged
  stops_judged fits p = stops_bind _ (stops_byte p) λ b. stops_bind _ (stops_need (fits b) out_of_range p refl) λ _. stops_give

  stops_number : (k p : ℕ) → Stops of_records (number s k p)
  unfolding number
  stops_number zero p = stops_give
  stops_number (suc k) p = stops_bind _ (stops_byte p) λ b. stops_bind _ (stops_number k p) λ n. stops_give

  stops_mark : (m : Mark) (p : ℕ) → Stops of_records (read_mark s m p)
  unfolding read_mark
  stops_mark (mark a b) p = stops_bind _ (stops_byte p) λ x. stops_bind _ (stops_byte p) λ y. stops_need (eqb x a && eqb y b) unmarked p refl

  stops_dim : (p : ℕ) → Stops of_records (read_dim s p)
  unfolding read_dim
  stops_dim p = stops_bind _ (stops_number 8 p) λ n. stops_bind _ (stops_need (eqb n ones || leb n max_size) oversized p refl) λ _. stops_give

  stops_dims : (k p : ℕ) → Stops of_records (read_dims s k p)
  unfolding read_dims
  stops_dims zero p = stops_give
  stops_dims (suc k) p = stops_bind _ (stops_dim p) λ d. stops_bind _ (stops_dims k p) λ ds. stops_give

  stops_shape : (p : ℕ) → Stops of_records (shape_from s p)
  unfolding shape_from
  stops_shape p =
      stops_bind _ (stops_mark shape_mark p) λ _.
      stops_bind _ (stops_judged (is_count max_sizes) p) λ m.
      stops_bind _ (stops_judged (is_optional max_sizes) p) λ n.
      stops_bind _ (stops_dims m p) λ o.
      stops_bind _ (stops_dims (list_count n) p) λ c.
      stops_give

  stops_name : (k p : ℕ) → Stops of_records (read_name s k p)
  unfolding read_name
  stops_name zero p = stops_give
  stops_name (suc k) p = stops_bind _ (stops_judged is_printing p) λ b. stops_bind _ (stops_name k p) λ n. stops_give

  module _ (go : ℕ → Reader Ty) (stops : (n : ℕ) → Stops of_records (go n)) where
    stops_fields : (k n : ℕ) → Stops of_records (read_fields s go k n)
    unfolding read_fields
    stops_fields zero n = stops_give
    stops_fields (suc k) n = stops_bind _ (stops n) λ t. stops_bind _ (stops_fields k (n - types t)) λ f. stops_give

    stops_def : (n p : ℕ) → Stops of_records (def_from s go n p)
    unfolding def_from
    stops_def n p =
        stops_bind _ (stops_judged (is_optional max_name) p) λ c.
        stops_bind _ (stops_name (list_count c) p) λ name.
        stops_bind _ (stops_judged (is_count max_fields) p) λ k.
        stops_bind _ (stops_fields k n) λ f.
        stops_give

    stops_form : (c : ℕ) {a b d e : Reader Scalar} → Stops of_records a → Stops of_records b → Stops of_records d → Stops of_records e → Stops of_records (form c a b d e)
    stops_form zero h i j k = h
    stops_form (suc zero) h i j k = i
    stops_form (suc (suc zero)) h i j k = j
    stops_form (suc (suc (suc c))) h i j k = k

    stops_box : (n p : ℕ) → Stops of_records (box_from s go n p)
    unfolding box_from
    stops_box n p =
        stops_bind _ (stops_mark box_mark p) λ _.
        stops_bind _ (stops_byte p) λ c.
        stops_form c stops_give (stops_bind _ (stops n) λ t. stops_give) (stops_def n p) (stops_stop refl)

    stops_scalar : (n p : ℕ) → Stops of_records (scalar_from s go n p)
    unfolding scalar_from
    stops_scalar n p =
        stops_bind _ (stops_mark scalar_mark p) λ _.
        stops_bind _ (stops_byte p) λ c.
        stops_cond (eqb c box_code) (stops_here (box_from s go n) (stops_box n)) (stops_bind _ (stops_or_stop (kind_of c) out_of_range p refl) λ k. stops_give)

  stops_ty : (d n : ℕ) → Stops of_records (read_ty s d n)
  unfolding read_ty
  stops_ty zero n = stops_here (stop too_many) λ p. stops_stop refl
  stops_ty (suc d) zero = stops_here (stop too_many) λ p. stops_stop refl
  stops_ty (suc d) (suc n) =
      stops_bind _ (stops_here (shape_from s) stops_shape) λ t.
      stops_bind _ (stops_here (scalar_from s (read_ty s d) n) (stops_scalar (read_ty s d) (stops_ty d) n)) λ k.
      stops_give

  -- A type's reader stops with 1 to 5.
  pub stops_type : Stops of_records (read_type s)
  stops_type = stops_ty max_depth max_types

-- ---- a lone type: 1 to 6

lone-number : {A : Type 0} (size : ℕ) (r : Read A) → ((k p : ℕ) → r ≡ stopped k p → Among of_records k) → RefusedWith of_lone (alone size r)
lone-number {A} size (got a next) h = go (ltb next size)
  where
    go : (t : Bool) → RefusedWith {A = A} of_lone (cond t (refused trailing next) (accepted a))
    go true = refused_with refl
    go false = accepted_with
lone-number size (stopped j q) h = refused_with (among-more of_records of_lone (refl, (refl, (refl, (refl, (refl, tt))))) j (h j q refl))

-- "A type handed in, of any bytes, gets its result or one of" sixteen "numbered refusals": 1 to 6.
pub lone-numbered : (s : List ℕ) → RefusedWith of_lone (lone s)
unfolding lone
lone-numbered s = lone-number (length s) (read_type s 0) ((stops_type s).number_is 0)

-- ---- a sheet's reading: 1 to 5, 11, 12, 15 and 16

records_reading : All (Among of_reading) of_records
records_reading = (refl, (refl, (refl, (refl, (refl, tt)))))

module _ (s : List ℕ) where
  stops_to_end : {A : Type 0} {ns : List ℕ} (a : A) {more : Reader A} → Stops ns more → Stops ns (to_the_end s a more)
  stops_to_end {A} {ns} a {more} h = record { number_is = λ at k p e. go at (ltb at (length s)) k p e }
    where
      go : (at : ℕ) (t : Bool) (k p : ℕ) → cond t (more at) (got a at) ≡ stopped k p → Among ns k
      go at true k p e = h.number_is at k p e
      go at false k p e = let z : ◌≡◌ {A = ℕ} 0 1 = cc in absurd (omega arith)

  stops_opcode : (p : ℕ) → Stops of_records (opcode_from s p)
  unfolding opcode_from
  stops_opcode p = stops_bind _ (stops_byte s p) λ x. stops_bind _ (stops_byte s p) λ y. stops_or_stop (opcode_in opcodes x y) unmarked p refl

  stops_named : (p : ℕ) → Stops of_records (name_from s p)
  unfolding name_from
  stops_named p = stops_bind _ (stops_judged s is_name_length p) λ n. stops_name s n p

  stops_argument : (c : Opcode) (p : ℕ) → Stops of_records (argument_from s c p)
  unfolding argument_from
  stops_argument a_put p = stops_bind _ (stops_type s) λ t. stops_give
  stops_argument a_row p = stops_give
  stops_argument a_pervading p = stops_bind _ (stops_judged s (is_count max_flag) p) λ n. stops_give
  stops_argument a_join p = stops_give
  stops_argument a_validating p = stops_bind _ (stops_type s) λ spec. stops_give
  stops_argument a_declaration p = stops_bind _ (stops_named p) λ n. stops_bind _ (stops_type s) λ t. stops_give
  stops_argument a_use p = stops_bind _ (stops_named p) λ n. stops_give

  stops_step : (h p : ℕ) → Stops of_reading (step_from s h p)
  unfolding step_from
  stops_step h p =
      stops_bind _ (stops_more of_reading records_reading (stops_opcode p)) λ c.
      stops_bind _ (stops_need (leb (takes c) h) underflow p refl) λ _.
      stops_bind _ (stops_need (leb (height_past c h) max_stack) overflow p refl) λ _.
      stops_more of_reading records_reading (stops_argument c p)

  stops_written : (h : ℕ) (names : Names) (p : ℕ) → Stops of_reading (written_from s h names p)
  unfolding written_from
  stops_written h names p =
      stops_bind _ (stops_step h p) λ w.
      stops_bind _ (stops_need (is_known w names) undeclared p refl) λ _.
      stops_bind _ (stops_need (has_room w names) too_many_names p refl) λ _.
      stops_give

  stops_skim : (n : ℕ) (st : State ℕ) → Stops of_reading (skim_more s n st)
  unfolding skim_more
  stops_skim zero st = stops_to_end [] (stops_here (stop overflow) λ p. stops_stop refl)
  stops_skim (suc n) st =
      stops_to_end []
      (stops_bind _ (stops_here (written_from s st.stack st.names) (stops_written st.stack st.names)) λ w.
      stops_bind _ (stops_skim n (after_step st w (height_past (written_as w) st.stack))) λ ws.
      stops_give)

outcome-number : {A : Type 0} (ns : List ℕ) (r : Read A) → ((k p : ℕ) → r ≡ stopped k p → Among ns k) → RefusedWith ns (outcome_of r)
outcome-number ns (got a next) h = accepted_with
outcome-number ns (stopped j q) h = refused_with (h j q refl)

-- "Read to the end, rule refusals passed over", a sheet meets no refusal but "1 to 5, 11 and 12", 15 and 16.
pub skim-numbered : (s : List ℕ) → RefusedWith of_reading (skim s)
unfolding skim skim_from
skim-numbered s = outcome-number of_reading (skim_more s max_steps (fresh 0) 0) ((stops_skim s max_steps (fresh 0)).number_is 0)

-- "Meets none of 1 to 5, 11 and 12", "neither 15 nor 16", and "has the scratch asked for and 4,992 result bytes for each type left": with such
-- buffers a sheet of any bytes is well-formed, or its reading meets one of these.
pub well_formed_or_refused : (s result scratch : List ℕ) → ((ws : List WrittenStep) → skim s ≡ accepted ws → result_bytes (types_left (unfolded [] ws)) ≤ length result)
    → scratch_bytes ≤ length scratch
    → ((xs : List Step) × WellFormed s result scratch xs) ⊎ ((k : ℕ) × (p : ℕ) × (skim s ≡ refused k p) × Among of_reading k)
well_formed_or_refused s result scratch r c = go (skim s) refl
  where
    go : (o : Outcome (List WrittenStep)) → skim s ≡ o → ((xs : List Step) × WellFormed s result scratch xs) ⊎ ((k : ℕ) × (p : ℕ) × (skim s ≡ refused k p) × Among of_reading k)
    go (accepted ws) e = inl (unfolded [] ws, record { written = ws; read = e; comes_to = refl; result_holds = r ws e; scratch_holds = c })
    go (refused k p) e = inr (k, p, e, (skim-numbered s).number_is k p e)

-- ---- the rules: 5, 8, 9, 10 and 14

-- Where an answer refuses, it does so with one of these.
abbrev RefusesWith : {A : Type 0} → List ℕ → Ruling A → Type 0
RefusesWith ns (gives a) = Unit {0}
RefusesWith ns (refuses k) = Among ns k

-- Where a rule refuses, it does so with one of these.
abbrev RuleRefuses : List ℕ → Rule Ty (Ruling Ty) → Type 0
RuleRefuses ns (of_none a) = RefusesWith ns a
RuleRefuses ns (of_one f) = (t : Ty) → RefusesWith ns (f t)
RuleRefuses ns (of_two f) = (t u : Ty) → RefusesWith ns (f t u)

-- of any numbers that have the rules' among them: these alone, or all of a sheet
module _ (ns : List ℕ) (ruled : All (Among ns) of_rules) where
  by_rule : (k : ℕ) → Among of_rules k → Among ns k
  by_rule = among-more of_rules ns ruled

  pervading-refuses : (f g : Bool) (t u : Ty) → RefusesWith ns (pervade_types f g t u)
  unfolding pervade_types
  pervading-refuses f g (ty s k) (ty t l) = go (pervade_in_sheets f g s t)
    where
      go : (o : Option Shape) → RefusesWith ns (following (or_refuses o unpervaded) λ x. gives (ty x (union k l)))
      go none = by_rule unpervaded refl
      go (some x) = tt

  validating-refuses : (o : Outcome Ty) → Listed o → RefusesWith ns (aside o)
  validating-refuses (accepted t) h = tt
  validating-refuses (refused n p) h = by_rule n (among-more of_validation of_rules (refl, (refl, (refl, (refl, tt)))) n h.0)

  rule_refuses : (x : Step) → RuleRefuses ns (rule_of x)
  rule_refuses (put t) = tt
  rule_refuses row = λ t. tt
  rule_refuses (pervading f g) = λ t u. pervading-refuses f g t u
  rule_refuses join = λ t u. tt
  rule_refuses (validating spec) = λ t. validating-refuses (validate unsided spec t) (validate-listed unsided spec t)

  -- ---- on a stack: 11 is said only where it lacks types, and 12 only where it has no room

  onto-refuses : (st : Stack) (a : Ruling Ty) → RefusesWith ns a → RefusesWith ns (onto st a)
  onto-refuses st (gives t) h = tt
  onto-refuses st (refuses k) h = h

  room-refuses : (b : Bool) (st : Stack) (a : Ruling Ty) → (b ≡ false → Among ns overflow) → RefusesWith ns a → RefusesWith ns (cond b (onto st a) (refuses overflow))
  room-refuses true st a full h = onto-refuses st a h
  room-refuses false st a full h = full refl

  rule_on-refuses : (r : Rule Ty (Ruling Ty)) (st : Stack) → (length st < arity r → Among ns underflow) → (max_stack < length st - arity r + 1 → Among ns overflow)
      → RuleRefuses ns r
      → RefusesWith ns (rule_on r st)
  rule_on-refuses (of_none a) st lacks full h = room-refuses (ltb (length st) max_stack) st a (λ e. full (omega (arith, ltb-false (length st) max_stack e))) h
  rule_on-refuses (of_one f) [] lacks full h = lacks (omega arith)
  rule_on-refuses (of_one f) (t ∷ st) lacks full h = onto-refuses st (f t) (h t)
  rule_on-refuses (of_two f) [] lacks full h = lacks (omega arith)
  rule_on-refuses (of_two f) (t ∷ []) lacks full h = lacks (omega arith)
  rule_on-refuses (of_two f) (t ∷ u ∷ st) lacks full h = onto-refuses st (f t u) (h t u)

  step-refuses : (x : Step) (st : Stack) → (length st < takes (opcode_of x) → Among ns underflow) → (max_stack < height_past (opcode_of x) (length st) → Among ns overflow)
      → RefusesWith ns (step x st)
  unfolding step
  step-refuses x st lacks full =
      rule_on-refuses (rule_of x) st
      (λ l. lacks (omega (arith, rule_takes x)))
      (λ l. full (omega (arith, rule_takes x, lays_one x)))
      (rule_refuses x)

-- Steps that lack no types and lay down none too many are refused by a rule alone.
steps_ruled : (xs : List Step) (st : Stack) → Heights xs (length st) → RefusesWith of_rules (steps xs st)
unfolding steps
steps_ruled [] st h = tt
steps_ruled (x ∷ xs) st h =
    let first = step-refuses of_rules (refl, (refl, (refl, (refl, (refl, tt))))) x st (λ l. absurd (omega (arith, h.0))) (λ l. absurd (omega (arith, h.1))) in
    go (step x st) refl first λ st₁ e. steps_ruled xs st₁ (rw (step_height x st st₁ e) h.2)
  where
    go : (a : Ruling Stack) → step x st ≡ a → RefusesWith of_rules a → ((st₁ : Stack) → step x st ≡ gives st₁ → RefusesWith of_rules (steps xs st₁)) → RefusesWith of_rules (following a λ st₁. steps xs st₁)
    go (gives st₁) e h k = k st₁ e
    go (refuses j) e h k = h

-- ---- a well-formed sheet: 5, 8, 9, 10 and 14

run_ruled : (s : List ℕ) (xs : List Step) → SheetOf s xs → Heights xs 0 → RefusedWith of_rules (sheet_run s)
run_ruled s xs h k = go (sheet_run s) (steps xs []) (sheet-steps s xs h) (steps_ruled xs [] k)
  where
    go : (o : Outcome (List Ty)) (a : Ruling Stack) → aside o ≡ bottom_first a → RefusesWith of_rules a → RefusedWith of_rules o
    go (accepted ts) a e h = accepted_with
    go (refused j p) (gives st) e h = let z : ◌≡◌ {A = ℕ} 0 1 = cc in absurd (omega arith)
    go (refused j p) (refuses k) e h = let w : j ≡ k = cc in refused_with (rw w h)

-- A well-formed sheet is accepted, or refused by a rule: the scratch asked for and 4,992 result bytes "for each type left" never fall short.
pub well_formed-numbered : (s result scratch : List ℕ) → Bytes s → (xs : List Step) → WellFormed s result scratch xs → RefusedWith of_rules (answer_in (sheet_call s result scratch))
well_formed-numbered s result scratch small xs w = go (call_ways s result scratch)
  where
    took : SheetOf s xs × Heights xs 0
    took = well_formed-took s result scratch small xs w

    go : Ways s result scratch → RefusedWith of_rules (answer_in (sheet_call s result scratch))
    go (short_scratch l e) = absurd (omega (arith, w.scratch_holds))
    go (run_refused l k p r e) = rw e (refused_with ((run_ruled s xs took.0 took.1).number_is k p r))
    go (short_result l ts r m e) = absurd (omega (arith, w.result_holds, left-fits s xs ts took.0 r))
    go (types_written l ts r room e) = rw e accepted_with

-- ---- a sheet, worked: 1 to 5, 8 to 12 and 14 to 16

following-refuses : {A B : Type 0} (a : Ruling A) (f : A → Ruling B) → RefusesWith of_sheet a → ((b : A) → RefusesWith of_sheet (f b)) → RefusesWith of_sheet (following a f)
following-refuses (gives b) f h k = k b
following-refuses (refuses j) f h k = h

steps_refuse : (xs : List Step) (st : Stack) → RefusesWith of_sheet (steps xs st)
unfolding steps
steps_refuse [] st = tt
steps_refuse (x ∷ xs) st =
    following-refuses (step x st) _ (step-refuses of_sheet (refl, (refl, (refl, (refl, (refl, tt))))) x st (λ l. refl) (λ l. refl)) λ st₁. steps_refuse xs st₁

work-refuses : (w : WrittenStep) (st : State Stack) → RefusesWith of_sheet (work w st)
work-refuses w st = let xs = unfolded_step st.names w in following-refuses (steps xs st.stack) _ (steps_refuse xs st.stack) λ a. tt

reading_sheet : All (Among of_sheet) of_reading
reading_sheet = (refl, (refl, (refl, (refl, (refl, (refl, (refl, (refl, (refl, tt)))))))))

stops_placed : {A : Type 0} (ns : List ℕ) (a : Ruling A) (p : ℕ) → RefusesWith ns a → Stops ns (placed a p)
stops_placed ns (gives a) p h = stops_give
stops_placed ns (refuses k) p h = stops_stop h

module _ (s : List ℕ) where
  stops_work : (st : State Stack) (p : ℕ) → Stops of_sheet (work_from s st p)
  unfolding work_from
  stops_work st p =
      stops_bind _ (stops_more of_sheet reading_sheet (stops_written s (length st.stack) st.names p)) λ w.
      stops_placed of_sheet (work w st) p (work-refuses w st)

  stops_sheet : (n : ℕ) (st : State Stack) → Stops of_sheet (sheet_more s n st)
  unfolding sheet_more
  stops_sheet zero st = stops_to_end s st (stops_here (stop overflow) λ p. stops_stop refl)
  stops_sheet (suc n) st = stops_to_end s st (stops_bind _ (stops_here (work_from s st) (stops_work st)) λ st₁. stops_sheet n st₁)

pub mapped-numbered : {A B : Type 0} {ns : List ℕ} (f : A → B) (o : Outcome A) → RefusedWith ns o → RefusedWith ns (mapped f o)
mapped-numbered f (accepted a) h = accepted_with
mapped-numbered f (refused k p) h = refused_with (h.number_is k p refl)

-- The run of a sheet, of any bytes.
pub run-numbered : (s : List ℕ) → RefusedWith of_sheet (sheet_run s)
unfolding sheet_run sheet_from
run-numbered s =
    let run = sheet_more s max_steps (fresh []) 0 in
    mapped-numbered (λ st. reverse st.stack) (outcome_of run) (outcome-number of_sheet run ((stops_sheet s max_steps (fresh [])).number_is 0))

-- ---- the sheet call: 1 to 5, 7 to 12 and 14 to 16

handed-numbered : (size : ℕ) (o : Outcome (List Ty)) (result scratch : List ℕ) → RefusedWith of_sheet o → RefusedWith of_sheet_call (answer_in (hand_over size o result scratch))
unfolding hand_over
handed-numbered size (refused k p) result scratch h = refused_with (among-more of_sheet of_sheet_call (refl, (refl, (refl, (refl, (refl, (refl, (refl, (refl, (refl, (refl, (refl, (refl, (refl, tt))))))))))))) k (h.number_is k p refl))
handed-numbered size (accepted ts) result scratch h = go (leb (length (write_types ts)) (length result))
  where
    go : (t : Bool)
        → RefusedWith of_sheet_call (answer_in (cond t (called (accepted (tally (length ts) (length (write_types ts)))) (at_front (write_types ts) result) scratch) (called (refused too_short size) result scratch)))
    go true = accepted_with
    go false = refused_with refl

-- "A sheet handed in, of any bytes, gets its result or one of" sixteen "numbered refusals": with any two buffers, 1 to 5, 7 to 12 and
-- 14 to 16.
pub call-numbered : (s result scratch : List ℕ) → RefusedWith of_sheet_call (answer_in (sheet_call s result scratch))
unfolding sheet_call
call-numbered s result scratch = go (ltb (length scratch) scratch_bytes)
  where
    go : (t : Bool) → RefusedWith of_sheet_call (answer_in (cond t (called (refused too_short 0) result scratch) (hand_over (length s) (sheet_run s) result (zeroed scratch))))
    go true = refused_with refl
    go false = handed-numbered (length s) (sheet_run s) result (zeroed scratch) (run-numbered s)
