-- Reading a sheet (document 01, "The sheet, added"), step by step to the end of its bytes: step 65 is refused first, then the mark,
-- the stack, the step's bytes, its name (document 02, 2026-06), its rule. A refusal names the step's mark, but inside a type the place that
-- its reader names. The same reading with the rules left out says what a well-formed sheet is.
use Rattle.std.specs.Prelude.{ℕ, zero, suc, ◌-◌, Bool, cond, List, [], ◌∷◌, reverse, length, leb, ltb}
use Rattle.std.proofs.Math.Option.{Option, none, some}
use Rattle.model.specs.Refusals.{unmarked, underflow, overflow, undeclared, too_many_names}
use Rattle.model.specs.Types.{Ty}
use Rattle.format.specs.Reader.{Read, got, stopped, Reader, ◌>>=◌, ◌>>◌, give, stop, need, here, byte, judged}
use Rattle.format.specs.Records.{Mark, mark, is_count, or_stop, read_name, read_type}
use Rattle.format.specs.Outcome.{Outcome, accepted, refused, mapped}
use Rattle.machine.specs.SheetLimits.{max_steps, max_stack}
use Rattle.machine.specs.Steps.{put, row, pervading, join, validating, Opcode, a_put, a_row, a_pervading, a_join, a_validating, a_declaration, a_use, mark_of, opcodes, same_mark, takes}
use Rattle.machine.specs.Steps.{height_past, max_flag, fills_top, fills_below}
use Rattle.machine.specs.Run.{Ruling, gives, refuses, following, Stack, steps}
use Rattle.machine.specs.Written.{TableName, WrittenStep, working, declaring, using_name, written_as, is_name_length}
use Rattle.machine.specs.Names.{Names, names_past, is_known, has_room, unfolded_step}

-- ---- the state

-- The state of a run: what is known of the stack, which is its types or, where the rules are left out, its height alone; the names in
-- force; and how many steps were taken.
pub record State (A : Type 0) : Type 0 where
  pub stack : A
  pub names : Names
  pub taken : ℕ

-- before the first step, with this on the stack
abbrev pub fresh : {A : Type 0} → A → State A
fresh a = record { stack = a; names = []; taken = 0 }

-- one step later, with this on the stack
abbrev pub after_step : {A : Type 0} → State A → WrittenStep → A → State A
after_step st w a = record { stack = a; names = names_past w st.names; taken = suc st.taken }

-- the same state, but for what is known of the stack
abbrev pub on_stack : {A B : Type 0} → (A → B) → State A → State B
on_stack f st = record { stack = f st.stack; names = st.names; taken = st.taken }

-- how many steps may yet be taken; "both", a declaration and a use, "count as steps"
abbrev pub steps_left : {A : Type 0} → State A → ℕ
steps_left st = max_steps - st.taken

-- One step of a run: the rule of what it comes to with the names in force, and one step more is taken.
abbrev pub work : WrittenStep → State Stack → Ruling (State Stack)
work w st = following (steps (unfolded_step st.names w) st.stack) λ a. gives (after_step st w a)

-- ---- one step

abbrev pub is_mark : Mark → ℕ → ℕ → Bool
is_mark m x y = same_mark m (mark x y)

-- the first of a list that has these two mark bytes
abbrev pub opcode_in : List Opcode → ℕ → ℕ → Option Opcode
opcode_in [] x y = none
opcode_in (c ∷ cs) x y = cond (is_mark (mark_of c) x y) (some c) (opcode_in cs x y)

-- a rule's answer; its refusal names the place p
abbrev pub placed : {A : Type 0} → Ruling A → ℕ → Reader A
placed (gives a) p = give a
placed (refuses k) p = stop k p

module _ (s : List ℕ) where
  -- Both mark bytes are there before the mark is judged.
  unfoldable pub opcode_from : ℕ → Reader Opcode
  opcode_from p = do
    x ← byte s p
    y ← byte s p
    or_stop (opcode_in opcodes x y) unmarked p

  -- Its length, then as many bytes, each judged as it is read.
  unfoldable pub name_from : ℕ → Reader TableName
  name_from p = do
    n ← judged s is_name_length p
    read_name s n p

  unfoldable pub argument_from : Opcode → ℕ → Reader WrittenStep
  argument_from a_put p = do
    t ← read_type s
    give (working (put t))
  argument_from a_row p = give (working row)
  argument_from a_pervading p = do
    n ← judged s (is_count max_flag) p
    give (working (pervading (fills_top n) (fills_below n)))
  argument_from a_join p = give (working join)
  argument_from a_validating p = do
    spec ← read_type s
    give (working (validating spec))
  argument_from a_declaration p = do
    n ← name_from p
    t ← read_type s
    give (declaring n t)
  argument_from a_use p = do
    n ← name_from p
    give (using_name n)

  -- A step on a stack of height h, but for whether its name is known, and for its rule.
  unfoldable pub step_from : ℕ → ℕ → Reader WrittenStep
  step_from h p = do
    c ← opcode_from p
    need (leb (takes c) h) underflow p
    need (leb (height_past c h) max_stack) overflow p
    argument_from c p

  -- The same with its name, which is judged against those in force: "name never declared before this use, after the stack check and the
  -- reading of the name"; "a seventeenth name, after its type is read".
  unfoldable pub written_from : ℕ → Names → ℕ → Reader WrittenStep
  written_from h names p = do
    w ← step_from h p
    need (is_known w names) undeclared p
    need (has_room w names) too_many_names p
    give w

  -- A step from a state, and its rule.
  unfoldable pub work_from : State Stack → ℕ → Reader (State Stack)
  work_from st p = do
    w ← written_from (length st.stack) st.names p
    placed (work w st) p

  -- ---- all steps

  -- gives a at the end of the bytes, else goes on
  abbrev pub to_the_end : {A : Type 0} → A → Reader A → Reader A
  to_the_end a more = λ at. cond (ltb at (length s)) (more at) (got a at)

  -- From any state, with at most n steps more; a step past them is refused as step 65 is.
  unfoldable pub sheet_more : ℕ → State Stack → Reader (State Stack)
  sheet_more zero st = to_the_end st (here (stop overflow))
  sheet_more (suc n) st = to_the_end st do
    st₁ ← here (work_from st)
    sheet_more n st₁

  -- The same with rule refusals passed over, where only the height is known of the stack: the steps that were read, as they are written.
  unfoldable pub skim_more : ℕ → State ℕ → Reader (List WrittenStep)
  skim_more zero st = to_the_end [] (here (stop overflow))
  skim_more (suc n) st = to_the_end [] do
    w ← here (written_from st.stack st.names)
    ws ← skim_more n (after_step st w (height_past (written_as w) st.stack))
    give (w ∷ ws)

  -- From any state, with as many steps more as that state has left.
  unfoldable pub sheet_from : State Stack → Reader (State Stack)
  sheet_from st = sheet_more (steps_left st) st

  unfoldable pub skim_from : State ℕ → Reader (List WrittenStep)
  skim_from st = skim_more (steps_left st) st

-- ---- from the empty stack

abbrev pub outcome_of : {A : Type 0} → Read A → Outcome A
outcome_of (got a next) = accepted a
outcome_of (stopped k p) = refused k p

-- The types left, bottom first.
unfoldable pub sheet_run : List ℕ → Outcome (List Ty)
sheet_run s = mapped (λ st. reverse st.stack) (outcome_of (sheet_from s (fresh []) 0))

-- The steps as they are written, read to the end.
unfoldable pub skim : List ℕ → Outcome (List WrittenStep)
skim s = outcome_of (skim_from s (fresh 0) 0)
