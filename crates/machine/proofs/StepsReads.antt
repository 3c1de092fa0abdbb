-- The bytes of a written list, read as a sheet: they get what the steps that it comes to get, the place aside; and where no step lacks types
-- or lays down one too many, the reading gives the list back.
use Prim.Native.Nat.{ℕ, zero, suc, ◌+◌, ◌≤◌, ◌<◌}
use Rattle.std.proofs.Common.{arith, sym, ◌∙◌, length-append}
use Rattle.std.specs.Prelude.{Bool, true, false, ◌≡◌, drop, leb}
use mathlib.Core.List.{List, [], ◌∷◌, ◌++◌, append_assoc, append_cancel_left}
use Rattle.std.proofs.Math.Path.{refl, ap}
use Rattle.std.proofs.Math.ListN.{length, length-drop}
use borrow.Author.Tests.{le-leb, leb-true, leb-false}
use Rattle.model.specs.Limits.{max_name}
use Rattle.model.specs.Refusals.{underflow, overflow}
use Rattle.model.specs.Within.{All}
use Rattle.format.specs.Reader.{got, stopped, stop, here, Reads}
use Rattle.format.specs.ReaderLaws.{drop_past, reads-give, reads_bind, reads_byte, reads-need, reads-judged, reads-last}
use Rattle.format.specs.Records.{mark_bytes, is_count}
use Rattle.format.specs.WriteRead.{reads-name, write_read}
use Rattle.machine.specs.SheetLimits.{max_stack}
use Rattle.machine.specs.Steps.{Step, put, row, pervading, join, validating, Opcode, a_put, a_row, a_pervading, a_join, a_validating, a_declaration, a_use, opcode_of, mark_of, takes}
use Rattle.machine.specs.Steps.{height_past, flag_byte, max_flag, fills_top, fills_below}
use Rattle.machine.specs.Run.{gives, refuses, Stack, rule_of, step, steps}
use Rattle.machine.specs.Written.{TableName, WrittenStep, working, declaring, using_name, written_as, write_name, write_rest, write_step, write_steps, is_name_length, TableNameWithin, WrittenWithin}
use Rattle.machine.specs.Names.{Names, type_in_force, names_past, is_known, has_room, NamesHold, unfolded_step, unfolded}
use Rattle.machine.specs.Sheet.{State, after_step, work, placed, opcode_from, name_from, argument_from, step_from, work_from, sheet_more, skim_more}
use Rattle.machine.specs.WellFormed.{Heights}
use Rattle.machine.proofs.RuleOn.{rule_takes, lays_one, rule_on-lacks, rule_on-full}
use Rattle.machine.proofs.RunLaws.{steps_append, following-gives}
use Rattle.machine.proofs.Opcodes.{mark-two, takes-few, lays-few}
use Rattle.machine.proofs.NamesLaws.{known_use, heights-back}
use Rattle.machine.proofs.SheetWorked.{SameAnswer, same_after, step_height, work_and_more}
use Rattle.machine.proofs.SheetSteps.{to_end-end, to_end-more, step-lacks, step-overfull, written-unread, written_read, work-unread, work_rule}
use Rattle.machine.proofs.StepsTook.{step_and_more}

-- ---- one step

flag_few : (f g : Bool) → is_count max_flag (flag_byte f g) ≡ true
flag_few false false = refl
flag_few true false = refl
flag_few false true = refl
flag_few true true = refl

flag_fills : (f g : Bool) → working (pervading (fills_top (flag_byte f g)) (fills_below (flag_byte f g))) ≡ working (pervading f g)
flag_fills false false = refl
flag_fills true false = refl
flag_fills false true = refl
flag_fills true true = refl

module _ (s : List ℕ) where
  reads-opcode : (c : Opcode) (p : ℕ) → Reads s (opcode_from s p) (mark_bytes (mark_of c)) c
  unfolding opcode_from
  reads-opcode a_put p = reads_byte p _ (reads_byte p _ reads-give)
  reads-opcode a_row p = reads_byte p _ (reads_byte p _ reads-give)
  reads-opcode a_pervading p = reads_byte p _ (reads_byte p _ reads-give)
  reads-opcode a_join p = reads_byte p _ (reads_byte p _ reads-give)
  reads-opcode a_validating p = reads_byte p _ (reads_byte p _ reads-give)
  reads-opcode a_declaration p = reads_byte p _ (reads_byte p _ reads-give)
  reads-opcode a_use p = reads_byte p _ (reads_byte p _ reads-give)

  pub reads-named : (n : TableName) (p : ℕ) → TableNameWithin n → Reads s (name_from s p) (write_name n) n
  unfolding name_from
  reads-named n p h = reads-judged is_name_length p _ (rw (le-leb 1 (length n) h.0, le-leb (length n) max_name h.1.0)) (reads-name s p n h.1.1)

  reads_argument : (w : WrittenStep) (p : ℕ) → WrittenWithin w → Reads s (argument_from s (written_as w) p) (write_rest w) w
  unfolding argument_from
  reads_argument (working (put t)) p h = reads-last _ (write_read s t h) refl
  reads_argument (working row) p h = reads-give
  reads_argument (working (pervading f g)) p h = reads-judged (is_count max_flag) p _ (flag_few f g) (rw (flag_fills f g) reads-give)
  reads_argument (working join) p h = reads-give
  reads_argument (working (validating spec)) p h = reads-last _ (write_read s spec h) refl
  reads_argument (declaring n t) p h = reads_bind _ (reads-named n p h.0) (reads-last _ (write_read s t h.1) refl)
  reads_argument (using_name n) p h = reads-last _ (reads-named n p h) refl

  reads-step : (w : WrittenStep) (h p : ℕ) → WrittenWithin w → takes (written_as w) ≤ h → height_past (written_as w) h ≤ max_stack → Reads s (step_from s h p) (write_step w) w
  unfolding step_from
  reads-step w h p v l r =
      reads_bind _ (reads-opcode (written_as w) p)
      (reads-need (leb (takes (written_as w)) h) underflow p (le-leb (takes (written_as w)) h l)
      (reads-need (leb (height_past (written_as w) h) max_stack) overflow p (le-leb (height_past (written_as w) h) max_stack r)
      (reads_argument w p v)))

-- ---- the stack

-- A step that lacks types, and one that lays down one too many, is refused by its rule with the number that the reading gives.
lacks : (x : Step) (st : Stack) → length st < takes (opcode_of x) → step x st ≡ refuses underflow
unfolding step
lacks x st h = rule_on-lacks (rule_of x) st (omega (arith, rule_takes x))

overfull : (x : Step) (st : Stack) → length st ≤ max_stack → takes (opcode_of x) ≤ length st → max_stack < height_past (opcode_of x) (length st) → step x st ≡ refuses overflow
unfolding step
overfull x st h k l = rule_on-full (rule_of x) st h (omega (arith, rule_takes x)) (omega (arith, rule_takes x, lays_one x))

-- what an accepted step leaves is not too high
pub step_room : (x : Step) (st st₁ : Stack) → length st ≤ max_stack → step x st ≡ gives st₁ → length st₁ ≤ max_stack
step_room x st st₁ h e = go (leb (takes (opcode_of x)) (length st)) (leb (height_past (opcode_of x) (length st)) max_stack) refl refl
  where
    go : (t u : Bool) → leb (takes (opcode_of x)) (length st) ≡ t → leb (height_past (opcode_of x) (length st)) max_stack ≡ u → length st₁ ≤ max_stack
    go false u a b = let k = lacks x st (leb-false (takes (opcode_of x)) (length st) a) in let z : ◌≡◌ {A = ℕ} 0 1 = cc in absurd (omega arith)
    go true false a b = let k = overfull x st h (leb-true (takes (opcode_of x)) (length st) a) (leb-false (height_past (opcode_of x) (length st)) max_stack b) in let z : ◌≡◌ {A = ℕ} 0 1 = cc in absurd (omega arith)
    go true true a b = rw (step_height x st st₁ e) (leb-true (height_past (opcode_of x) (length st)) max_stack b)

pub steps-room : (xs : List Step) (st st₁ : Stack) → length st ≤ max_stack → steps xs st ≡ gives st₁ → length st₁ ≤ max_stack
unfolding steps
steps-room [] st st₁ h e = let w : st ≡ st₁ = cc in rw (← w) h
steps-room (x ∷ xs) st st₁ h e = following-gives (step x st) e λ st₂ e₁ e₂. steps-room xs st₂ st₁ (step_room x st st₂ h e₁) e₂

-- The same of a written step, by what it comes to.
unfolded-lacks : (ns : Names) (w : WrittenStep) (st : Stack) → length st < takes (written_as w) → steps (unfolded_step ns w) st ≡ refuses underflow
unfolding steps
unfolded-lacks ns (working x) st h = rw (lacks x st h)
unfolded-lacks ns (declaring n t) st h = absurd (omega arith)
unfolded-lacks ns (using_name n) st h = absurd (omega arith)

unfolded-overfull : (ns : Names) (w : WrittenStep) (st : Stack) → is_known w ns ≡ true → length st ≤ max_stack → takes (written_as w) ≤ length st → max_stack < height_past (written_as w) (length st)
    → steps (unfolded_step ns w) st ≡ refuses overflow
unfolding steps
unfolded-overfull ns (working x) st known h k l = rw (overfull x st h k l)
unfolded-overfull ns (declaring n t) st known h k l = absurd (omega arith)
unfolded-overfull ns (using_name n) st known h k l = known_use (type_in_force ns n) known λ t e. rw (e, overfull (put t) st h k l)

-- ---- all steps

module _ (s : List ℕ) where
  -- a step has bytes
  longer : (w : WrittenStep) (at : ℕ) (rest : List ℕ) → drop at s ≡ write_step w ++ rest → at < length s
  longer w at rest e = omega (arith, length-drop at s, ap length e, length-append (write_step w) rest, length-append (mark_bytes (mark_of (written_as w))) (write_rest w), mark-two (written_as w))

  worked : (st : State Stack) (w : WrittenStep) (p at : ℕ) (rest : List ℕ) → length st.stack ≤ max_stack → WrittenWithin w → is_known w st.names ≡ true
      → has_room w st.names ≡ true → drop at s ≡ write_step w ++ rest → work_from s st p at ≡ placed (work w st) p (at + length (write_step w))
  worked st w p at rest h v known crowd e = go (leb c h₀) (leb (height_past (written_as w) h₀) max_stack) refl refl
    where
      -- what it takes, the height, and the place after it
      c : ℕ
      c = takes (written_as w)

      h₀ : ℕ
      h₀ = length st.stack

      end : ℕ
      end = at + length (write_step w)

      next : ℕ
      next = at + length (mark_bytes (mark_of (written_as w)))

      e₁ : opcode_from s p at ≡ got (written_as w) next
      e₁ = (reads-opcode s (written_as w) p).run at (write_rest w ++ rest) (e ∙ append_assoc (mark_bytes (mark_of (written_as w))) (write_rest w) rest)

      unread : (k q : ℕ) → step_from s h₀ p at ≡ stopped k q → work_from s st p at ≡ stopped k q
      unread k q u = work-unread s st p at k q (written-unread s h₀ st.names p at k q u)

      go : (t u : Bool) → leb c h₀ ≡ t → leb (height_past (written_as w) h₀) max_stack ≡ u → work_from s st p at ≡ placed (work w st) p end
      go false u a b =
          let less : h₀ < c = leb-false c h₀ a in
          unread underflow p (step-lacks s h₀ p at (written_as w) next e₁ less) ∙ rw (unfolded-lacks st.names w st.stack less)
      go true false a b =
          let enough : c ≤ h₀ = leb-true c h₀ a in
          let full : max_stack < height_past (written_as w) h₀ = leb-false (height_past (written_as w) h₀) max_stack b in
          unread overflow p (step-overfull s h₀ p at (written_as w) next e₁ enough full) ∙ rw (unfolded-overfull st.names w st.stack known h enough full)
      go true true a b =
          let r = (reads-step s w h₀ p v (leb-true c h₀ a) (leb-true (height_past (written_as w) h₀) max_stack b)).run at rest e in
          work_rule s st p at w end (written_read s h₀ st.names p at w end r known crowd)

  -- The bytes of a written list get what the steps that it comes to get.
  pub written-worked : (ws : List WrittenStep) (st : State Stack) (most at : ℕ) → length ws ≤ most → length st.stack ≤ max_stack → All WrittenWithin ws → NamesHold st.names ws
      → drop at s ≡ write_steps ws → SameAnswer (steps (unfolded st.names ws) st.stack) (sheet_more s most st at)
  unfolding write_steps unfolded steps sheet_more
  written-worked [] st zero at l h v o e = (st, at, to_end-end s st (here (stop overflow)) at (omega (arith, length-drop at s, ap length e)), refl)
  written-worked [] st (suc most) at l h v o e = (st, at, to_end-end s st (work_and_more s most st) at (omega (arith, length-drop at s, ap length e)), refl)
  written-worked (w ∷ ws) st zero at l h v o e = absurd (omega arith)
  written-worked (w ∷ ws) st (suc most) at l h v o e =
      let xs = unfolded_step st.names w in
      let end = at + length (write_step w) in
      rw (to_end-more s st (work_and_more s most st) at (longer w at (write_steps ws) e), worked st w at at (write_steps ws) h v.0 o.0 o.1 e, steps_append xs (unfolded (names_past w st.names) ws) st.stack)
      (same_after s most (unfolded (names_past w st.names) ws) st w (steps xs st.stack) at end λ a k.
      written-worked ws (after_step st w a) most end (omega arith) (steps-room xs st.stack a h k) v.1 o.2 (drop_past s at (write_step w) (write_steps ws) e))

  -- Read to the end, it is given back.
  pub written_skims : (ws : List WrittenStep) (st : State ℕ) (most at : ℕ) → length ws ≤ most → st.stack ≤ max_stack → Heights (unfolded st.names ws) st.stack → All WrittenWithin ws
      → NamesHold st.names ws → drop at s ≡ write_steps ws → (n : ℕ) × (skim_more s most st at ≡ got ws n)
  unfolding write_steps unfolded skim_more
  written_skims [] st zero at l h k v o e = (at, to_end-end s [] (here (stop overflow)) at (omega (arith, length-drop at s, ap length e)))
  written_skims [] st (suc most) at l h k v o e = (at, to_end-end s [] (step_and_more s most st) at (omega (arith, length-drop at s, ap length e)))
  written_skims (w ∷ ws) st zero at l h k v o e = absurd (omega arith)
  written_skims (w ∷ ws) st (suc most) at l h k v o e =
      let (enough, room, rest) = heights-back st.names w st.stack (unfolded (names_past w st.names) ws) o.0 h k in
      let end = at + length (write_step w) in
      let read = written_read s st.stack st.names at at w end ((reads-step s w st.stack at v.0 enough room).run at (write_steps ws) e) o.0 o.1 in
      let after = after_step st w (height_past (written_as w) st.stack) in
      let (n, r) = written_skims ws after most end (omega arith) room rest v.1 o.2 (drop_past s at (write_step w) (write_steps ws) e) in
      (n, to_end-more s [] (step_and_more s most st) at (longer w at (write_steps ws) e) ∙ rw (read, r))

-- ---- written steps are told by their bytes

pub write_steps-same : (ws vs : List WrittenStep) → All WrittenWithin ws → All WrittenWithin vs → write_steps ws ≡ write_steps vs → ws ≡ vs
unfolding write_steps
write_steps-same [] [] g h e = refl
write_steps-same [] (v ∷ vs) g h e = absurd (omega (arith, longer [] v 0 (write_steps vs) e))
write_steps-same (w ∷ ws) [] g h e = absurd (omega (arith, longer [] w 0 (write_steps ws) (sym e)))
write_steps-same (w ∷ ws) (v ∷ vs) g h e =
    let s = write_step w ++ write_steps ws in
    let a = (reads-step s w 2 0 g.0 (takes-few (written_as w)) (omega (arith, takes-few (written_as w), lays-few (written_as w)))).run 0 (write_steps ws) refl in
    let b = (reads-step s v 2 0 h.0 (takes-few (written_as v)) (omega (arith, takes-few (written_as v), lays-few (written_as v)))).run 0 (write_steps vs) e in
    let z : w ≡ v = cc in
    rw (z, write_steps-same ws vs g.1 h.1 (append_cancel_left (write_step v) (write_steps ws) (write_steps vs) (rw z at e)))
