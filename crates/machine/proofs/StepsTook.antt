-- What an accepted reading of steps took: the bytes of the written steps that it gives, which keep every limit and every height and are
-- in order.
use Prim.Native.Nat.{ℕ, zero, suc, ◌≤◌, ◌<◌}
use Rattle.std.proofs.Common.{arith, ◌∙◌, drop_of_length-le, eqb-true, leb-true, ltb-true, ltb-false}
use Rattle.std.specs.Prelude.{Bool, true, false, ◌&&◌, cond, refl, length, eqb, leb, ltb}
use mathlib.Core.List.{List, [], ◌∷◌, append-nil}
use Rattle.std.proofs.Math.Option.{Option, none, some}
use Rattle.std.proofs.Math.Path.{◌≡◌}
use Rattle.model.specs.Refusals.{unmarked, underflow, overflow}
use Rattle.model.specs.Limits.{max_name}
use Rattle.model.specs.Within.{All}
use Rattle.format.specs.Reader.{Bytes, Read, got, stopped, Reader, ◌>>=◌, give, stop, here, byte, judged, Took}
use Rattle.format.specs.ReaderLaws.{took-none, took-join, split, needed, gave, took-byte, took-judged}
use Rattle.format.specs.Records.{Mark, mark, mark_bytes, is_count, or_stop, read_type}
use Rattle.format.specs.ReadWrite.{took-name, read_write}
use Rattle.format.specs.Outcome.{accepted}
use Rattle.validation.proofs.OutcomeLaws.{both_true}
use Rattle.machine.specs.SheetLimits.{max_steps, max_stack}
use Rattle.machine.specs.Steps.{Step, Opcode, a_put, a_row, a_pervading, a_join, a_validating, a_declaration, a_use, mark_of, opcodes, takes, height_past, flag_byte, max_flag, fills_top, fills_below}
use Rattle.machine.specs.Written.{TableName, WrittenStep, written_as, write_name, write_rest, write_step, write_steps, is_name_length, TableNameWithin, WrittenWithin}
use Rattle.machine.specs.Names.{names_past, NamesHold, unfolded, SheetOf}
use Rattle.machine.specs.Sheet.{State, fresh, after_step, is_mark, opcode_in, opcode_from, name_from, argument_from, step_from, written_from, to_the_end, skim_more, skim_from, outcome_of, skim}
use Rattle.machine.specs.WellFormed.{WellFormed, Heights}
use Rattle.machine.proofs.SheetSteps.{written-got}
use Rattle.machine.proofs.NamesLaws.{heights-of}

-- ---- marks and flags

mark-back : (m : Mark) (x y : ℕ) → is_mark m x y ≡ true → x ∷ y ∷ [] ≡ mark_bytes m
mark-back (mark a b) x y h = go (eqb x a) (eqb y b) refl refl h
  where
    go : (t u : Bool) → eqb x a ≡ t → eqb y b ≡ u → (t && u) ≡ true → x ∷ y ∷ [] ≡ a ∷ b ∷ []
    go true true e f h = rw (eqb-true x a e, eqb-true y b f)
    go true false e f h = let z : ◌≡◌ {A = ℕ} 0 1 = cc in absurd (omega arith)
    go false u e f h = let z : ◌≡◌ {A = ℕ} 0 1 = cc in absurd (omega arith)

opcode-back : (cs : List Opcode) (x y : ℕ) (c : Opcode) → opcode_in cs x y ≡ some c → x ∷ y ∷ [] ≡ mark_bytes (mark_of c)
opcode-back [] x y c e = let z : ◌≡◌ {A = ℕ} 0 1 = cc in absurd (omega arith)
opcode-back (k ∷ cs) x y c e = go (is_mark (mark_of k) x y) refl e (λ h. opcode-back cs x y c h)
  where
    go : (t : Bool) → is_mark (mark_of k) x y ≡ t → cond t (some k) (opcode_in cs x y) ≡ some c → (opcode_in cs x y ≡ some c → x ∷ y ∷ [] ≡ mark_bytes (mark_of c)) → x ∷ y ∷ [] ≡ mark_bytes (mark_of c)
    go true h e r = let w : k ≡ c = cc in rw (← w) (mark-back (mark_of k) x y h)
    go false h e r = r e

flag_back : (n : ℕ) → n ≤ max_flag → flag_byte (fills_top n) (fills_below n) ≡ n
flag_back zero h = refl
flag_back (suc zero) h = refl
flag_back (suc (suc zero)) h = refl
flag_back (suc (suc (suc zero))) h = refl
flag_back (suc (suc (suc (suc n)))) h = absurd (omega arith)

or_stop-got : {A C : Type 0} (o : Option A) (k p at : ℕ) {a : A} {n : ℕ} → or_stop o k p at ≡ got a n → (o ≡ some a → at ≡ n → C) → C
or_stop-got none k p at e f = let z : ◌≡◌ {A = ℕ} 0 1 = cc in absurd (omega arith)
or_stop-got (some b) k p at e f = f (cc) (cc)

-- ---- one step

-- What is known of a step that was read on a stack of height h, from place `at` up to place n.
pub record Took-step (s : List ℕ) (h at : ℕ) (w : WrittenStep) (n : ℕ) : Type 0 where
  pub bytes : Took s at (write_step w) n
  pub within : WrittenWithin w
  pub enough : takes (written_as w) ≤ h
  pub room : height_past (written_as w) h ≤ max_stack

module _ (s : List ℕ) (small : Bytes s) where
  took-opcode : (p at : ℕ) (c : Opcode) (n : ℕ) → opcode_from s p at ≡ got c n → Took s at (mark_bytes (mark_of c)) n
  unfolding opcode_from
  took-opcode p at c n e =
      split (byte s p at) e λ x m₁ e₁ e₂.
      split (byte s p m₁) e₂ λ y m₂ e₃ e₄.
      or_stop-got (opcode_in opcodes x y) unmarked p m₂ e₄ λ h w.
      rw (← opcode-back opcodes x y c h, ← w) (took-join (took-byte s small p at x m₁ e₁).0 (took-byte s small p m₁ y m₂ e₃).0)

  pub took-named : (p at : ℕ) (name : TableName) (n : ℕ) → name_from s p at ≡ got name n → Took s at (write_name name) n × TableNameWithin name
  unfolding name_from
  took-named p at name n e =
      split (judged s is_name_length p at) e λ k m e₁ e₂.
      let (took, counted) = took-judged s small is_name_length p at k m e₁ in
      let (any, few) = both_true (leb 1 k) (is_count max_name k) counted in
      let (rest, printing, long) = took-name s small k p m name n e₂ in
      (rw long (took-join took rest), (rw long (leb-true 1 k any), (rw long (leb-true k max_name few), printing)))

  took_argument : (c : Opcode) (p at : ℕ) (w : WrittenStep) (n : ℕ) → argument_from s c p at ≡ got w n → (written_as w ≡ c) × Took s at (write_rest w) n × WrittenWithin w
  unfolding argument_from
  took_argument a_put p at w n e =
      split (read_type s at) e λ t m e₁ e₂.
      gave e₂ λ v y.
      let (took, within) = read_write s small at t m e₁ in
      rw (← v, ← y) (refl, took, within)
  took_argument a_row p at w n e = gave e λ v y. rw (← v, ← y) (refl, took-none, tt)
  took_argument a_pervading p at w n e =
      split (judged s (is_count max_flag) p at) e λ b m e₁ e₂.
      gave e₂ λ v y.
      let (took, few) = took-judged s small (is_count max_flag) p at b m e₁ in
      rw (← v, ← y) (refl, rw (flag_back b (leb-true b max_flag few)) took, tt)
  took_argument a_join p at w n e = gave e λ v y. rw (← v, ← y) (refl, took-none, tt)
  took_argument a_validating p at w n e =
      split (read_type s at) e λ t m e₁ e₂.
      gave e₂ λ v y.
      let (took, within) = read_write s small at t m e₁ in
      rw (← v, ← y) (refl, took, within)
  took_argument a_declaration p at w n e =
      split (name_from s p at) e λ name m e₁ e₂.
      split (read_type s m) e₂ λ t m₂ e₃ e₄.
      gave e₄ λ v y.
      let (called, given) = took-named p at name m e₁ in
      let (took, within) = read_write s small m t m₂ e₃ in
      rw (← v, ← y) (refl, took-join called took, (given, within))
  took_argument a_use p at w n e =
      split (name_from s p at) e λ name m e₁ e₂.
      gave e₂ λ v y.
      let (called, given) = took-named p at name m e₁ in
      rw (← v, ← y) (refl, called, given)

  pub took-step : (h p at : ℕ) (w : WrittenStep) (n : ℕ) → step_from s h p at ≡ got w n → Took-step s h at w n
  unfolding step_from
  took-step h p at w n e =
      split (opcode_from s p at) e λ c m e₁ e₂.
      needed (leb (takes c) h) underflow p m _ e₂ λ u e₃.
      needed (leb (height_past c h) max_stack) overflow p m _ e₃ λ v e₄.
      let (same, took, within) = took_argument c p m w n e₄ in
      let start : Took s at (mark_bytes (mark_of (written_as w))) m = rw same (took-opcode p at c m e₁) in
      record {
        bytes = took-join start took;
        within = within;
        enough = rw same (leb-true (takes c) h u);
        room = rw same (leb-true (height_past c h) max_stack v);
      }

-- ---- all steps

-- Either the bytes ended, or more was read.
pub ended_or : {A C : Type 0} (s : List ℕ) (a : A) (more : Reader A) (at : ℕ) {b : A} {n : ℕ} → to_the_end s a more at ≡ got b n
    → (length s ≤ at → a ≡ b → at ≡ n → C) → (at < length s → more at ≡ got b n → C) → C
ended_or {A = A} {C = C} s a more at {b} {n} e k l = go (ltb at (length s)) refl e
  where
    go : (t : Bool) → ltb at (length s) ≡ t → cond t (more at) (got a at) ≡ got b n → C
    go true h e = l (ltb-true at (length s) h) e
    go false h e = k (ltb-false at (length s) h) (cc) (cc)

-- a step, and at most `most` after it
abbrev pub step_and_more : List ℕ → ℕ → State ℕ → Reader (List WrittenStep)
step_and_more s most st = do
  w ← here (written_from s st.stack st.names)
  ws ← skim_more s most (after_step st w (height_past (written_as w) st.stack))
  give (w ∷ ws)

-- What is known of steps that were read from a state on to the end.
pub record Took-steps (s : List ℕ) (most : ℕ) (st : State ℕ) (at : ℕ) (ws : List WrittenStep) (n : ℕ) : Type 0 where
  pub bytes : Took s at (write_steps ws) n
  pub within : All WrittenWithin ws
  pub names_hold : NamesHold st.names ws
  pub heights : Heights (unfolded st.names ws) st.stack
  pub few : length ws ≤ most
  pub to_end : length s ≤ n

module _ (s : List ℕ) (small : Bytes s) where
  pub took-steps : (most : ℕ) (st : State ℕ) (at : ℕ) (ws : List WrittenStep) (n : ℕ) → skim_more s most st at ≡ got ws n → Took-steps s most st at ws n
  unfolding skim_more write_steps unfolded
  took-steps zero st at ws n e =
      ended_or s [] (here (stop overflow)) at e
      (λ end x y. rw (← x, ← y) record { bytes = took-none; within = tt; names_hold = tt; heights = tt; few = omega arith; to_end = end })
      (λ _ e₁. let z : ◌≡◌ {A = ℕ} 0 1 = cc in absurd (omega arith))
  took-steps (suc most) st at ws n e =
      ended_or s [] (step_and_more s most st) at e
      (λ end x y. rw (← x, ← y) record { bytes = took-none; within = tt; names_hold = tt; heights = tt; few = omega arith; to_end = end })
      (λ _ e₁.
      split (written_from s st.stack st.names at at) e₁ λ w m e₂ e₃.
      written-got s st.stack st.names at at e₂ λ read known crowd.
      let after = after_step st w (height_past (written_as w) st.stack) in
      split (skim_more s most after m) e₃ λ vs n' e₄ e₅.
      gave e₅ λ x y.
      let k = took-step s small st.stack at at w m read in
      let r = took-steps most after m vs n' e₄ in
      let few = r.few in
      rw (← x, ← y) record {
        bytes = took-join k.bytes r.bytes;
        within = (k.within, r.within);
        names_hold = (known, crowd, r.names_hold);
        heights = heights-of st.names w st.stack (unfolded (names_past w st.names) vs) known k.enough k.room r.heights;
        few = omega arith;
        to_end = r.to_end;
      })

-- Steps that were read to the end are all of the bytes.
pub skim-took : (s : List ℕ) → Bytes s → (ws : List WrittenStep) (xs : List Step) → skim s ≡ accepted ws → unfolded [] ws ≡ xs → SheetOf s xs × Heights xs 0
unfolding skim skim_from
skim-took s small ws xs e comes = go (skim_more s max_steps (fresh 0) 0) refl e
  where
    go : (r : Read (List WrittenStep)) → skim_more s max_steps (fresh 0) 0 ≡ r → outcome_of r ≡ accepted ws → SheetOf s xs × Heights xs 0
    go (stopped k p) h e = let z : ◌≡◌ {A = ℕ} 0 1 = cc in absurd (omega arith)
    go (got vs n) h e =
        let v : vs ≡ ws = cc in
        let t = took-steps s small max_steps (fresh 0) 0 ws n (rw (← v) h) in (
          record {
            written = ws;
            bytes = t.bytes.is ∙ rw (drop_of_length-le s t.to_end, append-nil);
            within = t.within;
            few = t.few;
            names_hold = t.names_hold;
            comes_to = comes;
          },
          rw (← comes) t.heights,
        )

-- So are those of a well-formed sheet.
pub well_formed-took : (s result scratch : List ℕ) → Bytes s → (xs : List Step) → WellFormed s result scratch xs → SheetOf s xs × Heights xs 0
well_formed-took s result scratch small xs w = skim-took s small w.written xs w.read w.comes_to
