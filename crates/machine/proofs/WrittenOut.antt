-- Two sheets that come to the same steps get the same answer, the place aside. A sheet whose uses are written out as puts and whose
-- declarations are dropped comes to the same steps; and so does one without a declaration whose name is not used after it.
use Rattle.std.specs.Prelude.{ℕ, suc, ◌+◌, ◌≤◌, Bool, not, cond, ◌≡◌}
use Rattle.std.proofs.Common.{arith, sym, ◌∙◌, length-append, le-leb, leb-true}
use Rattle.std.proofs.Math.Bool.{true, false}
use mathlib.Core.List.{List, [], ◌∷◌, ◌++◌}
use Rattle.std.proofs.Math.Option.{Option, none, some}
use Rattle.std.proofs.Math.Path.{refl, ap}
use Rattle.std.proofs.Math.ListN.{length}
use Rattle.std.proofs.Math.Dec.{leb}
use Rattle.model.specs.Types.{Ty}
use Rattle.model.specs.Within.{All}
use Rattle.machine.specs.SheetLimits.{max_steps, max_names}
use Rattle.machine.specs.Steps.{Step, StepWithin}
use Rattle.machine.specs.Run.{aside}
use Rattle.machine.specs.Written.{TableName, WrittenStep, working, declaring, using_name, write_steps, written_out, WrittenWithin}
use Rattle.machine.specs.Names.{same_name, Names, type_in_force, declare, names_past, is_there, is_known, has_room, NamesHold, put_there, unfolded_step, unfolded, SheetOf}
use Rattle.machine.specs.Sheet.{sheet_run}
use Rattle.machine.specs.Conditions.{Where}
use Rattle.machine.proofs.NamesLaws.{same-name, same_name-refl, in_force-past, added, declare-length, unfold_few}
use Rattle.machine.proofs.Sheets.{sheet-steps, sheet-within}

-- What is written comes to the same steps: it gets the same types left, or the same refusal, its place aside.
pub same-steps : (s r : List ℕ) (xs : List Step) → SheetOf s xs → SheetOf r xs → aside (sheet_run s) ≡ aside (sheet_run r)
same-steps s r xs h k = sheet-steps s xs h ∙ sym (sheet-steps r xs k)

-- ---- written out

pub unfold_out : (ns : Names) (xs : List Step) → unfolded ns (written_out xs) ≡ xs
unfolding unfolded
unfold_out ns [] = refl
unfold_out ns (x ∷ xs) = ap (λ ys. x ∷ ys) (unfold_out ns xs)

names_hold_out : (ns : Names) (xs : List Step) → NamesHold ns (written_out xs)
names_hold_out ns [] = tt
names_hold_out ns (x ∷ xs) = (refl, refl, names_hold_out ns xs)

within-out : (xs : List Step) → All StepWithin xs → All WrittenWithin (written_out xs)
within-out [] h = tt
within-out (x ∷ xs) h = (h.0, within-out xs h.1)

length-out : (xs : List Step) → length (written_out xs) ≡ length xs
length-out [] = refl
length-out (x ∷ xs) = ap suc (length-out xs)

-- A few steps that keep every limit, written as they are worked, come to themselves.
pub sheet-of-out : (s : List ℕ) (xs : List Step) → s ≡ write_steps (written_out xs) → All StepWithin xs → length xs ≤ max_steps → SheetOf s xs
sheet-of-out s xs is w few = record {
  written = written_out xs;
  bytes = is;
  within = within-out xs w;
  few = rw (length-out xs) few;
  names_hold = names_hold_out [] xs;
  comes_to = unfold_out [] xs;
}

-- Uses written out as puts, declarations dropped: it comes to the same steps.
pub write_out_reads : (s : List ℕ) (xs : List Step) → SheetOf s xs → SheetOf (write_steps (written_out xs)) xs
write_out_reads s xs h = sheet-of-out (write_steps (written_out xs)) xs refl (sheet-within s xs h) (omega (arith, unfold_few [] h.written, h.few, ap length h.comes_to))

-- ---- names that agree

-- The same types in force, of equally many names.
record Agree (ns ms : Names) : Type 0 where
  force : (m : TableName) → type_in_force ns m ≡ type_in_force ms m
  many : length ns ≡ length ms

agree-past : (w : WrittenStep) (ns ms : Names) → Agree ns ms → Agree (names_past w ns) (names_past w ms)
agree-past (working x) ns ms a = a
agree-past (using_name n) ns ms a = a
agree-past (declaring n t) ns ms a = record {
  force = λ m. in_force-past ns n t m ∙ ap (λ o. cond (same_name n m) (some t) o) (a.force m) ∙ sym (in_force-past ms n t m);
  many = declare-length ns n t ∙ rw (a.many, a.force n) (sym (declare-length ms n t));
}

agree-known : (w : WrittenStep) (ns ms : Names) → Agree ns ms → is_known w ns ≡ is_known w ms
agree-known (working x) ns ms a = refl
agree-known (declaring n t) ns ms a = refl
agree-known (using_name n) ns ms a = ap is_there (a.force n)

agree-step : (w : WrittenStep) (ns ms : Names) → Agree ns ms → unfolded_step ns w ≡ unfolded_step ms w
agree-step (working x) ns ms a = refl
agree-step (declaring n t) ns ms a = refl
agree-step (using_name n) ns ms a = ap put_there (a.force n)

-- The same comes of a list, and names hold in it if they do from the other names.
record SameFrom (ns ms : Names) (ws : List WrittenStep) : Type 0 where
  names_hold : NamesHold ms ws → NamesHold ns ws
  comes_to : unfolded ns ws ≡ unfolded ms ws

agree-room : (w : WrittenStep) (ns ms : Names) → Agree ns ms → has_room w ns ≡ has_room w ms
agree-room (working x) ns ms a = refl
agree-room (declaring n t) ns ms a = ap (λ k. leb k max_names) (agree-past (declaring n t) ns ms a).many
agree-room (using_name n) ns ms a = refl

agree-from : (ns ms : Names) (ws : List WrittenStep) → Agree ns ms → SameFrom ns ms ws
unfolding unfolded
agree-from ns ms [] a = record { names_hold = λ o. tt; comes_to = refl }
agree-from ns ms (w ∷ ws) a =
    let r = agree-from (names_past w ns) (names_past w ms) ws (agree-past w ns ms a) in
    record {
      names_hold = λ o. (agree-known w ns ms a ∙ o.0, agree-room w ns ms a ∙ o.1, r.names_hold o.2);
      comes_to = rw (agree-step w ns ms a, r.comes_to);
    }

-- ---- but for one name

-- A name is not used, or not before it is declared again.
abbrev pub Unused : TableName → List WrittenStep → Type 0
Unused n [] = Unit {0}
Unused n (working x ∷ ws) = Unused n ws
Unused n (declaring m t ∷ ws) = Where (not (same_name m n)) (Unused n ws)
Unused n (using_name m ∷ ws) = (same_name m n ≡ false) × Unused n ws

same_name-sym : (m n : TableName) → same_name m n ≡ false → same_name n m ≡ false
same_name-sym m n h = go (same_name n m) refl
  where
    go : (b : Bool) → same_name n m ≡ b → b ≡ false
    go true e = let x : n ≡ m = same-name n m e in let y = same_name-refl m in let v : same_name m m ≡ false = rw x at h in let z : ◌≡◌ {A = ℕ} 0 1 = cc in absurd (omega arith)
    go false e = refl

-- The same types in force but for the name n, which the second list has and the first may lack.
record ButFor (n : TableName) (ns ms : Names) : Type 0 where
  force : (m : TableName) → same_name m n ≡ false → type_in_force ns m ≡ type_in_force ms m
  there : is_there (type_in_force ms n) ≡ true
  many : length ns + added (type_in_force ns n) ≡ length ms

fewer-room : {a b : ℕ} → a ≤ b → leb b max_names ≡ true → leb a max_names ≡ true
fewer-room {a} {b} h e = le-leb a max_names (omega (arith, leb-true b max_names e))

added-there : (o : Option Ty) → is_there o ≡ true → added o ≡ 0
added-there none h = let z : ◌≡◌ {A = ℕ} 0 1 = cc in absurd (omega arith)
added-there (some t) h = refl

module _ (n : TableName) where
  -- another name is declared
  but_other : (ns ms : Names) (m : TableName) (t : Ty) → same_name m n ≡ false → ButFor n ns ms → ButFor n (declare ns m t) (declare ms m t)
  but_other ns ms m t other b =
      let mine : type_in_force (declare ns m t) n ≡ type_in_force ns n = in_force-past ns m t n ∙ rw other in
      record {
        force = λ k h. in_force-past ns m t k ∙ ap (λ o. cond (same_name m k) (some t) o) (b.force k h) ∙ sym (in_force-past ms m t k);
        there = rw (in_force-past ms m t n, other) b.there;
        many = omega (arith, ap added mine, declare-length ns m t, declare-length ms m t, ap added (b.force m other), b.many);
      }

  -- it is declared itself, and there is no difference from then on
  but_again : (ns ms : Names) (t : Ty) → ButFor n ns ms → Agree (declare ns n t) (declare ms n t)
  but_again ns ms t b = record {
    force = λ k. in_force-past ns n t k ∙ go k (same_name n k) refl ∙ sym (in_force-past ms n t k);
    many = omega (arith, declare-length ns n t, declare-length ms n t, added-there (type_in_force ms n) b.there, b.many);
  }
    where
      go : (k : TableName) (a : Bool) → same_name n k ≡ a → cond (same_name n k) (some t) (type_in_force ns k) ≡ cond (same_name n k) (some t) (type_in_force ms k)
      go k true e = rw e
      go k false e = rw (e, b.force k (same_name-sym n k e))

  but_from : (ns ms : Names) (ws : List WrittenStep) → ButFor n ns ms → Unused n ws → SameFrom ns ms ws
  unfolding unfolded
  but_from ns ms [] b u = record { names_hold = λ o. tt; comes_to = refl }
  but_from ns ms (working x ∷ ws) b u =
      let r = but_from ns ms ws b u in
      record { names_hold = λ o. (refl, refl, r.names_hold o.2); comes_to = ap (λ ys. x ∷ ys) r.comes_to }
  but_from ns ms (using_name m ∷ ws) b u =
      let r = but_from ns ms ws b u.1 in
      record { names_hold = λ o. (ap is_there (b.force m u.0) ∙ o.0, refl, r.names_hold o.2); comes_to = rw (b.force m u.0, r.comes_to) }
  but_from ns ms (declaring m t ∷ ws) b u = go (same_name m n) refl u (λ c v. but_from (declare ns m t) (declare ms m t) ws c v)
    where
      go : (a : Bool) → same_name m n ≡ a → Where (not a) (Unused n ws)
          → (ButFor n (declare ns m t) (declare ms m t) → Unused n ws → SameFrom (declare ns m t) (declare ms m t) ws) → SameFrom ns ms (declaring m t ∷ ws)
      go true e v later =
          let a : Agree (declare ns m t) (declare ms m t) = rw (same-name m n e) (but_again ns ms t b) in
          let r = agree-from (declare ns m t) (declare ms m t) ws a in
          record { names_hold = λ o. (refl, ap (λ k. leb k max_names) a.many ∙ o.1, r.names_hold o.2); comes_to = r.comes_to }
      go false e v later =
          let c = but_other ns ms m t e b in
          let r = later c v in
          let fewer : length (declare ns m t) ≤ length (declare ms m t) = omega (arith, c.many) in
          record { names_hold = λ o. (refl, fewer-room fewer o.1, r.names_hold o.2); comes_to = r.comes_to }

  -- A declaration whose name is not used after it may as well not stand there.
  unused_from : (ns : Names) (t : Ty) (ws : List WrittenStep) → Unused n ws → SameFrom ns (declare ns n t) ws
  unused_from ns t ws u = but_from ns (declare ns n t) ws start u
    where
      start : ButFor n ns (declare ns n t)
      start = record {
        force = λ m h. sym (in_force-past ns n t m ∙ rw (same_name-sym m n h));
        there = rw (in_force-past ns n t n, same_name-refl n);
        many = sym (declare-length ns n t);
      }

  -- nor after any steps before it: what the list comes to is the same, whether or not names hold in it
  pub unfold_unused : (ns : Names) (t : Ty) (before after : List WrittenStep) → Unused n after → unfolded ns (before ++ after) ≡ unfolded ns (before ++ (declaring n t ∷ after))
  unfolding unfolded
  unfold_unused ns t [] after u = (unused_from ns t after u).comes_to
  unfold_unused ns t (w ∷ before) after u = ap (λ xs. unfolded_step ns w ++ xs) (unfold_unused (names_past w ns) t before after u)

  dropped_hold : (ns : Names) (t : Ty) (before after : List WrittenStep) → Unused n after → NamesHold ns (before ++ (declaring n t ∷ after)) → NamesHold ns (before ++ after)
  dropped_hold ns t [] after u o = (unused_from ns t after u).names_hold o.2
  dropped_hold ns t (w ∷ before) after u o = (o.0, o.1, dropped_hold (names_past w ns) t before after u o.2)

all_without : (before : List WrittenStep) (w : WrittenStep) (after : List WrittenStep) → All WrittenWithin (before ++ (w ∷ after)) → All WrittenWithin (before ++ after)
all_without [] w after h = h.1
all_without (v ∷ before) w after h = (h.0, all_without before w after h.1)

-- "A declaration changes no later answer but through uses": dropped from a sheet that meets neither 15 nor 16 and does not use its name after it, or
-- not before the name is declared again, it leaves a sheet that comes to the same steps.
pub declaration_dropped : (s : List ℕ) (xs : List Step) (h : SheetOf s xs) (before : List WrittenStep) (n : TableName) (t : Ty) (after : List WrittenStep)
    → h.written ≡ before ++ (declaring n t ∷ after) → Unused n after → SheetOf (write_steps (before ++ after)) xs
declaration_dropped s xs h before n t after is u =
    record {
      written = before ++ after;
      bytes = refl;
      within = all_without before (declaring n t) after (rw is at h.within);
      few = omega (arith, h.few, ap length is, length-append before after, length-append before (declaring n t ∷ after));
      names_hold = dropped_hold n [] t before after u (rw is at h.names_hold);
      comes_to = unfold_unused n [] t before after u ∙ ap (unfolded []) (sym is) ∙ h.comes_to;
    }
