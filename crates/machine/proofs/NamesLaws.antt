-- Names in force and what comes of them: equal names are told by the test; a declaration puts its type in force for its name and for no other;
-- a use is a put of that type, and what is written later does not change it. A written step and what it comes to are of one height; what is
-- unfolded keeps every limit and has no more steps.
use Rattle.std.specs.Prelude.{ℕ, suc, ◌+◌, ◌≤◌, Bool, false, ◌||◌, cond, ◌≡◌, eqb}
use native.Mathlib.Omega.{arith}
use Rattle.std.proofs.Math.Bool.{true}
use mathlib.Core.List.{List, [], ◌∷◌, ◌++◌, append_assoc}
use Rattle.std.proofs.Math.Option.{Option, none, some}
use Rattle.std.proofs.Math.Path.{refl, sym, ap}
use Rattle.std.proofs.Common.{◌∙◌, eqb-true, eq-eqb}
use Rattle.std.proofs.Math.ListN.{length, length-append}
use Rattle.model.specs.Types.{Ty}
use Rattle.model.specs.Within.{All, Within}
use Rattle.validation.proofs.OutcomeLaws.{both_true}
use Rattle.machine.specs.SheetLimits.{max_stack}
use Rattle.machine.specs.Steps.{Step, put, takes, height_past, StepWithin}
use Rattle.machine.specs.Written.{TableName, WrittenStep, working, declaring, using_name, written_as, WrittenWithin}
use Rattle.machine.specs.Names.{same_name, Naming, naming, Names, type_in_force, declare, names_past, is_there, is_known, put_there, unfolded_step, unfolded}
use Rattle.machine.specs.WellFormed.{height_after, Heights}

-- ---- equal names

pub same-name : (m n : TableName) → same_name m n ≡ true → m ≡ n
same-name [] [] h = refl
same-name [] (y ∷ n) h = let z : ◌≡◌ {A = ℕ} 0 1 = cc in absurd (omega arith)
same-name (x ∷ m) [] h = let z : ◌≡◌ {A = ℕ} 0 1 = cc in absurd (omega arith)
same-name (x ∷ m) (y ∷ n) h = let (a, b) = both_true (eqb x y) (same_name m n) h in rw (eqb-true x y a, same-name m n b)

pub same_name-refl : (n : TableName) → same_name n n ≡ true
same_name-refl [] = refl
same_name-refl (x ∷ n) = rw (eq-eqb x x refl, same_name-refl n)

-- ---- what is in force, and what comes of it

-- After a declaration the type of that name is in force, and of every other name the one that was.
pub in_force-past : (ns : Names) (n : TableName) (t : Ty) (m : TableName) → type_in_force (declare ns n t) m ≡ cond (same_name n m) (some t) (type_in_force ns m)
in_force-past [] n t m = refl
in_force-past (naming k u ∷ ns) n t m = go (same_name k n) refl (same_name n m) refl (in_force-past ns n t m)
  where
    go : (a : Bool) → same_name k n ≡ a → (b : Bool) → same_name n m ≡ b → type_in_force (declare ns n t) m ≡ cond (same_name n m) (some t) (type_in_force ns m)
        → type_in_force (cond a (naming n t ∷ ns) (naming k u ∷ declare ns n t)) m ≡ cond b (some t) (cond (same_name k m) (some u) (type_in_force ns m))
    go true e true f r = rw f
    go true e false f r = rw (f, same-name k n e, f)
    go false e true f r = let x : same_name k m ≡ false = rw (← same-name n m f) e in rw (x, r, f)
    go false e false f r = rw (r, f)

-- How many names a declaration adds: none if the name is there already, so that so many different names are in force as are listed.
abbrev pub added : Option Ty → ℕ
added none = 1
added (some t) = 0

pub declare-length : (ns : Names) (n : TableName) (t : Ty) → length (declare ns n t) ≡ length ns + added (type_in_force ns n)
declare-length [] n t = refl
declare-length (naming k u ∷ ns) n t = go (same_name k n) (declare-length ns n t)
  where
    go : (a : Bool) → length (declare ns n t) ≡ length ns + added (type_in_force ns n)
        → length (cond a (naming n t ∷ ns) (naming k u ∷ declare ns n t)) ≡ suc (length ns) + added (cond a (some u) (type_in_force ns n))
    go true r = omega arith
    go false r = omega arith

-- A use is a put of the type then in force, and a declaration is nothing.
pub use_unfolds : (ns : Names) (n : TableName) (t : Ty) (ws : List WrittenStep) → type_in_force ns n ≡ some t → unfolded ns (using_name n ∷ ws) ≡ put t ∷ unfolded ns ws
unfolding unfolded
use_unfolds ns n t ws e = rw e

pub declaration_unfolds : (ns : Names) (n : TableName) (t : Ty) (ws : List WrittenStep) → unfolded ns (declaring n t ∷ ws) ≡ unfolded (declare ns n t) ws
unfolding unfolded
declaration_unfolds ns n t ws = refl

-- The names in force after a list.
abbrev pub names_after : List WrittenStep → Names → Names
names_after [] ns = ns
names_after (w ∷ ws) ns = names_after ws (names_past w ns)

-- "Earlier puts keep theirs": what a list comes to is not changed by what is written after it.
pub unfold_append : (ns : Names) (ws vs : List WrittenStep) → unfolded ns (ws ++ vs) ≡ unfolded ns ws ++ unfolded (names_after ws ns) vs
unfolding unfolded
unfold_append ns [] vs = refl
unfold_append ns (w ∷ ws) vs =
    let xs = unfolded_step ns w in
    let ms = names_past w ns in
    ap (λ ys. xs ++ ys) (unfold_append ms ws vs) ∙ sym (append_assoc xs (unfolded ms ws) (unfolded (names_after ws ms) vs))

-- Whether a list declares a name.
abbrev pub declares : List WrittenStep → TableName → Bool
declares [] n = false
declares (working x ∷ ws) n = declares ws n
declares (declaring m t ∷ ws) n = same_name m n || declares ws n
declares (using_name m ∷ ws) n = declares ws n

-- "Name never declared before this use": a name is known after a list exactly if it was before, or the list declares it.
pub known-declared : (ws : List WrittenStep) (ns : Names) (n : TableName) → is_there (type_in_force (names_after ws ns) n) ≡ (declares ws n || is_there (type_in_force ns n))
known-declared [] ns n = refl
known-declared (working x ∷ ws) ns n = known-declared ws ns n
known-declared (using_name m ∷ ws) ns n = known-declared ws ns n
known-declared (declaring m t ∷ ws) ns n = known-declared ws (declare ns m t) n ∙ rw (in_force-past ns m t n) (go (same_name m n) (declares ws n))
  where
    go : (a b : Bool) → (b || is_there (cond a (some t) (type_in_force ns n))) ≡ ((a || b) || is_there (type_in_force ns n))
    go true true = refl
    go true false = refl
    go false b = refl

-- ---- a name that is known

pub known_use : {C : Type 0} (o : Option Ty) → is_there o ≡ true → ((t : Ty) → o ≡ some t → C) → C
known_use none h f = let z : ◌≡◌ {A = ℕ} 0 1 = cc in absurd (omega arith)
known_use (some t) h f = f t refl

-- ---- heights

-- A written step leaves the height that what it comes to leaves.
pub unfold_height : (ns : Names) (w : WrittenStep) (h : ℕ) → is_known w ns ≡ true → height_after (unfolded_step ns w) h ≡ height_past (written_as w) h
unfold_height ns (working x) h k = refl
unfold_height ns (declaring n t) h k = omega arith
unfold_height ns (using_name n) h k = known_use (type_in_force ns n) k λ t e. rw e

-- No step of a list lacks types or lays down one too many if none of the written one does, and the other way round.
module _ (ns : Names) (w : WrittenStep) (h : ℕ) (xs : List Step) (known : is_known w ns ≡ true) where
  pub heights-of : takes (written_as w) ≤ h → height_past (written_as w) h ≤ max_stack → Heights xs (height_past (written_as w) h) → Heights (unfolded_step ns w ++ xs) h
  heights-of enough room rest = go w known enough room rest
    where
      go : (v : WrittenStep) → is_known v ns ≡ true → takes (written_as v) ≤ h → height_past (written_as v) h ≤ max_stack → Heights xs (height_past (written_as v) h) → Heights (unfolded_step ns v ++ xs) h
      go (working x) k a b c = (a, b, c)
      go (declaring n t) k a b c = let same : height_past (written_as (declaring n t)) h ≡ h = omega arith in rw same at c
      go (using_name n) k a b c = known_use (type_in_force ns n) k λ t e. rw e (a, b, c)

  pub heights-back : h ≤ max_stack → Heights (unfolded_step ns w ++ xs) h → (takes (written_as w) ≤ h) × (height_past (written_as w) h ≤ max_stack) × Heights xs (height_past (written_as w) h)
  heights-back low all = go w known all
    where
      go : (v : WrittenStep) → is_known v ns ≡ true → Heights (unfolded_step ns v ++ xs) h → (takes (written_as v) ≤ h) × (height_past (written_as v) h ≤ max_stack) × Heights xs (height_past (written_as v) h)
      go (working x) k a = a
      go (declaring n t) k a = let same : height_past (written_as (declaring n t)) h ≡ h = omega arith in (omega arith, rw same low, rw same a)
      go (using_name n) k a = known_use (type_in_force ns n) k λ t e. rw e at a

-- ---- limits

abbrev pub NamingWithin : Naming → Type 0
NamingWithin (naming n t) = Within t

module _ (n : TableName) where
  pub in_force-within : (ns : Names) (t : Ty) → All NamingWithin ns → type_in_force ns n ≡ some t → Within t
  in_force-within [] t h e = let z : ◌≡◌ {A = ℕ} 0 1 = cc in absurd (omega arith)
  in_force-within (naming m u ∷ ns) t h e = go (same_name m n) e (λ k. in_force-within ns t h.1 k)
    where
      go : (b : Bool) → cond b (some u) (type_in_force ns n) ≡ some t → (type_in_force ns n ≡ some t → Within t) → Within t
      go true e r = let w : u ≡ t = cc in rw (← w) h.0
      go false e r = r e

  pub declare-within : (ns : Names) (t : Ty) → All NamingWithin ns → Within t → All NamingWithin (declare ns n t)
  declare-within [] t h w = (w, tt)
  declare-within (naming m u ∷ ns) t h w = go (same_name m n) (declare-within ns t h.1 w)
    where
      go : (b : Bool) → All NamingWithin (declare ns n t) → All NamingWithin (cond b (naming n t ∷ ns) (naming m u ∷ declare ns n t))
      go true r = (w, h.1)
      go false r = (h.0, r)

pub past-within : (w : WrittenStep) (ns : Names) → WrittenWithin w → All NamingWithin ns → All NamingWithin (names_past w ns)
past-within (working x) ns v h = h
past-within (declaring n t) ns v h = declare-within n ns t h v.1
past-within (using_name n) ns v h = h

put-within : (o : Option Ty) → ((t : Ty) → o ≡ some t → Within t) → (xs : List Step) → All StepWithin xs → All StepWithin (put_there o ++ xs)
put-within none f xs h = h
put-within (some t) f xs h = (f t refl, h)

step-within : (ns : Names) (w : WrittenStep) → All NamingWithin ns → WrittenWithin w → (xs : List Step) → All StepWithin xs → All StepWithin (unfolded_step ns w ++ xs)
step-within ns (working x) h v xs k = (v, k)
step-within ns (declaring n t) h v xs k = k
step-within ns (using_name n) h v xs k = put-within (type_in_force ns n) (λ t e. in_force-within n ns t h e) xs k

-- What is unfolded keeps every limit.
pub unfold_within : (ns : Names) (ws : List WrittenStep) → All NamingWithin ns → All WrittenWithin ws → All StepWithin (unfolded ns ws)
unfolding unfolded
unfold_within ns [] h v = tt
unfold_within ns (w ∷ ws) h v = step-within ns w h v.0 (unfolded (names_past w ns) ws) (unfold_within (names_past w ns) ws (past-within w ns v.0 h) v.1)

put-few : (o : Option Ty) → length (put_there o) ≤ 1
put-few none = omega arith
put-few (some t) = omega arith

step-few : (ns : Names) (w : WrittenStep) → length (unfolded_step ns w) ≤ 1
step-few ns (working x) = omega arith
step-few ns (declaring n t) = omega arith
step-few ns (using_name n) = put-few (type_in_force ns n)

-- There are no more steps than are written.
pub unfold_few : (ns : Names) (ws : List WrittenStep) → length (unfolded ns ws) ≤ length ws
unfolding unfolded
unfold_few ns [] = omega arith
unfold_few ns (w ∷ ws) = omega (arith, length-append (unfolded_step ns w) (unfolded (names_past w ns) ws), step-few ns w, unfold_few (names_past w ns) ws)
