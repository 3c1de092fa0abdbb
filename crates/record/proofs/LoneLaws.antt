-- Lone types: what the reading of one, and of two, says of a call's outcome.
use Prim.Native.Nat.{ℕ}
use native.Mathlib.Omega.{arith}
use mathlib.Core.Path.{◌≡◌, refl, sym, ◌∙◌, ap}
use mathlib.Core.List.{List}
use Rattle.std.specs.Prelude.{◌⊎◌, Result, Err}
use Rattle.std.proofs.Common.{inl, inr}
use Rattle.model.specs.Types.{Ty}
use Rattle.format.specs.Reader.{Read, got, stopped, map_read}
use Rattle.format.specs.Records.{read_type}
use Rattle.format.specs.Outcome as format
use Rattle.format.specs.Outcome.{Outcome, accepted, refused, delivery, mapped, bound, both, deliver, unrefused, first, second, refusal_of, lone, place_after, type_length}
use Rattle.limits.specs.Answers.{told}
use Rattle.limits.specs.declared.refusal.Refusal.{Refusal}
use Rattle.record.specs.Answers.{nothing, nothings, lone_of, two_of, refusal_in, Misreads}
use Rattle.record.specs.declared.Misread.{Misread}
use Rattle.record.specs.declared.Misread.TheVariants.{First, Second}

-- ---- outcomes whose value is passed over

pub passed-accepted : {A C : Type 0} (o : Outcome A) → mapped nothing o ≡ accepted 0 → ((a : A) → o ≡ accepted a → C) → C
passed-accepted (accepted a) e f = f a refl
passed-accepted (refused k p) e f = let z : ◌≡◌ {A = ℕ} 0 1 = cc in absurd (omega arith)

pub passed-refused : {A : Type 0} (o : Outcome A) {k p : ℕ} → mapped nothing o ≡ refused k p → o ≡ refused k p
passed-refused (accepted a) e = let z : ◌≡◌ {A = ℕ} 0 1 = cc in absurd (omega arith)
passed-refused (refused j q) {k} {p} e = let x : j ≡ k = cc in let y : q ≡ p = cc in rw (x, y)

pub mapped-refused : {A B : Type 0} (f : A → B) {o : Outcome A} {k p : ℕ} → o ≡ refused k p → mapped f o ≡ refused k p
mapped-refused f e = ap (mapped f) e

-- the exit of a `?` after the reading of a type: the call's outcome is the refusal that the reading had
module _ {A B : Type 0} (o : Outcome A) (r : Refusal) (read : lone_of (Err r) ≡ mapped nothing o) where
  pub mapped_refusal : (f : A → B) → told (Err r) ≡ mapped f o
  mapped_refusal f = sym (ap (mapped f) (passed-refused o (sym read)))

  pub bound_refusal : (f : A → Outcome B) → told (Err r) ≡ bound f o
  bound_refusal f = sym (ap (bound f) (passed-refused o (sym read)))

-- the same as a check finds it, of bytes to deliver: the reading was accepted, or what is delivered is its refusal
pub delivered_reading : {A : Type 0} (f : A → List ℕ) (o : Outcome A) (buffer : List ℕ) → (deliver (mapped f o) buffer ≡ deliver (mapped f o) buffer) × ((mapped nothing o ≡ accepted 0) ⊎ (deliver (mapped f o) buffer ≡ delivery (mapped nothing o) buffer))
unfolding deliver
delivered_reading f (accepted a) buffer = (refl, inl refl)
delivered_reading f (refused k p) buffer = (refl, inr refl)

module _ {A B : Type 0} (x : Outcome A) (y : Outcome B) where
  pub both-refused : {C : Type 0} (f : A → B → Outcome C) {k p : ℕ} → both nothings x y ≡ refused k p → both f x y ≡ refused k p
  both-refused f e = go x y e
    where
      go : (x : Outcome A) (y : Outcome B) {k p : ℕ} → both nothings x y ≡ refused k p → both f x y ≡ refused k p
      go (refused j q) y e = cc
      go (accepted a) (refused j q) e = cc
      go (accepted a) (accepted b) e = let z : ◌≡◌ {A = ℕ} 0 1 = cc in absurd (omega arith)

  pub both-accepted : {C : Type 0} → both nothings x y ≡ accepted 0 → ((a : A) (b : B) → x ≡ accepted a → y ≡ accepted b → C) → C
  both-accepted {C} e f = go x y refl refl e
    where
      go : (x' : Outcome A) (y' : Outcome B) → x ≡ x' → y ≡ y' → both nothings x' y' ≡ accepted 0 → C
      go (refused j q) y' g h e = let z : ◌≡◌ {A = ℕ} 0 1 = cc in absurd (omega arith)
      go (accepted a) (refused j q) g h e = let z : ◌≡◌ {A = ℕ} 0 1 = cc in absurd (omega arith)
      go (accepted a) (accepted b) g h e = f a b g h

  pub both-passed : both nothings x y ≡ accepted 0 → (mapped nothing x ≡ accepted 0) × (mapped nothing y ≡ accepted 0)
  both-passed e = both-accepted e λ a b g h. (ap (mapped nothing) g, ap (mapped nothing) h)

-- ---- which of two was refused

-- the refusal, whichever of the two it is of
abbrev pub whichever_of : format.Refusal → Outcome ℕ
whichever_of unrefused = accepted 0
whichever_of (first k p) = refused k p
whichever_of (second k p) = refused k p

module _ {A B : Type 0} (x : Outcome A) (y : Outcome B) where
  pub whichever_both : whichever_of (refusal_of x y) ≡ both nothings x y
  whichever_both = go x y
    where
      go : (x : Outcome A) (y : Outcome B) → whichever_of (refusal_of x y) ≡ both nothings x y
      go (accepted a) (accepted b) = refl
      go (accepted a) (refused k p) = refl
      go (refused k p) y = refl

  -- what reading the two answered, for a call that need not say which of them was refused
  pub both_read : (two : Result (Unit {0}) Misread) → two_of two ≡ refusal_of x y → whichever_of (two_of two) ≡ both nothings x y
  both_read two read = ap whichever_of read ∙ whichever_both

  -- the exit of a `?` after the reading of the two
  pub both_refusal : {C : Type 0} (m : Misread) (r : Refusal) → two_of (Err m) ≡ refusal_of x y → Misreads m r → (f : A → B → Outcome C) → told (Err r) ≡ both f x y
  both_refusal {C} m r read misreads f = rw misreads (go m read)
    where
      go : (m : Misread) → two_of (Err m) ≡ refusal_of x y → told (Err (refusal_in m)) ≡ both f x y
      go (First q) e = sym (both-refused x y f (sym (both_read (Err (First q)) e)))
      go (Second q) e = sym (both-refused x y f (sym (both_read (Err (Second q)) e)))

-- ---- the type that begins some bytes

after_map : {A B : Type 0} (f : A → B) (m : Read A) → place_after (map_read f m) ≡ place_after m
after_map f (got a n) = refl
after_map f (stopped k p) = refl

pub front_read : (s : List ℕ) (f : Ty → ℕ) {m : Read ℕ} → m ≡ map_read f (read_type s 0) → place_after m ≡ type_length s
unfolding type_length
front_read s f e = ap place_after e ∙ after_map f (read_type s 0)
