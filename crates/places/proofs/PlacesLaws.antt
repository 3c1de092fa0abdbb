-- Laws of places: a step's bytes are at least its mark and end within the sheet; the step that a place belongs to is found step by step,
-- and as many steps on as there are bytes left are enough.
use Prim.Native.Nat.{ℕ, zero, suc, ◌+◌, ◌≤◌, ◌<◌}
use native.Mathlib.Omega.{arith}
use Rattle.std.specs.Prelude.{Bool, List, get_or}
use Rattle.std.proofs.Math.Bool.{true, false, cond}
use Rattle.std.proofs.Math.Option.{Option, none, some}
use Rattle.std.proofs.Math.Path.{◌≡◌, refl, sym, ap}
use Rattle.std.proofs.Common.{◌∙◌}
use Rattle.std.proofs.Math.ListN.{length}
use Rattle.std.proofs.Math.Dec.{ltb}
use borrow.Author.Tests.{lt-ltb, le-ltb, ltb-true, ltb-false}
use Rattle.model.specs.Refusals.{ended, unmarked}
use Rattle.format.specs.Reader.{Read, got, stopped, byte}
use Rattle.format.specs.ReaderLaws.{split}
use Rattle.format.specs.Records.{or_stop}
use Rattle.machine.specs.Steps.{Opcode, opcodes}
use Rattle.machine.specs.Written.{WrittenStep}
use Rattle.machine.specs.Sheet.{opcode_in, opcode_from, argument_from}
use Rattle.places.specs.Places.{ToldStep, told_step, bare_from, end_of_read, mark_at, end_at, step_on, step_of}
use Rattle.places.proofs.ReadersStay.{ReadStays, stays_argument}

-- ---- a step's bytes

or_stop-past : {A : Type 0} (o : Option A) (k p at : ℕ) (a : A) (next : ℕ) → or_stop o k p at ≡ got a next → at ≡ next
or_stop-past none k p at a next e = let z : ◌≡◌ {A = ℕ} 0 1 = cc in absurd (omega arith)
or_stop-past (some b) k p at a next e = cc

module _ (s : List ℕ) where
  byte_past : (p at b next : ℕ) → byte s p at ≡ got b next → (at < length s) × (suc at ≡ next)
  unfolding byte
  byte_past p at b next e = go (ltb at (length s)) refl e
    where
      go : (t : Bool) → ltb at (length s) ≡ t → cond t (got (get_or s at 0) (suc at)) (stopped ended p) ≡ got b next → (at < length s) × (suc at ≡ next)
      go true h e = (ltb-true at (length s) h, cc)
      go false h e = let z : ◌≡◌ {A = ℕ} 0 1 = cc in absurd (omega arith)

  -- A mark has two bytes, and they are there.
  pub opcode-past : (p at : ℕ) (c : Opcode) (next : ℕ) → opcode_from s p at ≡ got c next → (at + 2 ≡ next) × (next ≤ length s)
  unfolding opcode_from
  opcode-past p at c next e =
      split (byte s p at) e λ x m₁ e₁ e₂.
      split (byte s p m₁) e₂ λ y m₂ e₃ e₄.
      let third = or_stop-past (opcode_in opcodes x y) unmarked p m₂ c next e₄ in
      let first = byte_past p at x m₁ e₁ in
      let second = byte_past p m₁ y m₂ e₃ in
      (omega arith, omega arith)

  -- A step that is read to its end has its mark's bytes at least, and ends where the bytes do at the latest.
  pub bare-past : (at : ℕ) (w : WrittenStep) (next : ℕ) → bare_from s at at ≡ got w next → (at + 2 ≤ next) × (next ≤ length s)
  unfolding bare_from
  bare-past at w next e =
      split (opcode_from s at at) e λ c m e₁ e₂.
      let marked = opcode-past at at c m e₁ in
      let low : at ≤ m = omega arith in
      let high : at ≤ length s = omega arith in
      let rest : ReadStays s at m (argument_from s c at m) = (stays_argument s at at (omega arith) high c).kept m low marked.1 in
      let past : ReadStays s at m (got w next) = rw e₂ at rest in
      (omega (arith, past.0), past.1)

  -- A step has at least the place where it begins.
  pub end-past : (at : ℕ) → at < length s → at < end_at s at
  end-past at h = go (bare_from s at at) refl
    where
      go : (r : Read WrittenStep) → bare_from s at at ≡ r → at < end_of_read s r
      go (got w next) e = omega (arith, (bare-past at w next e).0)
      go (stopped k p) e = omega arith

  -- ---- from step to step

  -- where the bytes have ended no step begins
  pub step_on-end : (n before at p : ℕ) → length s ≤ at → step_on s n before at p ≡ none
  unfolding step_on
  step_on-end zero before at p h = refl
  step_on-end (suc n) before at p h = rw (le-ltb at (length s) h)

  -- As many steps as bytes are left are enough: more change nothing.
  step_on-enough : (n m before at p : ℕ) → length s ≤ at + n → length s ≤ at + m → step_on s n before at p ≡ step_on s m before at p
  unfolding step_on
  step_on-enough zero m before at p h k = sym (step_on-end m before at p (omega arith))
  step_on-enough (suc n) zero before at p h k = step_on-end (suc n) before at p (omega arith)
  step_on-enough (suc n) (suc m) before at p h k = go (ltb at (length s)) refl λ more.
      let past = end-past at more in
      step_on-enough n m (suc before) (end_at s at) p (omega arith) (omega arith)
    where
      go : (t : Bool) → ltb at (length s) ≡ t → (at < length s → step_on s n (suc before) (end_at s at) p ≡ step_on s m (suc before) (end_at s at) p)
          → cond t (cond (ltb p (end_at s at)) (some (told_step (suc before) (mark_at s at))) (step_on s n (suc before) (end_at s at) p)) none
          ≡ cond t (cond (ltb p (end_at s at)) (some (told_step (suc before) (mark_at s at))) (step_on s m (suc before) (end_at s at) p)) none
      go true e rest = rw (rest (ltb-true at (length s) e))
      go false e rest = refl

  module _ (n before at p : ℕ) (more : at < length s) (enough : length s ≤ at + n) where
    -- the place is the step's that begins here
    pub step_on-here : p < end_at s at → step_on s n before at p ≡ some (told_step (suc before) (mark_at s at))
    unfolding step_on
    step_on-here h = go n enough
      where
        go : (n : ℕ) → length s ≤ at + n → step_on s n before at p ≡ some (told_step (suc before) (mark_at s at))
        go zero k = absurd (omega arith)
        go (suc n) k = rw (lt-ltb at (length s) more, lt-ltb p (end_at s at) h)

    -- it is one's after it
    pub step_on-next : (m : ℕ) → length s ≤ end_at s at + m → end_at s at ≤ p → step_on s n before at p ≡ step_on s m (suc before) (end_at s at) p
    unfolding step_on
    step_on-next m enough-too h = go n enough
      where
        go : (n : ℕ) → length s ≤ at + n → step_on s n before at p ≡ step_on s m (suc before) (end_at s at) p
        go zero k = absurd (omega arith)
        go (suc n) k =
            let past = end-past at more in
            rw (lt-ltb at (length s) more, le-ltb p (end_at s at) h) (step_on-enough n m (suc before) (end_at s at) p (omega arith) enough-too)

  -- ---- every byte of a sheet is a step's, and no place past the end is

  byte-from : (n before at p : ℕ) → length s ≤ at + n → at ≤ p → p < length s → (x : ToldStep) × (step_on s n before at p ≡ some x)
  byte-from zero before at p enough from inside = absurd (omega arith)
  byte-from (suc n) before at p enough from inside = go (ltb p (end_at s at)) refl λ behind.
      let past = end-past at more in
      byte-from n (suc before) (end_at s at) p (omega arith) behind inside
    where
      more : at < length s
      more = omega arith

      go : (b : Bool) → ltb p (end_at s at) ≡ b → (end_at s at ≤ p → (x : ToldStep) × (step_on s n (suc before) (end_at s at) p ≡ some x))
          → (x : ToldStep) × (step_on s (suc n) before at p ≡ some x)
      go true e rest = (told_step (suc before) (mark_at s at), step_on-here (suc n) before at p more enough (ltb-true p (end_at s at) e))
      go false e rest =
          let behind = ltb-false p (end_at s at) e in
          let past = end-past at more in
          let (x, is) = rest behind in
          (x, step_on-next (suc n) before at p more enough n (omega arith) behind ∙ is)

  pub byte-of-step : (p : ℕ) → p < length s → (x : ToldStep) × (step_of s p ≡ some x)
  unfolding step_of
  byte-of-step p h = byte-from (length s) 0 0 p (omega arith) (omega arith) h

  past-from : (n before at p : ℕ) → length s < p → step_on s n before at p ≡ none
  unfolding step_on
  past-from zero before at p h = refl
  past-from (suc n) before at p h = go (ltb at (length s)) (bare_from s at at) refl (past-from n (suc before) (end_at s at) p h)
    where
      go : (t : Bool) (r : Read WrittenStep) → bare_from s at at ≡ r → step_on s n (suc before) (end_at s at) p ≡ none
          → cond t (cond (ltb p (end_at s at)) (some (told_step (suc before) (mark_at s at))) (step_on s n (suc before) (end_at s at) p)) none ≡ none
      go false r e rest = refl
      go true (got w next) e rest =
          let inside = (bare-past at w next e).1 in
          let end : end_at s at ≡ next = ap (end_of_read s) e in
          let far : end_at s at ≤ p = omega (arith, end) in
          rw (le-ltb p (end_at s at) far, rest)
      go true (stopped k q) e rest =
          let end : end_at s at ≡ suc (length s) = ap (end_of_read s) e in
          let far : end_at s at ≤ p = omega (arith, end) in
          rw (le-ltb p (end_at s at) far, rest)

  pub past_of_none : (p : ℕ) → length s < p → step_of s p ≡ none
  unfolding step_of
  past_of_none p h = past-from (length s) 0 0 p h
