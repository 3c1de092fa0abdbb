-- A separate validation by what was read: an input that was refused is told; once both were read, neither is.
use Prim.Native.Nat.{ℕ}
use native.Mathlib.Omega.{arith}
use mathlib.Core.List.{List}
use mathlib.Core.Path.{◌≡◌, refl}
use Rattle.std.specs.Prelude.{Result, Ok, Err}
use Rattle.std.specs.Result.{IsErrAnd}
use Rattle.std.proofs.lemmas.Result.{err_from_is_err_and}
use Rattle.model.specs.Types.{Ty}
use Rattle.format.specs.Records.{write_ty}
use Rattle.format.specs.Outcome.{Outcome, accepted, refused, mapped, both, unrefused, refusal_of, lone, deliver}
use Rattle.limits.specs.declared.refusal.Refusal.{Refusal}
use Rattle.lent.specs.Written.{delivered}
use Rattle.record.specs.Answers.{nothings, two_of}
use Rattle.record.specs.declared.Misread.{Misread}
use Rattle.record.specs.declared.Misread.TheVariants.{First, Second}
use Rattle.validation.specs.Separate.{being_read, separate, separately}
use Rattle.validate.specs.Answers.{separate_of}
use Rattle.validate.specs.Refuses.{unvalidated, MisreadAs, NotReading}
use Rattle.validate.specs.declared.Unvalidated.{Unvalidated}

both_read : (x y : Outcome Ty) → unrefused ≡ refusal_of x y → both nothings x y ≡ accepted 0
both_read (accepted a) (accepted b) e = refl
both_read (accepted a) (refused k p) e = let z : ◌≡◌ {A = ℕ} 0 1 = cc in absurd (omega arith)
both_read (refused k p) y e = let z : ◌≡◌ {A = ℕ} 0 1 = cc in absurd (omega arith)

one-refused : (g : Ty → Ty → Outcome (List ℕ)) (m : Misread) (x y : Outcome Ty) → two_of (Err m) ≡ refusal_of x y → (buffer : List ℕ) → separate_of (Err (unvalidated m)) buffer ≡ separate (deliver (both g x y) buffer) (being_read (refusal_of x y))
unfolding deliver
one-refused g (First r) (accepted a) (accepted b) e buffer = let z : ◌≡◌ {A = ℕ} 0 1 = cc in absurd (omega arith)
one-refused g (First r) (accepted a) (refused k p) e buffer = let z : ◌≡◌ {A = ℕ} 0 1 = cc in absurd (omega arith)
one-refused g (First r) (refused k p) y e buffer = cc
one-refused g (Second r) (accepted a) (accepted b) e buffer = let z : ◌≡◌ {A = ℕ} 0 1 = cc in absurd (omega arith)
one-refused g (Second r) (accepted a) (refused k p) e buffer = cc
one-refused g (Second r) (refused k p) y e buffer = let z : ◌≡◌ {A = ℕ} 0 1 = cc in absurd (omega arith)

module _ (s t : List ℕ) where
  pub both_good : unrefused ≡ refusal_of (lone s) (lone t) → both nothings (lone s) (lone t) ≡ accepted 0
  both_good = both_read (lone s) (lone t)

  module _ (f : Ty → Ty → Outcome Ty) where
    abbrev call : Ty → Ty → Outcome (List ℕ)
    call a b = mapped write_ty (f a b)

    pub tells_input : (m : Misread) (r : Result ℕ Unvalidated) (buffer : List ℕ) → two_of (Err m) ≡ refusal_of (lone s) (lone t) → IsErrAnd r (MisreadAs m) → separate_of r buffer ≡ separately f s t buffer
    tells_input m r buffer e is = let u = err_from_is_err_and r is in rw (u.1, u.2) (one-refused call m (lone s) (lone t) e buffer)

    module _ (e : unrefused ≡ refusal_of (lone s) (lone t)) where
      pub tells_accepted : (n : ℕ) (buffer after : List ℕ) → delivered (Ok n) after ≡ deliver (both call (lone s) (lone t)) buffer → separate_of (Ok n) after ≡ separately f s t buffer
      tells_accepted n buffer after d = rw (d, ← e)

      pub tells_neither : (r : Refusal) (u : Unvalidated) (buffer after : List ℕ) → delivered (Err r) after ≡ deliver (both call (lone s) (lone t)) buffer → NotReading r u → separate_of (Err u) after ≡ separately f s t buffer
      tells_neither r u buffer after d is = rw (is, d, ← e)
