-- What a rule wrote to a buffer, and what a pervading makes of bytes that are types.
use Rattle.std.specs.Prelude.{Ok, Err}
use Prim.Native.Nat.{ℕ}
use native.Mathlib.Omega.{arith}
use mathlib.Core.Bool.{Bool, true, false, cond}
use mathlib.Core.List.{List, ◌++◌}
use mathlib.Core.Logic.{◌⊎◌, inl, inr}
use mathlib.Core.Option.{none, some}
use mathlib.Core.Path.{◌≡◌, refl, sym, ◌∙◌, ap}
use lib.ListN.{length, drop, length-append}
use lib.Seq.{take-append_seam}
use lib.Dec.{leb}
use borrow.Author.Tests.{leb-false}
use Rattle.model.specs.Refusals.{unpervaded, too_short}
use Rattle.model.specs.Types.{Shape, Scalar, Ty, ty, shape_of, scalar_of}
use Rattle.model.specs.Within.{Within}
use Rattle.format.specs.Records.{write_ty}
use Rattle.format.specs.Suffices.{suffices}
use Rattle.format.specs.Outcome.{Outcome, accepted, refused, mapped, both, delivery, deliver}
use Rattle.limits.specs.Answers.{number_of}
use Rattle.limits.specs.declared.refusal.Refusal.{Refusal}
use Rattle.limits.specs.declared.refusal.Reason.{Reason}
use Rattle.limits.specs.declared.refusal.Reason.TheVariants.{TooShort}
use Rattle.lent.specs.Written.{Written, delivered, Puts, Short}
use Rattle.record.specs.Answers.{nothings}
use Rattle.rules.specs.PervadeInSheets.{pervade_in_sheets}
use Rattle.rules.specs.Scalars.{union}
use Rattle.machine.specs.Run.{pervade_types}
use Rattle.record.proofs.LoneLaws.{both-accepted}
use Rattle.join.specs.ShapesLaws.{by-scalars}
use Rattle.tops.specs.Answers.{at_start}

-- ---- what a rule wrote

-- one reason alone has its number
reason_short : (r : Reason) → number_of r ≡ too_short → r ≡ TooShort
reason_short TooShort e = refl
reason_short r e = absurd (omega arith)

abbrev refusal : Reason → ℕ → Refusal
refusal k p = record { 0 = k; 1 = p }

refusal_short : (r : Refusal) → number_of r.0 ≡ too_short → r.1 ≡ 0 → r ≡ record { 0 = TooShort; 1 = 0 }
refusal_short r e place = ap (λ k. refusal k r.1) (reason_short r.0 e) ∙ ap (refusal TooShort) place

module _ (o : Outcome Ty) (w : Written) (out : List ℕ) where
  -- where the rule does not refuse, the buffer may: it is then shorter than a type
  pub delivered-puts : (before : List ℕ) → delivered w out ≡ deliver (mapped write_ty o) before
      → ((t : Ty) → o ≡ accepted t → Within t) → Puts w out (mapped write_ty o) ⊎ Short w out
  unfolding deliver
  delivered-puts before e keeps = go w o refl e
    where
      go : (v : Written) (x : Outcome Ty) → o ≡ x → delivered v out ≡ deliver (mapped write_ty x) before → Puts v out (mapped write_ty x) ⊎ Short v out
      go (Err r) (refused j q) same e = inl (cc)
      go (Ok n) (refused j q) same e = let z : ◌≡◌ {A = ℕ} 0 1 = cc in absurd (omega arith)
      go v (accepted t) same e = fits (leb (length (write_ty t)) (length before)) refl v e
        where
          fits : (b : Bool) → leb (length (write_ty t)) (length before) ≡ b → (v : Written)
              → delivered v out ≡ cond b (delivery (accepted (length (write_ty t))) (write_ty t ++ drop (length (write_ty t)) before)) (delivery (refused too_short 0) before)
              → Puts v out (accepted (write_ty t)) ⊎ Short v out
          fits true h (Err r) e = let z : ◌≡◌ {A = ℕ} 0 1 = cc in absurd (omega arith)
          fits true h (Ok n) e =
              let x : n ≡ length (write_ty t) = cc in
              let y : out ≡ write_ty t ++ drop (length (write_ty t)) before = cc in
              inl (rw (x, y) (ap accepted (sym (take-append_seam (write_ty t) (drop (length (write_ty t)) before))), rw length-append (omega arith)))
          fits false h (Ok n) e = let z : ◌≡◌ {A = ℕ} 0 1 = cc in absurd (omega arith)
          fits false h (Err r) e =
              let k : number_of r.0 ≡ too_short = cc in
              let x : r ≡ refusal TooShort 0 = refusal_short r k (cc) in
              let z : out ≡ before = cc in
              inr (ap Err x, rw z (omega (arith, leb-false (length (write_ty t)) (length before) h, suffices t (keeps t same))))

-- ---- a pervading

module _ (f g : Bool) (a b : Outcome Ty) {s t : Shape} (first : mapped shape_of a ≡ accepted s) (second : mapped shape_of b ≡ accepted t) where
  abbrev Pervaded : Outcome (List ℕ)
  Pervaded = both (λ t u. mapped write_ty (at_start (pervade_types f g t u))) a b

  pub types-clash : both nothings a b ≡ accepted 0 → pervade_in_sheets f g s t ≡ none → Pervaded ≡ refused unpervaded 0
  unfolding pervade_types
  types-clash good e = by-scalars a b first second _ (λ k l. refused unpervaded 0) clash ∙ both-accepted a b good (λ t u x y. rw (x, y))
    where
      clash : (k l : Scalar) → mapped write_ty (at_start (pervade_types f g (ty s k) (ty t l))) ≡ refused unpervaded 0
      clash k l = rw e

  pub types-pervade : {x : Shape} → pervade_in_sheets f g s t ≡ some x → both (λ t u. accepted (write_ty (ty x (union (scalar_of t) (scalar_of u))))) a b ≡ Pervaded
  unfolding pervade_types
  types-pervade {x} e = sym (by-scalars a b first second _ (λ k l. accepted (write_ty (ty x (union k l)))) meets)
    where
      meets : (k l : Scalar) → mapped write_ty (at_start (pervade_types f g (ty s k) (ty t l))) ≡ accepted (write_ty (ty x (union k l)))
      meets k l = rw e
