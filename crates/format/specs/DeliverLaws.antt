-- Document 01, "Thirteen ways of saying no", of each byte of a result: past the written length it stays as lent, and after a refusal
-- all of them do. No call makes its result longer or shorter.
use Rattle.std.specs.Prelude.{ℕ, ◌+◌, ◌-◌, ◌≤◌, Bool, ◌≡◌, length, get_or, drop}
use Rattle.std.proofs.Common.{arith, sym, ◌∙◌, length-append, length-drop, get_or-drop, get_or-append-add, leb-true}
use Rattle.std.proofs.Math.Bool.{true, false}
use mathlib.Core.List.{List, ◌++◌}
use Rattle.std.proofs.Math.Path.{refl}
use Rattle.std.proofs.Math.Dec.{leb}
use Rattle.model.specs.Refusals.{too_short}
use Rattle.format.specs.Outcome.{Outcome, accepted, refused, delivery, deliver}

-- ---- bytes at the front of a buffer

module _ (w buffer : List ℕ) where
  -- from the end of w on, with any byte z for those past the end
  pub front-stays : (i z : ℕ) → length w ≤ i → get_or (w ++ drop (length w) buffer) i z ≡ get_or buffer i z
  front-stays i z h =
      let at : length w + (i - length w) ≡ i = omega arith in
      rw at at (get_or-append-add w (drop (length w) buffer) (i - length w) z ∙ get_or-drop (length w) buffer (i - length w) z)

  pub front_length : length w ≤ length buffer → length (w ++ drop (length w) buffer) ≡ length buffer
  front_length h = simp (length-append, length-drop) (omega arith)

-- ---- what a call leaves in its result

module _ (o : Outcome (List ℕ)) (buffer : List ℕ) where
  -- By continuation: refused, with the buffer as lent, or the bytes at its front, which have room there.
  delivered :
      {C : Type 0} →
      ((k p : ℕ) → deliver o buffer ≡ delivery (refused k p) buffer → C) →
      ((w : List ℕ) → length w ≤ length buffer → deliver o buffer ≡ delivery (accepted (length w)) (w ++ drop (length w) buffer) → C) →
      C
  unfolding deliver
  delivered {C} kept laid = go o refl
    where
      fits : (w : List ℕ) → o ≡ accepted w → (b : Bool) → leb (length w) (length buffer) ≡ b → C
      fits w e true h = laid w (leb-true (length w) (length buffer) h) (rw (e, h))
      fits w e false h = kept too_short 0 (rw (e, h))

      go : (x : Outcome (List ℕ)) → o ≡ x → C
      go (refused k p) e = kept k p (rw e)
      go (accepted w) e = fits w e (leb (length w) (length buffer)) refl

  module _ {out : List ℕ} where
    -- "Refusals write nothing to the result."
    pub refused-stays : {k p : ℕ} → deliver o buffer ≡ delivery (refused k p) out → out ≡ buffer
    refused-stays {k} {p} e = delivered (λ j q f. let w : delivery (refused j q) buffer ≡ delivery (refused k p) out = sym f ∙ e in cc) (λ w h f. let z : ◌≡◌ {A = ℕ} 0 1 = cc in absurd (omega arith))

    -- "Result bytes past the written length stay."
    pub past-stays : {n : ℕ} → deliver o buffer ≡ delivery (accepted n) out → (i z : ℕ) → n ≤ i → get_or out i z ≡ get_or buffer i z
    past-stays {n} e i z h =
        delivered (λ j q f. let z : ◌≡◌ {A = ℕ} 0 1 = cc in absurd (omega arith)) λ w room f.
        let count : length w ≡ n = cc in
        let laid : w ++ drop (length w) buffer ≡ out = cc in
        rw (← laid) (front-stays w buffer i z (omega arith))

  pub deliver-length : {a : Outcome ℕ} {out : List ℕ} → deliver o buffer ≡ delivery a out → length out ≡ length buffer
  deliver-length {a} {out} e =
      delivered (λ j q f. let same : buffer ≡ out = cc in rw (← same)) λ w room f.
      let laid : w ++ drop (length w) buffer ≡ out = cc in
      rw (← laid) (front_length w buffer room)
