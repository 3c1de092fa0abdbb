-- What `deliver` comes to, for each way out of a call.
use Rattle.std.specs.Prelude.{ℕ, ◌≤◌, ◌<◌, List, ◌⊎◌, ◌≡◌, length, Err}
use Rattle.std.proofs.Common.{arith, ⊎_elim, refl, sym, ◌∙◌, ap}
use Rattle.std.specs.Result.{IsErrAnd}
use Rattle.std.proofs.lemmas.Result.{err_from_is_err_and}
use borrow.Author.Tests.{le-leb, lt-leb}
use Rattle.model.specs.Limits.{max_bytes}
use Rattle.model.specs.Refusals.{too_short}
use Rattle.format.specs.Outcome.{Outcome, accepted, refused, Delivery, delivery, deliver}
use Rattle.lent.specs.Over.{over, over-front}
use Rattle.limits.specs.declared.refusal.Refusal.{Refusal}
use Rattle.limits.specs.Answers.{told}
use Rattle.lent.specs.Written.{Written, delivered, Puts, Short}

-- ---- each way out, as a goal has it

-- a refusal, which leaves the buffer as lent
pub deliver_refusal : (k p : ℕ) (buffer : List ℕ) → deliver (refused k p) buffer ≡ delivery (refused k p) buffer
unfolding deliver
deliver_refusal k p buffer = refl

module _ (buffer w : List ℕ) where
  -- bytes that have room
  pub deliver_bytes : length w ≤ length buffer → deliver (accepted w) buffer ≡ delivery (accepted (length w)) (over buffer 0 w)
  unfolding deliver
  deliver_bytes h = rw (le-leb (length w) (length buffer) h) (ap (delivery (accepted (length w))) (sym (over-front buffer w)))

  -- bytes that have none
  pub deliver_nothing : length buffer < length w → deliver (accepted w) buffer ≡ delivery (refused too_short 0) buffer
  unfolding deliver
  deliver_nothing h = rw (lt-leb (length w) (length buffer) h)

-- ---- by what the outcome is

module _ (buffer : List ℕ) where
  -- the same delivery under another name for its outcome
  pub deliver-as : {d : Delivery} {o p : Outcome (List ℕ)} → d ≡ deliver o buffer → p ≡ o → d ≡ deliver p buffer
  deliver-as e f = e ∙ ap (λ x. deliver x buffer) (sym f)

  pub deliver-refused : {o : Outcome (List ℕ)} {k p : ℕ} → o ≡ refused k p → deliver o buffer ≡ delivery (refused k p) buffer
  deliver-refused {o} {k} {p} e = rw e (deliver_refusal k p buffer)

  -- a refusal that the answer hands on
  pub deliver-handed : (w : Written) {o : Outcome (List ℕ)} {k p : ℕ} → told w ≡ refused k p → o ≡ refused k p → delivered w buffer ≡ deliver o buffer
  deliver-handed w handed e = ap (λ a. delivery a buffer) handed ∙ sym (deliver-refused e)

  -- the exit of a `?`, whose refusal is made of the one that was handed to it
  pub delivers_from : {Q : Refusal → Type 0} {o : Outcome (List ℕ)} (w : Written) → IsErrAnd w Q → ((r : Refusal) → Q r → told (Err r) ≡ o) → delivered w buffer ≡ deliver o buffer
  delivers_from w is e = let (r, same, q) = err_from_is_err_and w is in rw same (sym (deliver-refused (sym (e r q))))

  -- the same where it is the one handed
  pub delivers_handed : (r : Refusal) {o : Outcome (List ℕ)} (w : Written) → IsErrAnd w (λ e. e ≡ r) → told (Err r) ≡ o → delivered w buffer ≡ deliver o buffer
  delivers_handed r {o} w is e = delivers_from w is λ q same. rw same e

  module _ {o : Outcome (List ℕ)} {w : List ℕ} (e : o ≡ accepted w) where
    pub deliver-short : length buffer < length w → deliver o buffer ≡ delivery (refused too_short 0) buffer
    deliver-short h = rw e (deliver_nothing buffer w h)

    pub deliver-whole : length w ≤ length buffer → deliver o buffer ≡ delivery (accepted (length w)) (over buffer 0 w)
    deliver-whole h = rw e (deliver_bytes buffer w h)

    -- a count and a buffer that are those of the bytes written
    pub deliver-wrote : {n : ℕ} {after : List ℕ} → length w ≤ length buffer → n ≡ length w → after ≡ over buffer 0 w → delivery (accepted n) after ≡ deliver o buffer
    deliver-wrote {n} {after} h same laid = ap (λ k. delivery (accepted k) after) same ∙ ap (delivery (accepted (length w))) laid ∙ sym (deliver-whole h)

-- where any type has room, the buffer is not found too short
pub roomy_puts : (w : Written) (out : List ℕ) (o : Outcome (List ℕ)) → max_bytes ≤ length out → Puts w out o ⊎ Short w out → Puts w out o
roomy_puts w out o room answers = ⊎_elim (λ puts. puts) (λ short. absurd (omega (arith, short.1))) answers
