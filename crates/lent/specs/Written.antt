-- What a call's answer and its result buffer say together. The answer is how many bytes were written, or the refusal.
use Rattle.std.specs.Prelude.{ℕ, ◌≤◌, ◌<◌, List, ◌≡◌, length, take, Result, Ok, Err}
use Rattle.model.specs.Limits.{max_bytes}
use Rattle.format.specs.Outcome.{Outcome, accepted, refused, Delivery, delivery}
use Rattle.limits.specs.Answers.{number_of, told}
use Rattle.limits.specs.declared.refusal.Refusal.{Refusal}
use Rattle.limits.specs.declared.refusal.Reason.TheVariants.{TooShort}

abbrev pub Written : Type 0
Written = Result ℕ Refusal

abbrev pub delivered : Written → List ℕ → Delivery
delivered r buffer = delivery (told r) buffer

-- An answer and a buffer whose other bytes are left open: what was written stands at the front.
abbrev pub Puts : Written → List ℕ → Outcome (List ℕ) → Type 0
Puts (Ok n) out o = (o ≡ accepted (take n out)) × (n ≤ length out)
Puts (Err r) out o = o ≡ refused (number_of r.0) r.1

-- A buffer that is shorter than some types was found too short. This says nothing of what was to be written.
abbrev pub Short : Written → List ℕ → Type 0
Short w out = (w ≡ Err (record { 0 = TooShort; 1 = 0 })) × (length out < max_bytes)
