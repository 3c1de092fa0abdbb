-- Numbers by which a host says what it means, where one says nothing.
use Prim.Native.Nat.{ℕ, zero, suc, ◌≤◌}
use native.Mathlib.Omega.{arith}
use mathlib.Core.List.{List, [], ◌∷◌}
use mathlib.Core.Path.{◌≡◌, refl}
use lib.ListN.{get_or}
use Rattle.format.specs.Outcome.{refused, delivery, deliver}
use Rattle.lent.specs.Delivers.{deliver_refusal}
use Rattle.ty.specs.Calls.{given}
use Rattle.val.specs.Values.{written, deliver_row}
use Rattle.velgrodis.specs.Answers.{deliver_sizes}

pub past_three : {A : Type 0} (a b c d : A) (n : ℕ) → 3 ≤ n → get_or (a ∷ b ∷ c ∷ []) n d ≡ d
past_three a b c d zero h = absurd (omega arith)
past_three a b c d (suc zero) h = absurd (omega arith)
past_three a b c d (suc (suc zero)) h = absurd (omega arith)
past_three a b c d (suc (suc (suc n))) h = refl

-- a refusal as each kind of buffer has it
pub row_refusal : (k p : ℕ) (buffer : List ℕ) → deliver_row (refused k p) buffer ≡ written (delivery (refused k p) buffer)
unfolding deliver_row deliver
row_refusal k p buffer = refl

pub sizes_refusal : (k p : ℕ) (buffer : List ℕ) → deliver_sizes (refused k p) buffer ≡ given (refused k p) buffer
unfolding deliver_sizes
sizes_refusal k p buffer = refl

pub ruleset unsaid_laws = (past_three, deliver_refusal, row_refusal, sizes_refusal)
