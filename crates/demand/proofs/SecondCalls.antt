-- The second half of demand 3, from lists of steps to what the call answers.
use Rattle.std.specs.Prelude.{ℕ, ◌≤◌, List, [], ◌∷◌, ◌≡◌}
use Rattle.std.proofs.Common.{arith, sym, ◌∙◌, ap}
use Rattle.model.specs.Refusals.{unpervaded}
use Rattle.model.specs.Types.{Ty, ty, shape_of}
use Rattle.format.specs.Records.{write_shape}
use Rattle.format.specs.Outcome.{shape_record}
use Rattle.machine.specs.Steps.{Step}
use Rattle.machine.specs.Names.{SheetOf}
use Rattle.machine.specs.Run.{gives, refuses, steps}
use Rattle.machine.specs.WellFormed.{Heights}
use Rattle.machine.specs.Conditions.{puts, count_closing}
use Rattle.machine.proofs.Sheets.{left-within}
use Rattle.machine.proofs.StepsTook.{well_formed-took}
use Rattle.orders.specs.Verdicts.{Pervadings, Decided, passes, fails, decided}
use Rattle.orders.specs.Orders.{order-mismatch, order-shape}
use Rattle.demand.specs.Claims.{Check, answer_to, Leaves, Mismatched, verdict_of, SecondConditions, SecondHalf, accepts, mismatches, Regrouped}
use Rattle.demand.proofs.Calls.{leaves_run, call-leaves, call-mismatch}

-- Accepted and refused are two.
pub not-both : {C : Type 0} (c : Check) (ts : List Ty) → Leaves c ts → Mismatched c → C
not-both c ts l m = let a = l.outcome in let b = m.outcome in let z : ◌≡◌ {A = ℕ} 0 1 = cc in absurd (omega arith)

-- ---- one sheet

module _ (c : Check) (xs : List Step) (k : SecondConditions c xs) where
  took : SheetOf c.sheet xs × Heights xs 0
  took = well_formed-took c.sheet c.result c.scratch k.bytes xs k.well_formed

  sheet-of : SheetOf c.sheet xs
  sheet-of = took.0

  pervadings : Pervadings xs
  pervadings = record { only = k.puts-and-pervadings; heights = took.1; one = k.one_left }

  leaves_of : (t : Ty) → steps xs [] ≡ gives (t ∷ []) → Leaves c (t ∷ [])
  leaves_of t e = call-leaves c k.well_formed.scratch_holds xs sheet-of k.well_formed.result_holds t e

  mismatched_of : steps xs [] ≡ refuses unpervaded → Mismatched c
  mismatched_of e = call-mismatch c k.well_formed.scratch_holds xs sheet-of e

  steps_of : (t : Ty) → Leaves c (t ∷ []) → steps xs [] ≡ gives (t ∷ [])
  steps_of t l = (left-within c.sheet xs (t ∷ []) sheet-of (leaves_run c xs (t ∷ []) (record { bytes = sheet-of; leaves = l }))).0

  pub one_of_two : SecondHalf c xs
  one_of_two = go (decided xs pervadings)
    where
      go : Decided xs → SecondHalf c xs
      go (passes t e f r h) = accepts t (leaves_of t e) f (r ∷ []) h
      go (fails e h) = mismatches (mismatched_of e) h

-- ---- another order or grouping

record_same : (t u : Ty) → shape_of t ≡ shape_of u → shape_record t ≡ shape_record u
record_same (ty s k) (ty t l) e = ap write_shape e

module _ (c d : Check) (xs ys : List Step) (r : Regrouped c d xs ys) where
  p : Pervadings xs
  p = pervadings c xs r.one

  q : Pervadings ys
  q = pervadings d ys r.other

  -- both accepted, or both mismatched
  both_or_neither : {C : Type 0}
      → ((t u : Ty) → steps xs [] ≡ gives (t ∷ []) → steps ys [] ≡ gives (u ∷ []) → C)
      → (steps xs [] ≡ refuses unpervaded → steps ys [] ≡ refuses unpervaded → C)
      → C
  both_or_neither {C} k l = go (decided xs p) (decided ys q)
    where
      go : Decided xs → Decided ys → C
      go (passes t e f v h) (passes u e' f' v' h') = k t u e e'
      go (fails e h) (fails e' h') = l e e'
      go (fails e h) (passes u e' f' v' h') =
          let w = order-mismatch xs ys r.same-puts p q e in
          let z : ◌≡◌ {A = ℕ} 0 1 = cc in
          absurd (omega arith)
      go (passes t e f v h) (fails e' h') =
          let w = order-mismatch ys xs (λ t. sym (r.same-puts t)) q p e' in
          let z : ◌≡◌ {A = ℕ} 0 1 = cc in
          absurd (omega arith)

  pub verdict_same : verdict_of (answer_to c) ≡ verdict_of (answer_to d)
  verdict_same =
      both_or_neither
      (λ t u e e'. ap verdict_of (leaves_of c xs r.one t e).outcome ∙ sym (ap verdict_of (leaves_of d ys r.other u e').outcome))
      (λ e e'. ap verdict_of (mismatched_of c xs r.one e).outcome ∙ sym (ap verdict_of (mismatched_of d ys r.other e').outcome))

  pub shape_same : (t : Ty) → Leaves c (t ∷ []) → count_closing (puts xs) ≤ 2 → (u : Ty) × Leaves d (u ∷ []) × (shape_record t ≡ shape_record u)
  shape_same t l few =
      both_or_neither
      (λ t' u e e'.
      let same = order-shape xs ys r.same-puts p q few t u (steps_of c xs r.one t l) e' in
      (u, leaves_of d ys r.other u e', record_same t u same))
      (λ e e'. not-both c (t ∷ []) l (mismatched_of c xs r.one e))
