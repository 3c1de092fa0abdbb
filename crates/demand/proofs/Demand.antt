-- Demand 3, both halves, of what the sheet call answers, in the order of the demand's words. These statements rest on the rules and, in the
-- crate `machine`, on SheetLimits, Steps, Run, Written, Names, Sheet, Call, WellFormed, Real and Conditions, and here on Claims: what has to be
-- believed stands there. That a sheet is the bytes of one written list, and what that comes to, is shown in Words; what names change, in Unfolding.
use Rattle.std.specs.Prelude.{◌≤◌, List, [], ◌∷◌, ◌↔◌, ◌≡◌}
use Rattle.model.specs.Types.{Ty}
use Rattle.format.specs.Reader.{Bytes}
use Rattle.format.specs.Outcome.{shape_record}
use Rattle.machine.specs.Steps.{Step}
use Rattle.machine.specs.Real.{RealShape, Feeds, Through}
use Rattle.machine.specs.Conditions.{puts, count_closing}
use Rattle.demand.specs.Claims.{Check, answer_to, IsAccepted, Leaves, Mismatched, verdict_of, MakesAccepted, FirstConditions, EachHolds}
use Rattle.demand.specs.Claims.{SecondConditions, NoneThrough, SecondHalf, accepts, mismatches, Regrouped}
use Rattle.demand.proofs.Words.{accepted-sheet}
use Rattle.demand.proofs.FirstCalls.{types_hold}
use Rattle.demand.proofs.SecondCalls.{not-both, one_of_two, verdict_same, shape_same}

-- ---- the first half

-- "For every list of puts, rows, pervadings, joins and validations that, worked in order from an empty stack, makes an accepted sheet":
-- xs, which the sheet of the call c comes to, names unfolded; c accepts it, whatever result and scratch held, and leaves the types ts, bottom
-- first (`MakesAccepted`).
-- "Names no closing sizes, [...] takes no row of an open Def, and joins only closed shapes of equal count or two open ones":
-- `FirstConditions`, a field for each. "Fills nothing" fell with document 02, 2026-01: pervadings may be filled.
-- "Whatever real arrays fit the puts and whichever side each join keeps, if they get through the steps": f, a real shape for each put and
-- a side for each join, which get through (`Through`) and leave the real shapes `left`, bottom first.
-- "Each type left holds the shape of the real array there": `EachHolds`.
pub first-half : (c : Check) (xs : List Step) (ts : List Ty)
    → MakesAccepted c xs ts
    → FirstConditions xs
    → (f : Feeds xs) (left : List RealShape) → Through xs f left
    → EachHolds ts left
first-half c xs ts m k f left t = types_hold c xs ts m k f left t

-- ---- the second half

-- "For every list of puts and unfilled pervadings that makes a well-formed sheet leaving one type": `SecondConditions`.
module _ (c : Check) (xs : List Step) (k : SecondConditions c xs) where
  -- Accepted, and real arrays get through; or mismatch, and none do.
  pub second-half : SecondHalf c xs
  second-half = one_of_two c xs k

  -- "Mismatch, refusal 8, is answered exactly when no real arrays that fit the puts get through".
  pub mismatch_exactly : Mismatched c ↔ NoneThrough xs
  mismatch_exactly = go second-half
    where
      go : SecondHalf c xs → Mismatched c ↔ NoneThrough xs
      go (mismatches m h) = (λ _. h, λ _. m)
      go (accepts t l f left h) = (λ m. not-both c (t ∷ []) l m, λ none. absurd (none f left h))

  -- "And otherwise the sheet is accepted", and leaves one type.
  pub otherwise_accepted : (Mismatched c → ⊥) → (t : Ty) × Leaves c (t ∷ [])
  otherwise_accepted matched = go second-half
    where
      go : SecondHalf c xs → (t : Ty) × Leaves c (t ∷ [])
      go (mismatches m h) = absurd (matched m)
      go (accepts t l f left h) = (t, l)

-- "Every other order or grouping of the same puts within" six "places" (document 02, 2026-04): `Regrouped`.
module _ (c d : Check) (xs ys : List Step) (r : Regrouped c d xs ys) where
  -- "Gets the same verdict": accepted or mismatch, the place aside.
  pub same_verdict : verdict_of (answer_to c) ≡ verdict_of (answer_to d)
  same_verdict = verdict_same c d xs ys r

  -- "And, if accepted with at most two naming closing sizes, the same shape": at most two puts, each counted as often as it stands there;
  -- equal shape records.
  pub same_shape : (t : Ty) → Leaves c (t ∷ [])
      → count_closing (puts xs) ≤ 2
      → (u : Ty) × Leaves d (u ∷ []) × (shape_record t ≡ shape_record u)
  same_shape t l few = shape_same c d xs ys r t l few
