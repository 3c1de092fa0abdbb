-- Calls on the shapes of whole types that were read.
use Prim.Native.Nat.{ℕ}
use mathlib.Core.Bool.{Bool}
use mathlib.Core.List.{List}
use mathlib.Core.Path.{◌≡◌, sym, ◌∙◌, ap}
use Rattle.model.specs.Limits.{max_depth}
use Rattle.model.specs.Types.{Ty, shape_of}
use Rattle.format.specs.Reader.{Bytes}
use Rattle.format.specs.Outcome.{accepted, mapped, unrefused, refusal_of, lone}
use Rattle.rules.specs.Shapes.{is_any}
use Rattle.record.specs.Answers.{nothing, shape_for}
use Rattle.record.specs.declared.DynShape.{DynShape}
use Rattle.record.proofs.LoneLaws.{passed-accepted, both-passed, whichever_of, whichever_both}
use Rattle.shape_calls.specs.Calls.{is_any_call}
use Rattle.known.specs.Known.{TypeAt, HasType}
use Rattle.known.proofs.WholeLaws.{type-there, has-type}

module _ (a : List ℕ) (small : Bytes a) where
  pub type_known : mapped nothing (lone a) ≡ accepted 0 → (d : ℕ) × HasType a 0 d
  type_known good = (max_depth, has-type a small good)

  pub shape_told : (t : Ty) → lone a ≡ accepted t → (o : DynShape) → ((d : ℕ) (t : Ty) → TypeAt a 0 d t → shape_for o ≡ shape_of t) → shape_for o ≡ shape_of t
  shape_told t e o is = is max_depth t (type-there a small t e)

  pub any_told : accepted 0 ≡ mapped nothing (lone a) → {r : Bool} → ((d : ℕ) (t : Ty) → TypeAt a 0 d t → r ≡ is_any (shape_of t)) → accepted r ≡ is_any_call a
  any_told read is = passed-accepted (lone a) (sym read) λ t e. rw e (ap accepted (is max_depth t (type-there a small t e)))

module _ (a b : List ℕ) (read : unrefused ≡ refusal_of (lone a) (lone b)) where
  both_good : (mapped nothing (lone a) ≡ accepted 0) × (mapped nothing (lone b) ≡ accepted 0)
  both_good = both-passed (lone a) (lone b) (sym (ap whichever_of read ∙ whichever_both (lone a) (lone b)))

  pub first_known : Bytes a → (d : ℕ) × HasType a 0 d
  first_known small = type_known a small both_good.0

  pub second_known : Bytes b → (d : ℕ) × HasType b 0 d
  second_known small = type_known b small both_good.1

pub ruleset one_known = (type_known, shape_told)

pub ruleset two_known = (first_known, second_known, shape_told)
