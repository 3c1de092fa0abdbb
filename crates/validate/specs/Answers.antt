-- What the answers of this crate say, in the terms of the definitions.
use Rattle.std.specs.Prelude.{ℕ, List, Result, Ok, Err}
use Rattle.std.proofs.Math.Option.{Option, none, some}
use Rattle.model.specs.Types.{Shape}
use Rattle.format.specs.Outcome.{Outcome, accepted, refused, mapped, delivery}
use Rattle.limits.specs.Answers.{number_of, told_at}
use Rattle.limits.specs.declared.refusal.Reason.{Reason}
use Rattle.record.specs.declared.DynShape.{DynShape}
use Rattle.record.specs.Answers.{shape_for}
use Rattle.validation.specs.CheckShape.{Side as RuleSide, unsided, left, right}
use Rattle.validation.specs.Separate as rules
use Rattle.validation.specs.Separate.{spec, checked_type, neither, separate}
use Rattle.validate.specs.declared.Side.{Side}
use Rattle.validate.specs.declared.Side.TheVariants.{Unsided, Left, Right}
use Rattle.validate.specs.declared.Input.{Input}
use Rattle.validate.specs.declared.Input.TheVariants.{Spec, CheckedType, Neither}
use Rattle.validate.specs.declared.Unvalidated.{Unvalidated}

abbrev pub side_of : Side → RuleSide
side_of Unsided = unsided
side_of Left = left
side_of Right = right

-- the number of a clash, or none
abbrev pub clash_of : Result (Unit {0}) Reason → Option ℕ
clash_of (Ok u) = none
clash_of (Err r) = some (number_of r)

-- a clash is refused at place 0
abbrev pub checked_of : Result DynShape Reason → Outcome Shape
checked_of r = mapped shape_for (told_at 0 r)

-- ---- the separate validations

abbrev pub input_of : Input → rules.Input
input_of Spec = spec
input_of CheckedType = checked_type
input_of Neither = neither

-- beside what the result buffer then holds
abbrev pub separate_of : Result ℕ Unvalidated → List ℕ → rules.Separate
separate_of (Ok n) buffer = separate (delivery (accepted n) buffer) neither
separate_of (Err u) buffer = separate (delivery (refused (number_of u.refusal.0) u.refusal.1) buffer) (input_of u.reading)
