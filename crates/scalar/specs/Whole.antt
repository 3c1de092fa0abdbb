-- A whole type whose scalar begins at a place: what stands there, up to the end.
use Rattle.std.specs.Prelude.{ℕ, ◌-◌, ◌≤◌, List, ◌≡◌, length, drop}
use Rattle.model.specs.Limits.{max_depth}
use Rattle.model.specs.Types.{Shape, Scalar, ty}
use Rattle.format.specs.Records.{write_scalar}
use Rattle.format.specs.Outcome.{accepted, lone}
use Rattle.known.specs.Known.{ScalarAt}

pub record WholeScalar (s : List ℕ) (at : ℕ) : Type 0 where
  pub shape : Shape
  pub scalar : Scalar
  pub is : lone s ≡ accepted (ty shape scalar)
  pub there : ScalarAt s at (max_depth - 1) scalar
  pub bytes : drop at s ≡ write_scalar scalar
  pub within : at ≤ length s
