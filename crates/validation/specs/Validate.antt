-- Validation on whole types (document 01, "mod.rs"): `validate` without a side or for one, and `check_scalar` and `check_shape` by
-- themselves, which leave the type's shape or its scalar as it is. The type that is handed in is the outermost.
use Rattle.std.specs.Prelude.{Bool}
use Rattle.model.specs.Types.{Shape, Scalar, Ty, ty}
use Rattle.format.specs.Outcome.{Outcome, mapped}
use Rattle.validation.specs.CheckShape.{Side, check_shape}
use Rattle.validation.specs.AsFields.{keeps_limits}
use Rattle.validation.specs.CheckScalar.{in_turn, check_scalar}

-- The limits are those of the type itself.
abbrev pub outermost : Shape → Scalar → Bool
outermost t x = keeps_limits (ty t x)

-- The spec, then the type.
unfoldable pub validate : Side → Ty → Ty → Outcome Ty
validate side (ty s k) (ty t l) = in_turn (check_scalar k (outermost t) t l) (check_shape side s t)

-- The spec's shape is not looked at.
unfoldable pub check_scalar_only : Ty → Ty → Outcome Ty
check_scalar_only (ty s k) (ty t l) = mapped (ty t) (check_scalar k (outermost t) t l)

-- The spec's scalar is not looked at.
unfoldable pub check_shape_only : Side → Ty → Ty → Outcome Ty
check_shape_only side (ty s k) (ty t l) = mapped (λ u. ty u l) (check_shape side s t)
