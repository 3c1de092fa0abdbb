-- How a refusal becomes that of a validation: by the input that was being read, or neither.
use Rattle.std.specs.Prelude.{◌≡◌}
use Rattle.limits.specs.declared.refusal.Refusal.{Refusal}
use Rattle.record.specs.declared.Misread.{Misread}
use Rattle.record.specs.declared.Misread.TheVariants.{First, Second}
use Rattle.validate.specs.declared.Input.TheVariants.{Spec, CheckedType, Neither}
use Rattle.validate.specs.declared.Unvalidated.{Unvalidated}

abbrev pub unvalidated : Misread → Unvalidated
unvalidated (First r) = record { refusal = r; reading = Spec }
unvalidated (Second r) = record { refusal = r; reading = CheckedType }

abbrev pub MisreadAs : Misread → Unvalidated → Type 0
MisreadAs m u = u ≡ unvalidated m

abbrev pub NotReading : Refusal → Unvalidated → Type 0
NotReading r u = u ≡ record { refusal = r; reading = Neither }
