-- What the code's answers stand for: for each case of each, the paper's number and values (document 01, last paragraph of "Our forms").
use Rattle.std.specs.Prelude.{cond, ℕ, eqb, take, Result, Ok, Err}
use Rattle.number.specs.declared.Class as declared
use Rattle.number.specs.declared.Class.TheVariants.{NotANumber, Infinite, Fraction, Whole, Larger}
use Rattle.limits.specs.Answers.{number_of}
use Rattle.limits.specs.declared.refusal.Reason.{Reason}
use Rattle.limits.specs.declared.refusal.Refusal.{Refusal}
use Rattle.record.specs.declared.Dims.{Dims}
use Rattle.model.specs.Limits.{ones}
use Rattle.number.specs.Class.{Class, not_a_number, infinite, fraction, whole, larger}
use Rattle.number.specs.Size.{SizeOutcome, size, unknown, refused}
use Rattle.number.specs.Sizes.{SizesOutcome, sizes, refused_at}

abbrev pub class_outcome : declared.Class → Class
class_outcome NotANumber = not_a_number
class_outcome (Infinite s) = infinite s
class_outcome Fraction = fraction
class_outcome (Whole s) = whole s
class_outcome (Larger s) = larger s

-- all ones is ?
abbrev pub size_outcome : Result ℕ Reason → SizeOutcome
size_outcome (Ok n) = cond (eqb n ones) unknown (size n)
size_outcome (Err r) = refused (number_of r)

abbrev pub dims_outcome : Result Dims Refusal → SizesOutcome
dims_outcome (Ok d) = sizes (take d.count d.sizes)
dims_outcome (Err r) = refused_at (number_of r.0) r.1
