-- What the choices of this crate say: the side, or the value, that a host's number stands for.
use Rattle.std.specs.Prelude.{ℕ, ◌≤◌, ◌≡◌, List, Float, Some, None}
use Rattle.std.specs.Prelude as code
use Rattle.format.specs.Outcome.{Outcome, accepted}
use Rattle.validation.specs.CheckShape as rules
use Rattle.validate.specs.Answers.{side_of}
use Rattle.validate.specs.declared.Side.{Side}
use Rattle.val.specs.Answers.{value_of}
use Rattle.val.specs.declared.Value as declared
use Rattle.velgrodis.specs.Codes.{unsaid, handed_in}

abbrev pub side_chosen : code.Option Side → Outcome rules.Side
side_chosen (Some s) = accepted (side_of s)
side_chosen None = unsaid

-- Where it stands for no value, it is none of the three.
abbrev pub ValueFor : code.Option declared.Value → ℕ → Float → Type 0
ValueFor (Some v) n x = (list : List Float) (bytes : List ℕ) → value_of v list bytes ≡ handed_in n x list bytes
ValueFor None n x = 3 ≤ n
