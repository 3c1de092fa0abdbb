-- Pervading where the scalar of the result is of a kind.
use Rattle.std.specs.Prelude.{ℕ, List, ◌++◌}
use Rattle.std.proofs.Math.Option.{Option, none, some}
use Rattle.model.specs.Refusals.{unpervaded}
use Rattle.model.specs.Types.{Shape}
use Rattle.format.specs.Records.{write_shape}
use Rattle.format.specs.Outcome.{Outcome, accepted, refused}
use Rattle.writer.specs.Kinds.{kind_record}

-- The shape that a pervading gives, with a plain scalar, as a record; refused where it gives none.
abbrev pub plainly : ℕ → Option Shape → Outcome (List ℕ)
plainly kind none = refused unpervaded 0
plainly kind (some s) = accepted (write_shape s ++ kind_record kind)
