-- The join of two types as a call (document 01, "ty.rs"): the first is read whole before the other.
use Rattle.std.specs.Prelude.{List, ℕ}
use Rattle.format.specs.Records.{write_ty}
use Rattle.format.specs.Outcome.{Outcome}
use Rattle.rules.specs.Types.{join_types}
use Rattle.known.specs.Whole.{of_types}

abbrev pub join_call : List ℕ → List ℕ → Outcome (List ℕ)
join_call a b = of_types (λ t u. write_ty (join_types t u)) a b
