-- The rows of a square, laid into a buffer.
use Rattle.std.specs.Prelude.{ℕ, List, ◌≡◌}
use Rattle.lent.specs.Over.{over}
use Rattle.rules.specs.KindTable.{in_a_row}

-- Row after row from a place on; all before and after them stays.
pub record RowsLaid (before : List ℕ) (at : ℕ) (s : List (List ℕ)) (after : List ℕ) : Type 0 where
  pub laid : after ≡ over before at (in_a_row s)
