-- A text laid into a buffer from a place on, and the place after it.
use Rattle.std.specs.Prelude.{ℕ, ◌+◌, List, ◌≡◌, length}
use Rattle.lent.specs.Over.{over}

-- All before `at` and all after the text stays.
pub record Laid (end at : ℕ) (before after w : List ℕ) : Type 0 where
  pub ends : end ≡ at + length w
  pub laid : after ≡ over before at w
