-- Steps that are their marks alone.
use Prim.Native.Nat.{ℕ}
use mathlib.Core.List.{List}
use mathlib.Core.Path.{◌≡◌, refl}
use Rattle.format.specs.Reader.{got}
use Rattle.machine.specs.Steps.{row, join, a_row, a_join}
use Rattle.machine.specs.Written.{working}
use Rattle.machine.specs.Sheet.{argument_from}

module _ (s : List ℕ) (p at : ℕ) where
  pub row_is : argument_from s a_row p at ≡ got (working row) at
  unfolding argument_from
  row_is = refl

  pub join_is : argument_from s a_join p at ≡ got (working join) at
  unfolding argument_from
  join_is = refl
