-- A test of two sizes by value, which are numbers.
use Rattle.std.specs.Prelude.{ℕ, Bool, ◌≡◌}
use Rattle.model.specs.Types.{Dim}
use Rattle.format.specs.Records.{dim_of}

-- What is answered of any two numbers is what the rule says of their sizes.
abbrev pub TestsBy : (ℕ → ℕ → Bool → Type 0) → (Dim → Dim → Bool) → Type 0
TestsBy answers rule = (x y : ℕ) (r : Bool) → answers x y r → r ≡ rule (dim_of x) (dim_of y)
