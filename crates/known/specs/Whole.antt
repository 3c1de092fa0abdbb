-- A call on two whole types, of which the first is read whole before the other: what f says of them, or of their scalars.
use Rattle.std.specs.Prelude.{ℕ, ◌-◌, List, ◌≡◌, take, drop}
use Rattle.model.specs.Types.{Scalar, Ty, scalar_of}
use Rattle.format.specs.Outcome.{Outcome, accepted, mapped, both, lone}

abbrev pub of_types : {A : Type 0} → (Ty → Ty → A) → List ℕ → List ℕ → Outcome A
of_types f a b = both (λ t u. accepted (f t u)) (lone a) (lone b)

abbrev pub of_scalars : {A : Type 0} → (Scalar → Scalar → A) → List ℕ → List ℕ → Outcome A
of_scalars f = of_types (λ t u. f (scalar_of t) (scalar_of u))

-- Of one whole type, what f says of its scalar.
abbrev pub of_scalar : {A : Type 0} → (Scalar → A) → List ℕ → Outcome A
of_scalar f s = mapped (λ t. f (scalar_of t)) (lone s)

-- The bytes from start to end are those of a lone type.
abbrev pub Between : List ℕ → ℕ → ℕ → Ty → Type 0
Between s start end t = lone (take (end - start) (drop start s)) ≡ accepted t
