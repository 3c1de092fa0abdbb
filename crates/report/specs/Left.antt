-- The types that a sheet left, as their bytes stand in a result: so many types, one record after the other, their lengths beside.
use Rattle.std.specs.Prelude.{ℕ, List, map, ◌≡◌, length, take}
use Rattle.model.specs.Types.{Ty}
use Rattle.format.specs.Records.{write_ty}
use Rattle.machine.specs.Call.{write_types}

-- These bytes are those of just these types, of these lengths.
pub record LeftIs (s lengths : List ℕ) (n : ℕ) (ts : List Ty) : Type 0 where
  pub bytes : s ≡ write_types ts
  pub count : n ≡ length ts
  pub sizes : take n lengths ≡ map (λ t. length (write_ty t)) ts

-- There are such types.
pub record Left (s lengths : List ℕ) (n : ℕ) : Type 0 where
  pub types : List Ty
  pub there : LeftIs s lengths n types
