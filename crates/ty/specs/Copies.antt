-- Copies of a type's bytes, as `as_boxes` lists them.
use Rattle.std.specs.Prelude.{ℕ, zero, suc, cond, List, [], ◌∷◌, ◌++◌, leb}
use Rattle.model.specs.Limits.{max_fields}
use Rattle.model.specs.Refusals.{too_many}
use Rattle.model.specs.Types.{Dim, static, unknown}
use Rattle.format.specs.Records.{absent}
use Rattle.format.specs.Outcome.{Outcome, accepted, refused}

unfoldable pub repeated : ℕ → List ℕ → List ℕ
repeated zero w = []
repeated (suc n) w = w ++ repeated n w

-- no name, the count, the copies
unfoldable pub copy_bytes : ℕ → List ℕ → List ℕ
copy_bytes n w = absent ∷ n ∷ repeated n w

-- as many as there are rows: ? rows give one, more than 31 are refused
unfoldable pub copy_bytes_for : Dim → List ℕ → Outcome (List ℕ)
copy_bytes_for unknown w = accepted (copy_bytes 1 w)
copy_bytes_for (static n) w = cond (leb n max_fields) (accepted (copy_bytes n w)) (refused too_many 0)
