-- Records by the code of a kind.
use Rattle.std.specs.Prelude.{ℕ, List, [], ◌∷◌, ◌++◌}
use Rattle.std.proofs.Math.Option.{none}
use Rattle.model.specs.Types.{Dim, shape}
use Rattle.format.specs.Records.{scalar_mark, mark_bytes, write_shape}

-- A plain scalar's.
abbrev pub kind_record : ℕ → List ℕ
kind_record kind = mark_bytes scalar_mark ++ (kind ∷ [])

-- That of a type whose shape is closed, with these sizes, and whose scalar is plain.
abbrev pub closed_record : List Dim → ℕ → List ℕ
closed_record dims kind = write_shape (shape dims none) ++ kind_record kind
