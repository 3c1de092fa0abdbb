-- What stands at the places within a scalar's record, and which scalar it is by its code and its form.
use Rattle.std.specs.Prelude.{ℕ, List, [], ◌∷◌, ◌++◌}
use Rattle.model.specs.Types.{Scalar, plain, box_any, box_all, box_def, field_count}
use Rattle.format.specs.Records.{count_of, list_of, write_shape, write_scalar, write_fields}

-- The form of a box: 0 Any, 1 All, 2 Def; a scalar that is no box has none of these.
unfoldable pub form_of : Scalar → ℕ
form_of (plain k) = 3
form_of box_any = 0
form_of (box_all s k) = 1
form_of (box_def n f) = 2

-- what is written after a box's form
unfoldable pub after_form : Scalar → List ℕ
after_form (plain k) = []
after_form box_any = []
after_form (box_all s k) = write_shape s ++ write_scalar k
after_form (box_def n f) = count_of n ∷ (list_of n ++ (field_count f ∷ write_fields f))
