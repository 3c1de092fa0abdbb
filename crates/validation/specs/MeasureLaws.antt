-- The measure of the outermost type by two numbers, as a walk keeps them: how many types stand elsewhere in it, as changed so far, and
-- how deep the place is. Each law says what the two numbers become where the rules go into a box or on to the next field.
use Rattle.std.specs.Prelude.{ℕ, suc, ◌+◌, Bool, ◌&&◌, leb}
use Rattle.model.specs.Limits.{max_types, max_depth}
use Rattle.model.specs.Types.{Scalar, Fields, inside, among, below, deepest}

-- With `others` types elsewhere and `above` types around it, a type keeps to the limits with the scalar k.
unfoldable pub limited : ℕ → ℕ → Scalar → Bool
limited others above k = leb (others + suc (inside k)) max_types && leb (above + suc (below k)) max_depth

-- Likewise a Def with the fields f: itself and what is before f counted among the others.
unfoldable pub fields_limited : ℕ → ℕ → Fields → Bool
fields_limited others above f = leb (others + among f) max_types && leb (above + deepest f) max_depth
