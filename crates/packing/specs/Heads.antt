-- A type as a row of shapes and heads, a head being a scalar up to its contents, which stand behind it. What a loop over them has still to
-- come is a list of fields: at first the type alone; past a head, the contents of its scalar and then what was still to come.
use Rattle.std.specs.Prelude.{ℕ}
use Rattle.model.specs.Types.{Scalar, plain, box_any, box_all, box_def, Fields, no_fields, field, Ty, ty, field_count}

-- a type alone
abbrev pub one_field : Ty → Fields
one_field (ty o k) = field o k no_fields

-- some fields before others
abbrev pub and_fields : Fields → Fields → Fields
and_fields no_fields g = g
and_fields (field s k f) g = field s k (and_fields f g)

-- what a scalar holds, and then f
abbrev pub contents : Scalar → Fields → Fields
contents (plain k) f = f
contents box_any f = f
contents (box_all s k) f = field s k f
contents (box_def n g) f = and_fields g f

-- how many types it holds, those inside them left out
abbrev pub held_count : Scalar → ℕ
held_count (plain k) = 0
held_count box_any = 0
held_count (box_all s k) = 1
held_count (box_def n g) = field_count g
