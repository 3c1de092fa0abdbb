-- The table's number for a union that is looked up in it.
use Rattle.std.specs.Prelude.{ℕ, Option, Some, None}
use Rattle.limits.specs.Codes.{code_for}
use Rattle.limits.specs.declared.codes.Kind.{Kind}
use Rattle.rules.specs.KindTable.{contents_decide}

-- its kind's code, or the mark where the boxes' contents decide
abbrev pub united_number : Option Kind → ℕ
united_number None = contents_decide
united_number (Some k) = code_for k
