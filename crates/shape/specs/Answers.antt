-- What the answers of this crate say, in the terms of the definitions: for each case of each, the paper's number and values.
use Rattle.std.specs.Prelude.{ℕ, Bool, false, ◌||◌, cond, Result, Ok, Err, Some, None}
use Rattle.std.specs.Prelude as code
use Rattle.std.proofs.Math.Option.{Option, none, some}
use Rattle.model.specs.Types.{Dim, Shape, shape}
use Rattle.format.specs.Records.{dim_of}
use Rattle.rules.specs.Sizes as rules
use Rattle.rules.specs.Shapes as shapes
use Rattle.rules.specs.Pervade.{IndexRule, pervade_at, Pervaded, sizes, clash, pervade}
use Rattle.rules.specs.PervadeInSheets.{in_sheets_at, pervade_in_sheets}
use Rattle.record.specs.Answers.{dims_of, shape_for}
use Rattle.shape.specs.declared.Compatibility.{Compatibility}
use Rattle.shape.specs.declared.Compatibility.TheVariants.{Yes, FailsAt, CountsDiffer}
use Rattle.shape.specs.declared.Pervading.{Pervading}
use Rattle.shape.specs.declared.Pervading.TheVariants.{Separate, InSheets}
use Rattle.shape.specs.declared.Filling.{Filling}
use Rattle.record.specs.declared.Dims.{Dims}
use Rattle.record.specs.declared.DynShape.{DynShape}
use Rattle.std.specs.declared.cmp.Ordering.{Ordering}
use Rattle.std.specs.declared.cmp.Ordering.TheVariants.{Less, Equal, Greater}

abbrev pub order_of : Ordering → rules.Order
order_of Less = rules.less
order_of Equal = rules.same
order_of Greater = rules.more

abbrev pub compatibility_of : Compatibility → shapes.Compatibility
compatibility_of Yes = shapes.says_yes
compatibility_of (FailsAt i) = shapes.says_no (some i)
compatibility_of CountsDiffer = shapes.says_no none

-- what stands at an index, if anything does
abbrev pub spot_of : code.Option ℕ → Option Dim
spot_of None = none
spot_of (Some n) = some (dim_of n)

-- The pervading that is asked for.
abbrev pub pervade_as : Pervading → Bool → Bool → Shape → Shape → Option Shape
pervade_as Separate f g s t = pervade f g s t
pervade_as InSheets f g s t = pervade_in_sheets f g s t

-- In sheets a size may grow where a side is filled; in the separate call none does.
abbrev pub any_grows : Pervading → Bool → Bool → Bool
any_grows Separate f g = false
any_grows InSheets f g = f || g

-- The rule for one index: that of sheets where any size may grow, else that of the separate call.
abbrev pub rule_for : Filling → IndexRule
rule_for t x y = cond t.grows (in_sheets_at t.a_fill t.b_fill t.a_open t.b_open x y) (pervade_at t.a_fill t.b_fill x y)

-- The sizes, or the first index that refuses.
abbrev pub dims_pervaded_of : Result Dims ℕ → Pervaded
dims_pervaded_of (Ok d) = sizes (dims_of d)
dims_pervaded_of (Err i) = clash i

-- The sizes of a closed shape.
abbrev pub closed_pervaded_of : code.Option Dims → Option Shape
closed_pervaded_of None = none
closed_pervaded_of (Some d) = some (shape (dims_of d) none)

abbrev pub shape_pervaded_of : code.Option DynShape → Option Shape
shape_pervaded_of None = none
shape_pervaded_of (Some s) = some (shape_for s)
