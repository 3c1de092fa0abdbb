-- Pervading in sheets (document 02, 2026-01): at an index where a static size other than 1 is filled on its own side and meets ? or
-- nothing in an open shape, the result is ?. At all other indices, and in the closing lists, it is the pervading of the separate call
-- (`Pervade`). The first shape's fill is f, the second's g; a and b tell whether the first shape is open and whether the second is.
use Rattle.std.specs.Prelude.{Bool, true, false, not, ◌&&◌, ◌||◌, cond, eqb}
use Rattle.std.proofs.Math.Option.{Option, none, some}
use Rattle.model.specs.Types.{Dim, static, unknown, Shape, shape}
use Rattle.rules.specs.Shapes.{is_open}
use Rattle.rules.specs.Pervade.{IndexRule, pervade_at, walk, pervade_closing, closed_by}

-- ---- one index

-- "a static size other than 1": 0 is such a one.
abbrev pub other_than_one : Option Dim → Bool
other_than_one none = false
other_than_one (some unknown) = false
other_than_one (some (static n)) = not (eqb n 1)

-- "? or nothing in an open shape": ? in any shape.
abbrev pub unsettled : Bool → Option Dim → Bool
unsettled b none = b
unsettled b (some unknown) = true
unsettled b (some (static n)) = false

-- The first's size "is filled on its own side and meets" such a one of the second.
abbrev pub may_grow : Bool → Bool → Option Dim → Option Dim → Bool
may_grow f b d e = f && other_than_one d && unsettled b e

-- There "the result is ?"; at every other index it is that of the separate call, by what stands there on either side.
unfoldable pub in_sheets_at : Bool → Bool → Bool → Bool → IndexRule
in_sheets_at f g a b d e = cond (may_grow f b d e || may_grow g a e d) (some unknown) (pervade_at f g d e)

-- ---- shapes

-- The pervading of two shapes in a sheet; none is a mismatch.
unfoldable pub pervade_in_sheets : Bool → Bool → Shape → Shape → Option Shape
pervade_in_sheets f g (shape o c) (shape p d) = closed_by (pervade_closing c d) (walk (in_sheets_at f g (is_open c) (is_open d)) o p)
