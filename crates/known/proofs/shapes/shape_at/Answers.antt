use mathlib.Core.Path.{sym}
use Rattle.known.proofs.KnownLaws.{closed-shape}
use Rattle.known.proofs.ShapeLaws.{closing_has, shape_opened}
use Rattle.known.proofs.shapes.shape_at.Goals as goal

pub returns-then-closed_at : goal.returns-then-closed_at
returns-then-closed_at c = λ d t h. sym (closed-shape c.opening_at-dims.ensures c.closed_at.ensures d t h c.if-closed_at.true)

pub dims_at-suffix-requires : goal.dims_at-suffix-requires
dims_at-suffix-requires c = closing_has _ _ c.closed_at.ensures c.if-closed_at.false _ c.requires.1

pub returns : goal.returns
returns c = λ d t h. shape_opened _ _ c.closed_at.ensures c.if-closed_at.false d c.opening_at-dims.ensures c.dims_at-suffix.ensures t h
