use mathlib.Core.Path.{sym}
use Rattle.known.proofs.ScalarLaws.{box_alone, has_box, seen_plain}
use Rattle.known.proofs.scalars.look.Goals as goal

pub look_inside-requires : goal.look_inside-requires
look_inside-requires c = (c.requires.0, has_box _ _ _ c.requires.1 c.in-Box.ensures)

pub returns-in-Box : goal.returns-in-Box
returns-in-Box c = λ d k h. c.look_inside.ensures d k h (sym (c.in-Box.ensures d k h))

pub returns-in_default : goal.returns-in_default
returns-in_default c = λ d k h. seen_plain _ _ d k h (c.kind_at.ensures d k h) (box_alone _ c.in_default.not-Box)
