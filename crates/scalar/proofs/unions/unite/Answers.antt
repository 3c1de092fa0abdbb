use native.Mathlib.Omega.{arith}
use mathlib.Core.Path.{refl, sym, ◌∙◌, ap}
use Rattle.format.specs.Outcome.{accepted}
use Rattle.scalar.specs.declared.Chosen.TheVariants.{First, Second, Neither}
use Rattle.scalar.proofs.UnionLaws.{kind_is, box_is}
use Rattle.scalar.proofs.unions.unite.Goals as goal

pub returns-in-Some : goal.returns-in-Some
returns-in-Some c = (kind_is c.start_of-i.ensures c.start_of-j.ensures c.kind_at.ensures c.kind_at-2.ensures c.in-Some.ensures (grind arith), tt)

pub returns-in-First : goal.returns-in-First
returns-in-First c =
    let i = c.start_of-i.ensures in
    (box_is i c.start_of-j.ensures c.kind_at.ensures c.kind_at-2.ensures c.in-None.ensures refl First c.in-First.ensures ∙ ap accepted (sym i.bytes), i.within)

pub returns-in-Second : goal.returns-in-Second
returns-in-Second c =
    let j = c.start_of-j.ensures in
    (box_is c.start_of-i.ensures j c.kind_at.ensures c.kind_at-2.ensures c.in-None.ensures refl Second c.in-Second.ensures ∙ ap accepted (sym j.bytes), j.within)

pub returns-in-Neither : goal.returns-in-Neither
returns-in-Neither c = (box_is c.start_of-i.ensures c.start_of-j.ensures c.kind_at.ensures c.kind_at-2.ensures c.in-None.ensures refl Neither c.in-Neither.ensures, tt)
