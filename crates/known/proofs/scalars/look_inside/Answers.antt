use native.Mathlib.Omega.{arith}
use Rattle.known.proofs.ScalarLaws.{seen_any, seen_all, seen_def, has_name, count_inside}
use Rattle.known.proofs.scalars.look_inside.Goals as goal

pub returns-in-Any : goal.returns-in-Any
returns-in-Any c = λ d k h e. seen_any _ _ d k h (c.in-Any.ensures d k h e)

pub returns-in-All : goal.returns-in-All
returns-in-All c = λ d k h e. seen_all _ _ d k h (c.in-All.ensures d k h e)

pub name_at-name-requires : goal.name_at-name-requires
name_at-name-requires c = has_name _ _ _ c.requires.1 c.in-Def.ensures

pub overflow_add-result-in-Def-2 : goal.overflow_add-result-in-Def-2
overflow_add-result-in-Def-2 c = omega (arith, count_inside _ _ _ c.requires.1 c.in-Def.ensures _ c.name_at-name.ensures)

pub bounds-s-name : goal.bounds-s-name
bounds-s-name c = count_inside _ _ _ c.requires.1 c.in-Def.ensures _ c.name_at-name.ensures

pub returns-in-Def : goal.returns-in-Def
returns-in-Def c = λ d k h e. seen_def _ _ d k h (c.in-Def.ensures d k h e) _ c.name_at-name.ensures
