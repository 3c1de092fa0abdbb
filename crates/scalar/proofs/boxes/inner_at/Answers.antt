use mathlib.Core.Path.{refl, sym}
use Rattle.rules.specs.Order.{code_of}
use Rattle.scalar.proofs.boxes.inner_at.Goals as goal

pub returns-in-Plain : goal.returns-in-Plain
unfolding code_of
returns-in-Plain c = λ d k h. let x = c.in-Plain.ensures d k h in rw x.is (sym x.coded, tt)

pub returns-in-BoxAny : goal.returns-in-BoxAny
unfolding code_of
returns-in-BoxAny c = λ d k h. rw (c.in-BoxAny.ensures d k h).is (refl, tt)

pub returns-in-BoxAll : goal.returns-in-BoxAll
returns-in-BoxAll c = λ d k h. let x = c.in-BoxAll.ensures d k h in record { shape = x.shape; scalar = x.scalar; is = x.is; there = x.there }

pub returns-in-BoxDef : goal.returns-in-BoxDef
unfolding code_of
returns-in-BoxDef c = λ d k h. rw (c.in-BoxDef.ensures d k h).is (refl, tt)
