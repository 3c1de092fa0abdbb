use Rattle.validate.proofs.PlanLaws.{code_plain, code_box_any, code_box_all, code_box_def}
use Rattle.validate.proofs.plans.kind_of.Goals as goal

pub returns-in-Plain : goal.returns-in-Plain
returns-in-Plain c = λ s k x. code_plain x c.in-Plain.is

pub returns-in-BoxAny : goal.returns-in-BoxAny
returns-in-BoxAny c = λ s k x. code_box_any x c.in-BoxAny.is

pub returns-in-BoxAll : goal.returns-in-BoxAll
returns-in-BoxAll c = λ s k x. code_box_all x c.in-BoxAll.is

pub returns-in-BoxDef : goal.returns-in-BoxDef
returns-in-BoxDef c = λ s k x. code_box_def x c.in-BoxDef.is
