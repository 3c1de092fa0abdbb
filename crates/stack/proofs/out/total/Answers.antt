use Rattle.std.proofs.Common.{arith, refl, ap, ◌∙◌, sum, take_all}
use Rattle.stack.proofs.OutLaws.{stacked_total, stacked_most}
use Rattle.stack.proofs.out.total.Goals as goal

pub loop-length-init : goal.loop-length-init
loop-length-init c = (omega arith, refl, stacked_most _ c.requires.4.stacked)

pub returns : goal.returns
returns c =
    λ ends s h d ts st.
    c.loop-length.invariant.1 ∙ ap sum (take_all _ _ c.loop-length-test.false) ∙ stacked_total _ st
