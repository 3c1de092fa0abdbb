use Rattle.std.proofs.Common.{arith}
use Rattle.std.proofs.lemmas.Bool.Decides.{nat_tests}
use Rattle.stack.proofs.OutLaws.{stacked_most}
use Rattle.stack.proofs.tops.wants_trays.Goals as goal

pub returns-then-half-lengths : goal.returns-then-half-lengths
returns-then-half-lengths c =
    let most = stacked_most _ c.requires.3.stacked in
    grind (arith, nat_tests)

pub returns-then-count-gt1 : goal.returns-then-count-gt1
returns-then-count-gt1 c =
    let most = stacked_most _ c.requires.3.stacked in
    grind (arith, nat_tests)
