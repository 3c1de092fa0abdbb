use mathlib.Core.Path.{refl}
use Rattle.run.proofs.SheetLaws.{state_fresh, left_at_end, ran_has, ran_on, unran}
use Rattle.run.proofs.sheet.run_small.Goals as goal

pub returns-in_err-reached : goal.returns-in_err-reached
returns-in_err-reached c = unran _ _ c.in_err-reached.ensures (state_fresh _ _ _ _ c.requires) refl _ c.from_residual.ensures.1 _ _

pub hand_over-requires : goal.hand_over-requires
hand_over-requires c = (ran_has c.in_ok-reached.ensures (state_fresh _ _ _ _ c.requires)).0

pub returns-then-sheet-reached : goal.returns-then-sheet-reached
returns-then-sheet-reached c = ran_on c.in_ok-reached.ensures (state_fresh _ _ _ _ c.requires) refl (left_at_end c.if-sheet-reached.true c.hand_over.ensures)

pub run_roomy-requires : goal.run_roomy-requires
run_roomy-requires c = ran_has c.in_ok-reached.ensures (state_fresh _ _ _ _ c.requires)

pub returns : goal.returns
returns c = ran_on c.in_ok-reached.ensures (state_fresh _ _ _ _ c.requires) refl c.run_roomy.ensures
