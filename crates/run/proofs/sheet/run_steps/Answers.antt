use native.Mathlib.Omega.{arith}
use mathlib.Core.Path.{refl}
use Rattle.run.proofs.SheetLaws.{goes_none, goes_over, goes_on, goes_waits, goes_stops}
use Rattle.run.proofs.sheet.run_steps.Goals as goal

pub loop-reached-init : goal.loop-reached-init
loop-reached-init c = goes_none _ _ _ c.requires.0 c.requires.1

pub returns-then-reached-ge-MAX_STEPS : goal.returns-then-reached-ge-MAX_STEPS
returns-then-reached-ge-MAX_STEPS c = goes_over c.loop-reached.invariant c.loop-reached.out c.if-reached-ge-MAX_STEPS.true c.loop-reached-test.true

pub returns-in_err-worked : goal.returns-in_err-worked
returns-in_err-worked c = goes_stops c.loop-reached.invariant c.if-reached-ge-MAX_STEPS.false c.loop-reached-test.true _ _ refl _ _ c.in_err-worked.ensures _ c.from_residual.ensures.1

pub returns-then-worked-reached : goal.returns-then-worked-reached
returns-then-worked-reached c = goes_waits c.loop-reached.invariant c.if-reached-ge-MAX_STEPS.false c.loop-reached-test.true _ _ refl _ _ c.in_ok-worked.ensures (λ i. omega (arith, c.type_inv.s i)) c.if-worked-reached.true

pub loop-reached-preserved : goal.loop-reached-preserved
loop-reached-preserved c = goes_on c.loop-reached.invariant c.if-reached-ge-MAX_STEPS.false c.loop-reached-test.true _ _ refl _ _ c.in_ok-worked.ensures c.if-worked-reached.false
