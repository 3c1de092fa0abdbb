use Prim.Native.Nat.{ℕ, ◌≤◌}
use native.Mathlib.Omega.{arith}
use mathlib.Core.Path.{refl}
use lib.ListN.{length, length-replicate}
use Rattle.model.specs.Limits.{max_bytes}
use Rattle.stack.specs.Stack.{full_trays}
use Rattle.run.proofs.SheetLaws.{some_state, trays_kept, trays_has, on_kept, ran_has, ran_whole, unran}
use Rattle.run.proofs.sheet.run_large.Goals as goal

pub run_steps-requires : goal.run_steps-requires
run_steps-requires c = (trays_has c.requires.3 _ c.requires.1, c.requires.2)

pub returns-in_err-reached : goal.returns-in_err-reached
returns-in_err-reached c = λ small. on_kept refl (trays_kept c.requires.3 small _) λ st h all. unran _ _ c.in_err-reached.ensures h all _ c.from_residual.ensures.1 _ _

pub hand_over-requires : goal.hand_over-requires
hand_over-requires c = (ran_has c.in_ok-reached.ensures (some_state _ _ _ (trays_has c.requires.3 _ c.requires.1) c.requires.2).1).0

pub returns : goal.returns
returns c =
    let trays-room : full_trays ≤ length c.run_steps.new.trays = omega (arith, c.run_steps.auto.trays, length-replicate {A = ℕ} full_trays 0) in
    let out-room : max_bytes ≤ length c.run_steps.new.out = omega (arith, c.requires.0, c.run_steps.auto.out) in
    λ small. on_kept refl (trays_kept c.requires.3 small _) λ st h all. ran_whole c.in_ok-reached.ensures h all trays-room out-room c.hand_over.ensures
