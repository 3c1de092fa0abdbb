use Prim.Native.Nat.{ℕ, ◌≤◌}
use native.Mathlib.Omega.{arith}
use lib.ListN.{length, length-replicate}
use Rattle.model.specs.Limits.{max_bytes}
use Rattle.run.proofs.SheetLaws.{some_state, ran_has, unran}
use Rattle.run.proofs.sheet.run_roomy.Goals as goal

pub returns-in_err-reached : goal.returns-in_err-reached
returns-in_err-reached c = λ st h all. unran _ _ c.in_err-reached.ensures h all _ c.from_residual.ensures.1 _ _

pub run_rest-requires : goal.run_rest-requires
run_rest-requires c =
    let (has, names) = ran_has c.in_ok-reached.ensures (some_state _ _ _ c.requires.0 c.requires.1).1 in
    let room : max_bytes ≤ length c.run_steps.new.out = omega (arith, c.run_steps.auto.out, length-replicate {A = ℕ} max_bytes 0) in
    (room, has, names)
