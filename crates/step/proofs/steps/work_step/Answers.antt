use Rattle.std.specs.Prelude.{Ok}
use native.Mathlib.Omega.{arith}
use mathlib.Core.Path.{refl}
use Rattle.step.proofs.StepLaws.{unread_steps, put_asks, row_asks, pervading_asks, join_asks, validating_asks, using_asks, type_inside, row_steps, pervading_steps, join_steps, validating_steps, put_steps, using_steps, declaring_steps}
use Rattle.step.proofs.steps.work_step.Goals as goal

pub returns-in_err-step : goal.returns-in_err-step
returns-in_err-step c = unread_steps _ _ _ _ _ _ c.in_err-step.ensures _ c.from_residual.ensures.1 _

pub put-worked-requires : goal.put-worked-requires
put-worked-requires c = put_asks _ _ _ _ c.in_ok-step.ensures (λ i. omega (arith, c.type_inv.s i)) c.requires.0 c.in-Put.is

pub row-worked-requires : goal.row-worked-requires
row-worked-requires c = row_asks _ _ _ _ c.in_ok-step.ensures (λ i. omega (arith, c.type_inv.s i)) c.requires.0 c.in-Row.is

pub pervade-worked-requires : goal.pervade-worked-requires
pervade-worked-requires c = pervading_asks _ _ _ _ c.in_ok-step.ensures (λ i. omega (arith, c.type_inv.s i)) c.requires.0 c.in-Pervading.is

pub join-worked-requires : goal.join-worked-requires
join-worked-requires c = join_asks _ _ _ _ c.in_ok-step.ensures (λ i. omega (arith, c.type_inv.s i)) c.requires.0 c.in-Join.is

pub slice_bounds-validate-end : goal.slice_bounds-validate-end
slice_bounds-validate-end c = type_inside _ _ _ c.in_ok-step.ensures c.in-Validating.is

pub validate-worked-requires : goal.validate-worked-requires
validate-worked-requires c = validating_asks _ _ _ _ c.in_ok-step.ensures (λ i. omega (arith, c.type_inv.s i)) c.requires.0 c.in-Validating.is

pub use_name-worked-requires : goal.use_name-worked-requires
use_name-worked-requires c = using_asks _ _ _ _ c.in_ok-step.ensures (λ i. omega (arith, c.type_inv.s i)) c.requires.0 c.in-Using.is _ _ c.requires.1

pub returns-in-Put : goal.returns-in-Put
returns-in-Put c = put_steps _ _ _ _ _ _ c.in_ok-step.ensures _ _ refl _ (Ok c.put-worked.result) c.keep_names.ensures c.in-Put.is (λ u. c.put-worked.ensures c.args.s.now c.args.trays.now c.args.scratch.now u c.args.at)

pub returns-in-Row : goal.returns-in-Row
returns-in-Row c = row_steps _ _ _ _ _ _ c.in_ok-step.ensures _ _ refl _ _ c.keep_names-in-Row.ensures c.in-Row.is c.row-worked.ensures

pub returns-in-Pervading : goal.returns-in-Pervading
returns-in-Pervading c = pervading_steps _ _ _ _ _ _ c.in_ok-step.ensures _ _ refl _ _ c.keep_names-in-Pervading.ensures c.in-Pervading.is c.pervade-worked.ensures

pub returns-in-Join : goal.returns-in-Join
returns-in-Join c = join_steps _ _ _ _ _ _ c.in_ok-step.ensures _ _ refl _ _ c.keep_names-in-Join.ensures c.in-Join.is c.join-worked.ensures

pub returns-in-Validating : goal.returns-in-Validating
returns-in-Validating c = validating_steps _ _ _ _ _ _ c.in_ok-step.ensures _ _ refl _ _ c.keep_names-in-Validating.ensures c.in-Validating.is c.validate-worked.ensures

pub returns-in-Declaring : goal.returns-in-Declaring
returns-in-Declaring c = declaring_steps _ _ _ _ _ _ c.in_ok-step.ensures _ _ _ c.in-Declaring.is c.declare_name.ensures

pub returns-in-Using : goal.returns-in-Using
returns-in-Using c = using_steps _ _ _ _ _ _ c.in_ok-step.ensures _ _ refl _ _ c.keep_names-in-Using.ensures c.in-Using.is (c.use_name-worked.ensures c.args.trays.now c.args.scratch.now)
