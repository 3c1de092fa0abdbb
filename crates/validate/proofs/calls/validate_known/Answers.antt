use native.Mathlib.Omega.{arith}
use mathlib.Core.Logic.{inl}
use Rattle.validate.specs.Answers.{side_of}
use Rattle.validate.proofs.WholeLaws.{lones, validate-done, validate-not, validate-ends}
use Rattle.validate.proofs.calls.validate_known.Goals as goal

pub check_type-requires : goal.check_type-requires
check_type-requires c =
    let both = lones c.args.spec.now c.args.ty.now (λ i. omega (arith, c.type_inv.spec i)) (λ i. omega (arith, c.type_inv.ty i)) c.requires in
    (both.pair, omega arith)

pub returns-in-Ok : goal.returns-in-Ok
returns-in-Ok c =
    let both = lones c.args.spec.now c.args.ty.now (λ i. omega (arith, c.type_inv.spec i)) (λ i. omega (arith, c.type_inv.ty i)) c.requires in
    let done = c.in-Ok.ensures both.pair in
    let ends = validate-ends both (side_of c.args.side) c.args.out.now c.check_type.new.out done in
    inl (validate-done both (side_of c.args.side) c.args.out.now c.check_type.new.out done, omega (arith, ends, c.check_type.auto.out))

pub returns-in-Err : goal.returns-in-Err
returns-in-Err c =
    let both = lones c.args.spec.now c.args.ty.now (λ i. omega (arith, c.type_inv.spec i)) (λ i. omega (arith, c.type_inv.ty i)) c.requires in
    inl (validate-not both (side_of c.args.side) c.args.out.now c.check_type.new.out c.in-Err.reason (c.in-Err.ensures both.pair))
