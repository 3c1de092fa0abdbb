use Rattle.std.proofs.Common.{arith, rules}
use Rattle.stack.proofs.OutLaws.{laid_none, next_ends, next_fits, laid_next}
use Rattle.stack.proofs.out.lay_types.Goals as goal

pub loop-k-init : goal.loop-k-init
loop-k-init c = λ ts st. laid_none _ st c.args.res.now

pub lay_type-requires : goal.lay_type-requires
lay_type-requires c =
    let st = c.requires.1 in
    (next_fits _ st c.loop-k.k c.loop-k-test.true (c.loop-k.invariant _ st) _ (omega (arith, c.requires.2)), omega (arith, st.few), st.ended, st.measured)

pub overflow_add-at : goal.overflow_add-at
overflow_add-at c =
    let ends = next_ends _ c.requires.1 c.loop-k.k c.loop-k-test.true (c.loop-k.invariant _ c.requires.1) _ c.requires.2 in
    search rules

pub loop-k-preserved : goal.loop-k-preserved
loop-k-preserved c =
    let ends = next_ends _ c.requires.1 c.loop-k.k c.loop-k-test.true (c.loop-k.invariant _ c.requires.1) _ c.requires.2 in
    λ ts st. laid_next _ st c.loop-k.k c.loop-k-test.true (c.loop-k.invariant ts st) (omega arith) c.lay_type.ensures
