use native.Mathlib.Omega.{arith}
use Rattle.validate.proofs.ListLaws.{count-has, count_next, count-few, count-end}
use Rattle.validate.proofs.lists.types_in.Goals as goal

pub span_at-span-requires : goal.span_at-span-requires
span_at-span-requires c = count-has (c.loop.invariant c.requires.fields c.requires.there c.requires.counted) (omega arith)

pub overflow_add-types : goal.overflow_add-types
overflow_add-types c =
    let few = count-few (c.loop.invariant c.requires.fields c.requires.there c.requires.counted) (omega arith) c.span_at-span.ensures c.requires.few in
    omega (arith, few)

pub loop-preserved : goal.loop-preserved
loop-preserved c = λ f h n. count_next (c.loop.invariant f h n) (omega arith) c.span_at-span.ensures (omega arith) c.next_place-at.ensures

pub returns : goal.returns
returns c = λ f h n. count-end (c.loop.invariant f h n) (omega arith)
