use native.Mathlib.Omega.{arith}
use Rattle.known.proofs.SpanLaws.{reach_start, reach_has, reach_next, reach_end}
use Rattle.known.proofs.spans.field_at.Goals as goal

pub loop-init : goal.loop-init
loop-init c = λ f h l. reach_start _ _ _ _ f h l

pub skip_type-field-requires : goal.skip_type-field-requires
skip_type-field-requires c =
    reach_has (c.loop.invariant c.requires.2.fields c.requires.2.there (omega (arith, c.requires.1, c.requires.2.counted)))

pub loop-preserved : goal.loop-preserved
loop-preserved c =
    λ f h l. reach_next (c.loop.invariant f h l) c.loop-test.true (λ t g. (c.skip_type-field.ensures t g).ends)

pub returns : goal.returns
returns c = λ f h l. reach_end (c.loop.invariant f h l) c.loop-test.false
