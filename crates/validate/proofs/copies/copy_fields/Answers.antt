use native.Mathlib.Omega.{arith}
use mathlib.Core.Path.{refl, ◌∙◌}
use Rattle.validate.proofs.CopyLaws.{going-has, going-room, going_next, going-few, going_end}
use Rattle.validate.proofs.copies.copy_fields.Goals as goal

pub copy_type-copied-requires : goal.copy_type-copied-requires
copy_type-copied-requires c =
    going-room (c.loop.invariant.1 c.requires.fields c.requires.there c.requires.counted) (omega arith) (omega (arith, c.requires.space))

pub next_type-at-requires : goal.next_type-at-requires
next_type-at-requires c = going-has (c.loop.invariant.1 c.requires.fields c.requires.there c.requires.counted) (omega arith)

pub overflow_add-types : goal.overflow_add-types
overflow_add-types c =
    let going = c.loop.invariant.1 c.requires.fields c.requires.there c.requires.counted in
    let few = going-few going (omega arith) c.copy_type-copied.new.out c.copy_type-copied.result c.copy_type-copied.ensures c.requires.few in
    omega (arith, few)

pub loop-preserved : goal.loop-preserved
loop-preserved c = (
  c.copy_type-copied.auto.out ∙ c.loop.invariant.0,
  λ f h n. going_next (c.loop.invariant.1 f h n) (omega arith) c.copy_type-copied.new.out c.copy_type-copied.result c.copy_type-copied.ensures (omega arith) c.next_type-at.ensures,
)

pub returns : goal.returns
returns c = λ f h n. going_end c.loop.out (c.loop.invariant.1 f h n) (omega arith) _ refl refl
