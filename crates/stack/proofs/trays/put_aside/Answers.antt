use Rattle.std.proofs.Common.{refl, rules}
use Rattle.stack.specs.Stack.{packed_end}
use Rattle.stack.proofs.KeepsLaws.{set_aside, packed_keeps}
use Rattle.stack.proofs.trays.put_aside.Goals as goal

pub overflow_add-at : goal.overflow_add-at
overflow_add-at c =
    let fits = (set_aside _ _ c.args.i c.requires.3 c.requires.2 c.if-ends-i-ne-TRAY_END.false c.tray_at-at.ensures).0 in
    search rules

pub slice_bounds-pack-end : goal.slice_bounds-pack-end
slice_bounds-pack-end c = (set_aside _ _ c.args.i c.requires.3 c.requires.2 c.if-ends-i-ne-TRAY_END.false c.tray_at-at.ensures).0

pub pack-requires : goal.pack-requires
pack-requires c = (set_aside _ _ c.args.i c.requires.3 c.requires.2 c.if-ends-i-ne-TRAY_END.false c.tray_at-at.ensures).1

pub returns-clause-by_index : goal.returns-clause-by_index
returns-clause-by_index c =
    let args = c.args in
    λ s count less. packed_keeps args.ends.now args.lengths.now s args.trays.now args.scratch.now count args.i less packed_end args.trays.now _
    c.pack.auto.out c.if-ends-i-ne-TRAY_END.false refl refl c.tray_at-at.ensures c.pack.ensures
