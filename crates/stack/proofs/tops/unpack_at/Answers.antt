use Rattle.std.proofs.Common.{arith, refl, ◌∙◌}
use Rattle.stack.specs.Stack.{memory, tray_end}
use Rattle.stack.proofs.KeepsLaws.{bring_back, unpacked-keeps}
use Rattle.stack.proofs.tops.unpack_at.Goals as goal

pub unpack-requires : goal.unpack-requires
unpack-requires c =
    let args = c.args in
    let freed = c.free_tray.ensures in
    let (s, count, less, has) = c.requires.0 in
    bring_back (memory c.free_tray.new.ends args.lengths.now s args.trays.now c.free_tray.new.scratch) count args.k
    (record { types = has.types; stacked = freed.by_index s count (omega arith) has.types has.stacked }) less
    (freed.free.1 args.k (omega arith) ∙ c.if-ends-k-ne-PACKED_END.false) c.requires.1 c.tray_at-at.ensures

pub returns-clause-by_index : goal.returns-clause-by_index
returns-clause-by_index c =
    let args = c.args in
    let freed = c.free_tray.ensures in
    let packed = freed.free.1 args.k (omega arith) ∙ c.if-ends-k-ne-PACKED_END.false in
    λ s count less top ts h.
    unpacked-keeps _ args.lengths.now s args.trays.now _ count args.k less tray_end _ _ refl packed refl refl c.requires.1 top freed.free.0
    (rw c.tray_at-at.ensures at c.unpack.ensures) ts (freed.by_index s count (omega arith) ts h)
