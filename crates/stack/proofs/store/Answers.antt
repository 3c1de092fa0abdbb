use native.Mathlib.Omega.{arith}
use mathlib.Core.Path.{refl, ap}
use lib.ListN.{length}
use Rattle.stack.specs.Stack.{packed_end, tray_end}
use Rattle.stack.proofs.ApartLaws.{slot_inside}
use Rattle.stack.proofs.KeepsLaws.{packed_takes, in_tray_takes}
use Rattle.stack.proofs.store.Goals as goal

pub pack-requires : goal.pack-requires
pack-requires c =
    let args = c.args in
    record {
      type = c.requires.1.0;
      within = c.requires.1.1;
      bytes = c.requires.1.2;
      room = slot_inside args.scratch.now c.requires.2.3.stacked.room c.requires.1.0 c.requires.1.1 args.k c.requires.0;
    }

pub returns-then-trays-ty : goal.returns-then-trays-ty
returns-then-trays-ty c =
    let args = c.args in
    λ s count t there within e.
    packed_takes args.ends.now args.lengths.now s args.trays.now args.scratch.now count args.k c.requires.0 there t within packed_end (length args.ty.now) (ap length e) args.trays.now _ c.pack.auto.out
    refl (c.pack.ensures t within e) refl c.requires.2.3.stacked.room

pub returns : goal.returns
returns c =
    let args = c.args in
    λ s count t there within e ts h.
    let freed = c.free_tray.ensures in
    let laid = rw (c.tray_at-at.ensures, e) at c.lay.ensures in
    in_tray_takes _ args.lengths.now s args.trays.now _ count args.k c.requires.0 there t within tray_end (length args.ty.now) (ap length e) _ _ refl
    laid refl refl (omega (arith, ap length e, c.if-trays-ty.false)) freed.free.0 ts (freed.by_index s count there ts h)
