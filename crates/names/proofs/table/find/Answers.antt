use Rattle.std.proofs.Common.{sym, ◌∙◌}
use Rattle.names.specs.TableLaws.{nth_in_force, place_here, place-later}
use Rattle.names.proofs.table.find.Goals as goal

pub same_name-requires : goal.same_name-requires
same_name-requires c =
    let args = c.args in
    let (bounds, has) = c.requires.0 in
    nth_in_force args.s.now args.places.now bounds has.names has.in_force c.loop-k.k c.loop-k-test.true λ m u is d.
    ((m, d.name), c.requires.1)

pub returns-then-same_name-clause-place : goal.returns-then-same_name-clause-place
returns-then-same_name-clause-place c =
    let args = c.args in
    λ bounds ns n force name.
    nth_in_force args.s.now args.places.now bounds ns force c.loop-k.k c.loop-k-test.true λ m u is d.
    place_here n m u ns _ c.loop-k.k is (c.loop-k.invariant bounds ns n force name) (sym c.if-same_name.true ∙ c.same_name.ensures m n d.name name)

pub loop-k-preserved : goal.loop-k-preserved
loop-k-preserved c =
    let args = c.args in
    λ bounds ns n force name.
    nth_in_force args.s.now args.places.now bounds ns force c.loop-k.k c.loop-k-test.true λ m u is d.
    place-later n m u ns _ c.loop-k.k is (c.loop-k.invariant bounds ns n force name) (sym c.if-same_name.false ∙ c.same_name.ensures m n d.name name)
