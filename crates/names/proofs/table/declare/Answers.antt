use Rattle.std.proofs.Common.{arith, refl, sym}
use Rattle.names.specs.TableLaws.{no_room, left_again, left_new}
use Rattle.names.proofs.table.declare.Goals as goal

pub returns-then-k-eq-MAX_NAMES : goal.returns-then-k-eq-MAX_NAMES
returns-then-k-eq-MAX_NAMES c =
    let args = c.args in
    λ ns n t force d.
    let is = c.find-k.ensures.place args.bounds.now ns n force d.name in
    (sym (no_room _ _ _ ns force n t args.name args.end c.find-k.result is c.if-k-eq-MAX_NAMES.true), λ few. absurd (omega arith), λ more. (refl, refl))

pub returns-then-k-count : goal.returns-then-k-count
returns-then-k-count c =
    let args = c.args in
    λ ns n t force d.
    let is = c.find-k.ensures.place args.bounds.now ns n force d.name in
    let (many, left) = left_again _ _ _ ns force n t args.name args.end c.find-k.result is d (omega (arith, force.few)) c.if-k-count.true in
    (many, left, λ more. absurd (omega (arith, force.few)))

pub returns-else-k-count : goal.returns-else-k-count
returns-else-k-count c =
    let args = c.args in
    λ ns n t force d.
    let is = c.find-k.ensures.place args.bounds.now ns n force d.name in
    let (many, left) = left_new _ _ _ ns force n t args.name args.end c.find-k.result is d (omega (arith, force.few)) c.if-k-count.false in
    (many, left, λ more. absurd (omega (arith, force.few)))
