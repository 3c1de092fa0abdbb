use Rattle.std.proofs.Common.{arith}
use Rattle.names.specs.TableLaws.{type_none, found_inside, found_is}
use Rattle.names.proofs.table.look_up.Goals as goal

pub returns-then-k-count : goal.returns-then-k-count
returns-then-k-count c =
    λ ns n force name. type_none ns n (omega (arith, c.find-k.ensures.place c.args.bounds.now ns n force name, force.many))

pub bounds-s-at : goal.bounds-s-at
bounds-s-at c =
    let has = c.requires.0 in
    omega (arith, found_inside _ _ _ has.names has.in_force c.find-k.result (omega arith))

pub overflow_add-result : goal.overflow_add-result
overflow_add-result c =
    let has = c.requires.0 in
    omega (arith, found_inside _ _ _ has.names has.in_force c.find-k.result (omega arith))

pub overflow_add-result-2 : goal.overflow_add-result-2
overflow_add-result-2 c =
    let has = c.requires.0 in
    omega (arith, found_inside _ _ _ has.names has.in_force c.find-k.result (omega arith))

pub returns : goal.returns
returns c =
    λ ns n force name. found_is _ _ _ ns force c.find-k.result (omega arith) n (c.find-k.ensures.place c.args.bounds.now ns n force name)
