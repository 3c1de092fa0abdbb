use native.Mathlib.Omega.{arith}
use mathlib.Core.Path.{refl}
use Rattle.std.proofs.lemmas.Grind.{common_steps}
use Rattle.validate.proofs.CopyLaws.{type_fits, type-copied}
use Rattle.validate.proofs.copies.copy_type.Goals as goal

pub slice_bounds-lay-end : goal.slice_bounds-lay-end
slice_bounds-lay-end c = (type_fits c.span_at-span.ensures c.requires).1

pub lay-requires : goal.lay-requires
lay-requires c = let fits = type_fits c.span_at-span.ensures c.requires in grind (arith, common_steps)

pub returns : goal.returns
returns c = λ t h.
    let args = c.args in
    let fits = type_fits c.span_at-span.ensures c.requires in
    type-copied args.s.now args.at c.span_at-span.result t h (c.span_at-span.ensures t h) args.out.now args.to fits.2 c.lay.ensures _ refl refl
