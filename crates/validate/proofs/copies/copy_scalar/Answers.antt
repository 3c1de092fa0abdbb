use native.Mathlib.Omega.{arith}
use mathlib.Core.Path.{refl}
use Rattle.std.proofs.lemmas.Grind.{common_steps}
use Rattle.validate.proofs.CopyLaws.{scalar_fits, scalar-copied}
use Rattle.validate.proofs.copies.copy_scalar.Goals as goal

pub slice_bounds-lay-count : goal.slice_bounds-lay-count
slice_bounds-lay-count c = (scalar_fits c.span_at-span.ensures c.scalar_at-start.ensures c.requires).0

pub slice_bounds-lay-start : goal.slice_bounds-lay-start
slice_bounds-lay-start c = (scalar_fits c.span_at-span.ensures c.scalar_at-start.ensures c.requires).0

pub slice_bounds-lay-end : goal.slice_bounds-lay-end
slice_bounds-lay-end c = (scalar_fits c.span_at-span.ensures c.scalar_at-start.ensures c.requires).1

pub lay-requires : goal.lay-requires
lay-requires c = let fits = scalar_fits c.span_at-span.ensures c.scalar_at-start.ensures c.requires in grind (arith, common_steps)

pub overflow_sub-result : goal.overflow_sub-result
overflow_sub-result c = (scalar_fits c.span_at-span.ensures c.scalar_at-start.ensures c.requires).0

pub returns : goal.returns
returns c = λ t h.
    let args = c.args in
    let fits = scalar_fits c.span_at-span.ensures c.scalar_at-start.ensures c.requires in
    scalar-copied args.s.now args.at c.scalar_at-start.ensures c.span_at-span.result t h (c.span_at-span.ensures t h) args.out.now args.to fits.3 c.lay.ensures _ refl refl
