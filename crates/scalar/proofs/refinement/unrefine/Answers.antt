use Rattle.std.proofs.lemmas.Result.{err_from_is_err_and}
use Rattle.scalar.proofs.UnrefineLaws.{handed_short, handed_there, handed_done}
use Rattle.scalar.proofs.refinement.unrefine.Goals as goal

pub returns-in_err-n : goal.returns-in_err-n
returns-in_err-n c =
    let p = err_from_is_err_and c.from_residual-in_err-n.result c.from_residual-in_err-n.ensures.1 in
    rw (p.1, p.2) (handed_short c.start_of.ensures c.args.res.now c.in_err-n.ensures)

pub unrefine_at-requires : goal.unrefine_at-requires
unrefine_at-requires c = handed_there c.start_of.ensures c.args.res.now c.in_ok-n.ensures

pub returns : goal.returns
returns c = handed_done c.start_of.ensures c.args.res.now c.in_ok-n.ensures c.unrefine_at.ensures
