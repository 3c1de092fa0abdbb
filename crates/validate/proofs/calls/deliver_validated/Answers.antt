use native.Mathlib.Omega.{arith}
use mathlib.Core.Path.{sym}
use Rattle.std.proofs.lemmas.Result.{err_from_is_err_and}
use Rattle.lent.specs.Delivers.{deliver-refused, roomy_puts}
use Rattle.validate.proofs.calls.deliver_validated.Goals as goal

pub returns-in_err-n : goal.returns-in_err-n
returns-in_err-n c =
    let p = err_from_is_err_and c.from_residual.result c.from_residual.ensures.1 in
    let puts = roomy_puts _ c.validate_known.new.out _ (omega arith) c.in_err-n.ensures in
    rw (p.1, p.2) (sym (deliver-refused c.args.res.now puts))
