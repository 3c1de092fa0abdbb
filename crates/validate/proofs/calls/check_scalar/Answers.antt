use Rattle.validation.specs.Validate.{check_scalar_only}
use Rattle.validate.proofs.SeparateLaws.{tells_input}
use Rattle.validate.proofs.calls.check_scalar.Goals as goal

pub returns-in_err-read_two : goal.returns-in_err-read_two
returns-in_err-read_two c =
    let args = c.args in
    tells_input args.spec.now args.ty.now check_scalar_only c.in_err-read_two.field-0.0 c.from_residual.result args.res.now c.in_err-read_two.ensures c.from_residual.ensures.1
