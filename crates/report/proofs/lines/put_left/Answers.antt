use native.Mathlib.Omega.{arith}
use Rattle.report.proofs.LineLaws.{left_laid}
use Rattle.report.proofs.lines.put_left.Goals as goal

pub returns : goal.returns
returns c = λ ts h. left_laid _ _ _ _ ts _ _ h (omega (arith, c.requires.bytes_in_bounds)) c.put_head-next.ensures (c.put_types.ensures ts h)
