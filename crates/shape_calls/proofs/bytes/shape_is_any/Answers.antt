use native.Mathlib.Omega.{arith}
use Rattle.shape_calls.proofs.CallLaws.{any_told}
use Rattle.shape_calls.proofs.bytes.shape_is_any.Goals as goal

pub returns : goal.returns
returns c = any_told _ (λ i. omega (arith, c.type_inv.a i)) c.in_ok-read_lone.ensures c.any_shape_at.ensures
