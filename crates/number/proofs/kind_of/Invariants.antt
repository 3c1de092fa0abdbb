use mathlib.Core.Path.{◌≡◌}
use Prim.Native.Nat.{max}
use lib.ListN.{drop}
use Rattle.format.specs.Records.{code}
use Rattle.limits.specs.Codes.{code_for}
use Rattle.number.specs.Kind.{kind_of_numbers}
use Rattle.number.proofs.kind_of.Given as goal

abbrev pub invariant-loop-x : goal.invariant-loop-x
invariant-loop-x l = max (code_for l.kind) (code (kind_of_numbers (drop l.x-index l.xs))) ≡ code (kind_of_numbers l.xs)
