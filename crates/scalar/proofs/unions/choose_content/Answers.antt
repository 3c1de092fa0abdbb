use native.Mathlib.Omega.{arith}
use Rattle.scalar.proofs.unions.choose_content.Goals as goal

pub returns-then-not-compatible_contents : goal.returns-then-not-compatible_contents
returns-then-not-compatible_contents c = λ t u h g. grind (arith, c.compatible_contents.ensures t u h g)

pub returns-in-Less : goal.returns-in-Less
returns-in-Less c = λ t u h g. grind (arith, c.compatible_contents.ensures t u h g, c.compare_types.ensures t u h g)

pub returns-in-More : goal.returns-in-More
returns-in-More c = λ t u h g. grind (arith, c.compatible_contents.ensures t u h g, c.compare_types.ensures t u h g)
