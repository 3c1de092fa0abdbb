use mathlib.Core.Path.{refl}
use Rattle.format.specs.Records.{code}
use Rattle.rules.specs.Order.{code_of, kind_place}
use Rattle.rules.specs.Scalars.{superset_codes, compatible_codes, superset_of, compatible_scalars, union}
use Rattle.rules.specs.KindTable.{squares}
use Rattle.kind_table.proofs.KindLaws.{code_below}
use Rattle.kind_table.proofs.TableLaws.{compatible-found}
use Rattle.kind_table.proofs.compatible.Goals as goal

pub returns : goal.returns
unfolding squares code code_of kind_place superset_codes compatible_codes superset_of compatible_scalars union
returns c = rw (c.code.ensures, c.code-2.ensures) (compatible-found _ _ _ refl (code_below c.args.k) (code_below c.args.l))
