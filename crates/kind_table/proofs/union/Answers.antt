use mathlib.Core.Path.{refl, ◌∙◌}
use Rattle.format.specs.Records.{code}
use Rattle.rules.specs.Order.{code_of, kind_place}
use Rattle.rules.specs.Scalars.{superset_codes, compatible_codes, superset_of, compatible_scalars, union}
use Rattle.rules.specs.KindTable.{squares}
use Rattle.kind_table.proofs.TableLaws.{union_itself, union-found, united}
use Rattle.kind_table.proofs.union.Goals as goal

pub returns-then-eq : goal.returns-then-eq
returns-then-eq c x y h g = union_itself c.args.k c.args.l c.if-eq.ensures x y h g c.if-eq-2.ensures

pub returns : goal.returns
unfolding squares code code_of kind_place superset_codes compatible_codes superset_of compatible_scalars union
returns c x y h g =
    united c.try_from.result c.ok.result _ x y c.try_from.ensures c.ok.ensures.value
    (union-found _ c.code.result c.code-2.result refl x y (c.code.ensures ∙ h) (c.code-2.ensures ∙ g))
