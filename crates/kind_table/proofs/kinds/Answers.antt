use Prim.Native.Nat.{◌≤◌}
use mathlib.Core.Path.{refl, sym}
use native.Mathlib.Omega.{arith}
use lib.ListN.{length}
use Rattle.format.specs.Records.{code}
use Rattle.lent.specs.Delivers.{deliver-wrote}
use Rattle.rules.specs.Order.{code_of, kind_place}
use Rattle.rules.specs.Scalars.{superset_codes, compatible_codes, superset_of, compatible_scalars, union}
use Rattle.rules.specs.KindTable.{squares, kind_table}
use Rattle.rules.proofs.KindTableLaws.{table_length}
use Rattle.kind_table.proofs.TableLaws.{table_laid}
use Rattle.kind_table.proofs.kinds.Goals as goal

pub returns : goal.returns
unfolding kind_table squares code code_of kind_place superset_codes compatible_codes superset_of compatible_scalars union
returns c =
    let room : length kind_table ≤ length c.args.res.now = omega (arith, table_length) in
    let laid = table_laid _ _ _ refl c.args.res.now room c.lay_square.ensures c.lay_square-2.ensures c.lay_square-3.ensures in
    deliver-wrote _ refl room (sym table_length) laid
