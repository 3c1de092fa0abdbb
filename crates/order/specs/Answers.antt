-- What the answers of this crate say, in the terms of the definitions: for each case of each, the paper's number and values.
use Rattle.std.specs.Prelude.{ℕ, ◌+◌, List, ◌≡◌, length}
use Rattle.model.specs.Types.{Fields, field_count}
use Rattle.format.specs.Records.{write_fields}
use Rattle.rules.specs.Sizes.{Order, less, same, more}
use Rattle.rules.specs.Order.{cmp_fields}
use Rattle.known.specs.Known.{FieldsAt}
use Rattle.order.specs.declared.Ranking.{Ranking}
use Rattle.order.specs.declared.Ranking.TheVariants.{Less, Same, More}

-- an order, with the place after the first
abbrev pub ranking_of : Order → ℕ → Ranking
ranking_of less n = Less
ranking_of same n = Same n
ranking_of more n = More

-- the order of so many fields in each of two inputs, from a place on in each
abbrev pub FieldsRanked : List ℕ → ℕ → ℕ → List ℕ → ℕ → ℕ → ℕ → Ranking → Type 0
FieldsRanked a i count b j number d r =
    (f g : Fields) → FieldsAt a i d f → FieldsAt b j d g → field_count f ≡ count → field_count g ≡ number → r ≡ ranking_of (cmp_fields f g) (i + length (write_fields f))
