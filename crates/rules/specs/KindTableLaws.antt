-- The whole table of kinds is right: at the codes of any two scalars, whatever boxes hold, stands what the rules say of these two. Of a
-- constant it is shown together, by one test that is computed at all its entries; what is looked up there goes by this statement alone.
use Rattle.std.specs.Prelude.{ℕ, List, [], ◌≡◌, get_or, length}
use Rattle.model.specs.Types.{Scalar}
use Rattle.model.specs.Within.{All}
use Rattle.rules.specs.Order.{code_of}
use Rattle.rules.specs.KindTable.{kind_count, superset_number, compatible_number, union_number}

-- The number of a square at two codes.
abbrev pub number_at : List (List ℕ) → ℕ → ℕ → ℕ
number_at square c d = get_or (get_or square c []) d 0

-- As many rows as there are kinds, of as many numbers each.
pub record IsSquare (s : List (List ℕ)) : Type 0 where
  pub rows : length s ≡ kind_count
  pub numbers : All (λ row. length row ≡ kind_count) s

-- Three squares, in which no number is missing, and each is what its rule says of all scalars of the two kinds.
pub record WholeTable (t : List (List (List ℕ))) : Type 0 where
  pub three : length t ≡ 3
  pub each-square : All IsSquare t
  pub superset-number : (k l : Scalar) → number_at (get_or t 0 []) (code_of k) (code_of l) ≡ superset_number k l
  pub compatible-number : (k l : Scalar) → number_at (get_or t 1 []) (code_of k) (code_of l) ≡ compatible_number k l
  pub union-number : (k l : Scalar) → number_at (get_or t 2 []) (code_of k) (code_of l) ≡ union_number k l
