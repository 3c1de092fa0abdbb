-- Lists of sizes as numbers: numbers that were taken for sizes stand for them.
use Rattle.std.specs.Prelude.{ℕ, List, [], ◌∷◌, map, ◌≡◌, refl}
use Rattle.std.proofs.Common.{◌∙◌, ap}
use Rattle.format.specs.Records.{dim_number, dim_of}
use Rattle.format.specs.ReadWrite.{dim-number}

pub dims-numbers : (ns : List ℕ) → map dim_number (map dim_of ns) ≡ ns
dims-numbers [] = refl
dims-numbers (n ∷ ns) = ap (λ k. k ∷ map dim_number (map dim_of ns)) (dim-number n) ∙ ap (λ ms. n ∷ ms) (dims-numbers ns)
