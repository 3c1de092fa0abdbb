-- Sizes laid to the front of numbers that are lent, and what is said of a list of them.
use Prim.Native.Nat.{ℕ, zero, suc, ◌+◌, ◌≤◌, ◌<◌}
use native.Mathlib.Omega.{arith}
use native.Mathlib.Nat.{zero-add}
use mathlib.Core.List.{List, [], ◌∷◌, ◌++◌, map}
use mathlib.Core.Path.{◌≡◌, refl, sym, ◌∙◌, ap}
use lib.ListN.{length, take, drop, length-map}
use Rattle.model.specs.Refusals.{too_short}
use Rattle.format.specs.Records.{dim_number, dim_of}
use Rattle.format.specs.Outcome.{accepted, refused, delivery, deliver}
use Rattle.lent.specs.Delivers.{deliver_bytes, deliver_nothing}
use Rattle.velgrodis.specs.AnswersLaws.{dims-numbers}

-- The first numbers as often as they are counted are the first of all.
take_counted : (n : ℕ) (xs : List ℕ) → take (length (take n xs)) xs ≡ take n xs
take_counted zero xs = refl
take_counted (suc n) [] = refl
take_counted (suc n) (x ∷ xs) = ap (λ ys. x ∷ ys) (take_counted n xs)

-- of so many sizes, the first of some numbers
module _ (count : ℕ) (ns buffer : List ℕ) where
  abbrev many : ℕ
  many = length (map dim_of (take count ns))

  first : map dim_number (map dim_of (take count ns)) ≡ take many ns
  first = dims-numbers (take count ns) ∙ sym (take_counted count ns) ∙ ap (λ k. take k ns) (sym (length-map (take count ns) dim_of))

  as_many : length (map dim_number (map dim_of (take count ns))) ≡ many
  as_many = length-map (map dim_of (take count ns)) dim_number

  pub sizes_short : length buffer < length (map dim_of (take count ns)) → deliver (accepted (map dim_number (map dim_of (take count ns)))) buffer ≡ delivery (refused too_short 0) buffer
  sizes_short h = deliver_nothing buffer (map dim_number (map dim_of (take count ns))) (omega (arith, as_many))

  pub sizes_laid : length (map dim_of (take count ns)) ≤ length buffer → deliver (accepted (map dim_number (map dim_of (take count ns)))) buffer
      ≡ delivery (accepted (length (map dim_of (take count ns)))) (take (length (map dim_of (take count ns))) ns ++ drop (length (map dim_of (take count ns))) buffer)
  sizes_laid h =
      deliver_bytes buffer (map dim_number (map dim_of (take count ns))) (omega (arith, as_many))
      ∙ rw (as_many, zero-add) (ap (λ w. delivery (accepted many) (w ++ drop many buffer)) first)

pub ruleset sizes = (sizes_short, sizes_laid)
