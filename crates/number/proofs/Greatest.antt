-- The kind of a list is the greatest of its numbers' kinds, by their codes. Assumes nothing.
use mathlib.Core.Path.{◌≡◌, refl, ap}
use mathlib.Core.Bool.{Bool, true, false, ◌||◌, or-false}
use mathlib.Core.List.{List, [], ◌∷◌}
use Prim.Native.Nat.{ℕ, suc, ◌+◌, ◌≤◌, ◌<◌, max}
use native.Mathlib.Numerals.{add-one}
use native.Mathlib.Omega.{arith}
use lib.ListN.{length, drop, get_or, drop_of_length-le}
use lib.Seq.{drop-cons}
use lib.Ieee.{Float, nan, binary64, of_bits, lt}
use Rattle.std.specs.Ordering.{ord_max}
use Rattle.format.specs.Records.{code}
use Rattle.limits.specs.Codes.{code_for}
use Rattle.limits.specs.declared.codes.Kind.{Kind}
use Rattle.limits.specs.contracts.codes.KindOrd.TheImpl.{cmp-value}
use Rattle.number.specs.Kind.{any, not_whole, negative, above_one, kind_by, kind_of_numbers}

-- ---- one number

kind-one : (x : Float) (p q r : Bool) → not_whole x ≡ p → negative x ≡ q → above_one x ≡ r → code (kind_of_numbers (x ∷ [])) ≡ code (kind_by p q r)
kind-one x p q r a b c = simp (a, b, c, or-false)

module _ (x : Float) where
  pub kind_unwhole : not_whole x ≡ true → code (kind_of_numbers (x ∷ [])) ≡ 3
  unfolding code
  kind_unwhole w = kind-one x true _ _ w refl refl

  module _ (w : not_whole x ≡ false) where
    pub kind_negative : lt x (of_bits binary64 0) ≡ true → code (kind_of_numbers (x ∷ [])) ≡ 2
    unfolding of_bits code
    kind_negative n = kind-one x false true _ w n refl

    module _ (n : lt x (of_bits binary64 0) ≡ false) where
      pub kind_above_one : lt (of_bits binary64 0x3ff0_0000_0000_0000) x ≡ true → code (kind_of_numbers (x ∷ [])) ≡ 1
      unfolding of_bits code
      kind_above_one a = kind-one x false false true w n a

      pub kind_bit : lt (of_bits binary64 0x3ff0_0000_0000_0000) x ≡ false → code (kind_of_numbers (x ∷ [])) ≡ 0
      unfolding of_bits code
      kind_bit a = kind-one x false false false w n a

-- ---- one number more

kind_by_or : (a b c p q r : Bool) → code (kind_by (a || p) (b || q) (c || r)) ≡ max (code (kind_by (a || false) (b || false) (c || false))) (code (kind_by p q r))
unfolding code
kind_by_or true b c true q r = refl
kind_by_or true b c false true r = refl
kind_by_or true b c false false true = refl
kind_by_or true b c false false false = refl
kind_by_or false true c true q r = refl
kind_by_or false true c false true r = refl
kind_by_or false true c false false true = refl
kind_by_or false true c false false false = refl
kind_by_or false false true true q r = refl
kind_by_or false false true false true r = refl
kind_by_or false false true false false true = refl
kind_by_or false false true false false false = refl
kind_by_or false false false true q r = refl
kind_by_or false false false false true r = refl
kind_by_or false false false false false true = refl
kind_by_or false false false false false false = refl

kind_of_numbers_cons : (x : Float) (xs : List Float) → code (kind_of_numbers (x ∷ xs)) ≡ max (code (kind_of_numbers (x ∷ []))) (code (kind_of_numbers xs))
kind_of_numbers_cons x xs = kind_by_or (not_whole x) (negative x) (above_one x) (any not_whole xs) (any negative xs) (any above_one xs)

pub greatest_next : (xs : List Float) (i : ℕ) → i < length xs → code (kind_of_numbers (drop i xs)) ≡ max (code (kind_of_numbers (get_or xs i nan ∷ []))) (code (kind_of_numbers (drop (i + 1) xs)))
greatest_next xs i h = rw (add-one, drop-cons xs i nan h) (kind_of_numbers_cons (get_or xs i nan) (drop (suc i) xs))

pub greatest_ends : (xs : List Float) (i : ℕ) → length xs ≤ i → code (kind_of_numbers (drop i xs)) ≡ 0
unfolding code
greatest_ends xs i h = ap (λ ys. code (kind_of_numbers ys)) (drop_of_length-le xs h)

-- ---- the greater of two kinds has the greater code

pub greater : (a b : Kind) → code_for (ord_max cmp-value.it a b) ≡ max (code_for a) (code_for b)
greater a b = grind arith
