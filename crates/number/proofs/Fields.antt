-- The class of what a bit pattern stands for, by the pattern's sign, exponent and digits. Assumes nothing.
use mathlib.Core.Path.{◌≡◌, refl, ap, sym, ◌∙◌}
use mathlib.Core.Bool.{Bool}
use Prim.Native.Nat.{ℕ, zero, suc, ◌+◌, ◌*◌, ◌/◌, ◌%◌, ◌^◌, ◌<◌}
use native.Mathlib.Nat.{zero-mod, mod-eq_of_lt, mul-one, lt_of_lt_of_le}
use native.Mathlib.Omega.{arith}
use borrow.Author.Tests.{eq-eqb, ne_eqb}
use lib.Dec.{leb, lit≤}
use lib.Pow.{pow_pos, pow_mono}
use lib.Ieee.{Float, nan, inf, fin, up, down, odd, binary64, of_fields, of_bits}
use lib.Ieee.Fits.{down_pos}
use lib.Ieee.Exact.{HasValue, odd_sign}
use Rattle.number.specs.Class.{not_a_number, infinite, fraction, whole, class_of_ratio, class_of}
use Rattle.number.proofs.Ratio.{ratio_same, ratio_shift, ratio_whole, ratio_fraction}

class_value : (x : Float) (s : Bool) (a c : ℕ) → 0 < c → HasValue x s a c → class_of x ≡ class_of_ratio s a c
class_value nan s a c C h = absurd h
class_value (inf t) s a c C h = absurd h
class_value (fin t m e) s a c C h = ap (λ (k : Bool). class_of_ratio k (m * up e) (down e)) h.0 ∙ ratio_same (m * up e) (down e) a c (down_pos e) C h.1 s

-- ---- the highest exponent

fields-infinite : (s : Bool) (t : ℕ) → t ≡ 0 → class_of (of_fields binary64 s 2047 t) ≡ infinite s
unfolding of_fields
fields-infinite s t e = rw (eq-eqb t 0 e)

fields_nan : (s : Bool) (t : ℕ) → (t ≡ 0 → ⊥) → class_of (of_fields binary64 s 2047 t) ≡ not_a_number
unfolding of_fields
fields_nan s t e = rw (ne_eqb t 0 e)

-- ---- the lowest exponent

fields-low : (s : Bool) (t : ℕ) → class_of (of_fields binary64 s 0 t) ≡ class_of_ratio s (t * 2 ^ 0) (2 ^ 1074)
unfolding of_fields
fields-low s t = class_value (odd 53 s t 0 1074) s (t * 2 ^ 0) (2 ^ 1074) (pow_pos 1074) (odd_sign 53 s t 0 1074)

fields-zero : (s : Bool) (t : ℕ) → t ≡ 0 → class_of (of_fields binary64 s 0 t) ≡ whole s
fields-zero s t e = fields-low s t ∙ rw e (ratio_whole s 0 (2 ^ 1074) (zero-mod (2 ^ 1074)) (lit≤ tt))

fields_tiny : (s : Bool) (t : ℕ) → t < 2 ^ 52 → (t ≡ 0 → ⊥) → class_of (of_fields binary64 s 0 t) ≡ fraction
fields_tiny s t h e =
    let one : t * 2 ^ 0 ≡ t = mul-one t in
    fields-low s t
    ∙ rw one (ratio_fraction s t (2 ^ 1074) (λ z. e (sym (mod-eq_of_lt (lt_of_lt_of_le h (pow_mono {i = 52} {j = 1074} (omega arith)))) ∙ z)))

-- ---- the exponents between

fields_normal : (s : Bool) (x t : ℕ) → (suc x ≡ 2047 → ⊥) → class_of (of_fields binary64 s (suc x) t) ≡ class_of_ratio s ((2 ^ 52 + t) * 2 ^ suc x) (2 ^ 1075)
unfolding of_fields
fields_normal s x t n =
    rw (ne_eqb (suc x) 2047 n)
    (class_value (odd 53 s (2 ^ 52 + t) x 1074) s ((2 ^ 52 + t) * 2 ^ x) (2 ^ 1074) (pow_pos 1074) (odd_sign 53 s (2 ^ 52 + t) x 1074)
    ∙ ratio_shift s (2 ^ 52 + t) x 1074 (suc x) 1075 (omega arith))

-- ---- a pattern by its three parts

module _ (b : ℕ) where
  abbrev pub sign : Bool
  sign = leb (2 ^ 63) b

  abbrev pub exponent : ℕ
  exponent = b % 2 ^ 63 / 2 ^ 52

  abbrev pub digits : ℕ
  digits = b % 2 ^ 52

  by-fields : (x : ℕ) → exponent ≡ x → class_of (of_fields binary64 sign x digits) ≡ class_of (of_bits binary64 b)
  unfolding of_bits
  by-fields x e = rw e

  pub bits_infinite : exponent ≡ 2047 → digits ≡ 0 → infinite sign ≡ class_of (of_bits binary64 b)
  bits_infinite e d = sym (fields-infinite sign digits d) ∙ by-fields 2047 e

  pub bits_nan : exponent ≡ 2047 → (digits ≡ 0 → ⊥) → not_a_number ≡ class_of (of_bits binary64 b)
  bits_nan e d = sym (fields_nan sign digits d) ∙ by-fields 2047 e

  pub bits_zero : exponent ≡ 0 → digits ≡ 0 → whole sign ≡ class_of (of_bits binary64 b)
  bits_zero e d = sym (fields-zero sign digits d) ∙ by-fields 0 e

  pub bits_tiny : exponent ≡ 0 → (digits ≡ 0 → ⊥) → fraction ≡ class_of (of_bits binary64 b)
  bits_tiny e d = sym (fields_tiny sign digits (omega arith) d) ∙ by-fields 0 e

  at-exponent : (x : ℕ) → exponent ≡ x → (x ≡ 0 → ⊥) → (x ≡ 2047 → ⊥) → class_of_ratio sign ((2 ^ 52 + digits) * 2 ^ x) (2 ^ 1075) ≡ class_of (of_bits binary64 b)
  at-exponent zero e z t = absurd (z refl)
  at-exponent (suc x) e z t = sym (fields_normal sign x digits t) ∙ by-fields (suc x) e

  pub bits_normal : (exponent ≡ 0 → ⊥) → (exponent ≡ 2047 → ⊥) → class_of_ratio sign ((2 ^ 52 + digits) * 2 ^ exponent) (2 ^ 1075) ≡ class_of (of_bits binary64 b)
  bits_normal = at-exponent exponent refl
