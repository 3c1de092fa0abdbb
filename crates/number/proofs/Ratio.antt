-- The class of a number a / c: equal fractions have one class, and when each class is met. Then the number q * 2 ^ x / 2 ^ 1075,
-- for a q of 53 binary digits: which class it has by q and x alone. Assumes nothing.
use mathlib.Core.Path.{◌≡◌, refl, ap, sym, ◌∙◌, subst}
use mathlib.Core.Bool.{Bool}
use Prim.Native.Nat.{ℕ, zero, suc, ◌+◌, ◌-◌, ◌*◌, ◌/◌, ◌%◌, ◌^◌, ◌≤◌, ◌<◌}
use native.Mathlib.Nat.{mul_right_comm, add-mul, div-add-mod', mul-pos, mod-eq_of_lt, mod-one, div-one, div-le_self, mul_assoc, mul-le-mul, le_trans, lt_of_lt_of_le, mul-one, one-mul, zero-mul, lt_irrefl}
use native.Mathlib.Omega.{arith}
use borrow.Author.Tests.{eq-eqb, ne_eqb, le-leb, lt-leb}
use lib.Dec.{eqb}
use lib.Pow.{pow-add, pow_pos, pow_mono, shl_lt, shl_exact}
use lib.Ieee.Nearest.{div_same}
use Rattle.model.specs.Limits.{max_size}
use Rattle.number.specs.Class.{fraction, whole, larger, class_of_ratio}

-- ---- equal fractions

zero-of_product : (p q : ℕ) → 0 < q → p * q ≡ 0 → p ≡ 0
zero-of_product zero q h e = refl
zero-of_product (suc p) q h e = let k : 0 < suc p * q = mul-pos (omega arith) h in absurd (omega arith)

zero-tests : (p q : ℕ) → (p ≡ 0 → q ≡ 0) → (q ≡ 0 → p ≡ 0) → eqb p 0 ≡ eqb q 0
zero-tests zero q f g = sym (eq-eqb q 0 (f refl))
zero-tests (suc p) q f g = ne_eqb (suc p) 0 (λ e. omega arith) ∙ sym (ne_eqb q 0 (λ e. let z : suc p ≡ 0 = g e in omega arith))

module _ (a b c d : ℕ) (B : 0 < b) (D : 0 < d) (h : a * d ≡ c * b) where
  rest-same : a % b * d ≡ c % d * b
  rest-same =
      let e : a / b ≡ c / d = div_same a b c d B D h in
      let x : a / b * b * d + a % b * d ≡ a * d = sym (add-mul (a / b * b) (a % b) d) ∙ ap (λ (z : ℕ). z * d) (div-add-mod' a b) in
      let y : c / d * d * b + c % d * b ≡ c * b = sym (add-mul (c / d * d) (c % d) b) ∙ ap (λ (z : ℕ). z * b) (div-add-mod' c d) in
      let s : a / b * b * d ≡ c / d * d * b = mul_right_comm (a / b) b d ∙ ap (λ (w : ℕ). w * d * b) e in
      omega arith

  pub ratio_same : (s : Bool) → class_of_ratio s a b ≡ class_of_ratio s c d
  ratio_same s =
      let forth : a % b ≡ 0 → c % d ≡ 0 = λ e. zero-of_product (c % d) b B (sym rest-same ∙ ap (λ (k : ℕ). k * d) e ∙ zero-mul d) in
      let back : c % d ≡ 0 → a % b ≡ 0 = λ e. zero-of_product (a % b) d D (rest-same ∙ ap (λ (k : ℕ). k * b) e ∙ zero-mul b) in
      rw (zero-tests (a % b) (c % d) forth back, div_same a b c d B D h)

pub ratio_shift : (s : Bool) (q i j k l : ℕ) → i + l ≡ k + j → class_of_ratio s (q * 2 ^ i) (2 ^ j) ≡ class_of_ratio s (q * 2 ^ k) (2 ^ l)
ratio_shift s q i j k l e =
    let t : 2 ^ i * 2 ^ l ≡ 2 ^ k * 2 ^ j = sym (pow-add 2 i l) ∙ ap (λ (z : ℕ). 2 ^ z) e ∙ pow-add 2 k j in
    let h : q * 2 ^ i * 2 ^ l ≡ q * 2 ^ k * 2 ^ j = mul_assoc q (2 ^ i) (2 ^ l) ∙ ap (λ (z : ℕ). q * z) t ∙ sym (mul_assoc q (2 ^ k) (2 ^ j)) in
    ratio_same (q * 2 ^ i) (2 ^ j) (q * 2 ^ k) (2 ^ l) (pow_pos j) (pow_pos l) h s

-- ---- each class

pub ratio_whole : (s : Bool) (a c : ℕ) → a % c ≡ 0 → a / c ≤ max_size → class_of_ratio s a c ≡ whole s
ratio_whole s a c e h = rw (eq-eqb (a % c) 0 e, le-leb (a / c) max_size h)

pub ratio_larger : (s : Bool) (a c : ℕ) → a % c ≡ 0 → max_size < a / c → class_of_ratio s a c ≡ larger s
ratio_larger s a c e h = rw (eq-eqb (a % c) 0 e, lt-leb (a / c) max_size h)

pub ratio_fraction : (s : Bool) (a c : ℕ) → (a % c ≡ 0 → ⊥) → class_of_ratio s a c ≡ fraction
ratio_fraction s a c e = rw (ne_eqb (a % c) 0 e)

-- ---- q * 2 ^ x / 2 ^ 1075

-- below 1
pub normal_below : (s : Bool) (q x : ℕ) → 0 < q → q < 2 ^ 53 → x < 1023 → class_of_ratio s (q * 2 ^ x) (2 ^ 1075) ≡ fraction
normal_below s q x p h l =
    let small : q * 2 ^ x < 2 ^ 1075 = lt_of_lt_of_le (shl_lt 53 x h) (pow_mono {i = 53 + x} {j = 1075} (omega arith)) in
    let some : 0 < q * 2 ^ x = mul-pos p (pow_pos x) in
    ratio_fraction s (q * 2 ^ x) (2 ^ 1075) (λ z. lt_irrefl 0 (subst (λ (k : ℕ). 0 < k) (sym (mod-eq_of_lt small) ∙ z) some))

-- from 1 up to 2 ^ 53, that excluded
module _ (s : Bool) (q x : ℕ) (l : x ≤ 1075) where
  normal_units : class_of_ratio s (q * 2 ^ x) (2 ^ 1075) ≡ class_of_ratio s q (2 ^ (1075 - x))
  normal_units = ratio_shift s q x 1075 0 (1075 - x) (omega arith) ∙ rw mul-one

  pub normal_whole : q < 2 ^ 53 → q % 2 ^ (1075 - x) ≡ 0 → class_of_ratio s (q * 2 ^ x) (2 ^ 1075) ≡ whole s
  normal_whole h e = normal_units ∙ ratio_whole s q (2 ^ (1075 - x)) e (le_trans (div-le_self q (2 ^ (1075 - x))) (omega arith))

  pub normal_fraction : (q % 2 ^ (1075 - x) ≡ 0 → ⊥) → class_of_ratio s (q * 2 ^ x) (2 ^ 1075) ≡ fraction
  normal_fraction e = normal_units ∙ ratio_fraction s q (2 ^ (1075 - x)) e

-- above 2 ^ 53
past-limit : (q j : ℕ) → 2 ^ 52 ≤ q → 1 ≤ j → (j ≡ 1 → max_size < 2 * q) → max_size < q * 2 ^ j
past-limit q zero h a l = absurd (omega arith)
past-limit q (suc zero) h a l = let k : max_size < 2 * q = l refl in omega arith
past-limit q (suc (suc j)) h a l =
    let w : 2 ^ 2 ≤ 2 ^ suc (suc j) = pow_mono {i = 2} {j = suc (suc j)} (omega arith) in
    let v : (2 ^ 52) * 2 ^ 2 ≤ q * 2 ^ suc (suc j) = mul-le-mul h w in
    omega arith

pub normal_larger : (s : Bool) (q x : ℕ) → 2 ^ 52 ≤ q → 1075 < x → (x ≡ 1076 → max_size < 2 * q) → class_of_ratio s (q * 2 ^ x) (2 ^ 1075) ≡ larger s
normal_larger s q x h a l =
    let j = x - 1075 in
    ratio_shift s q x 1075 j 0 (omega arith)
    ∙ ratio_larger s (q * 2 ^ j) 1 (mod-one (q * 2 ^ j)) (rw div-one (past-limit q j h (omega arith) (λ e. l (omega arith))))

-- the power of two that the code shifts
pub shifted : (n : ℕ) → n ≤ 52 → (1 * 2 ^ n) % 2 ^ 64 ≡ 2 ^ n
shifted n h = shl_exact {a = 1} 1 n 64 (omega arith) (omega arith) ∙ one-mul (2 ^ n)
