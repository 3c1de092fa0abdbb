-- What is written reads back: bytes in hexadecimal, and numbers in decimal.
use Rattle.std.specs.Prelude.{ℕ, zero, suc, ◌+◌, ◌*◌, ◌/◌, ◌%◌, ◌^◌, ◌≤◌, ◌<◌, Bool, true, false, cond, ◌&&◌, List, [], ◌∷◌, ◌++◌, ◌≡◌, refl, length, ltb}
use Rattle.std.proofs.Common.{arith, pow-suc, div-lt_iff_lt-mul, ◌∙◌, length-append}
use Rattle.std.proofs.Math.Option.{some}
use Rattle.std.proofs.Math.Path.{ap}
use borrow.Author.Tests.{le-leb, lt-leb, lt-ltb, le-ltb, ltb-true, ltb-false, eq-eqb}
use Rattle.io.specs.Digits.{hex_digit_ascii}
use Rattle.text.specs.Digits.{digit, are_digits, number_after, numeral, decimal, is_hex, unhex, hex_of, decimal_within, decimal_of}

digit_glyph : (d : ℕ) → d < 16 → digit (hex_digit_ascii d) ≡ d
unfolding digit
digit_glyph d h = go (ltb d 10) refl
  where
    go : (t : Bool) → ltb d 10 ≡ t → digit (cond t (48 + d) (87 + d)) ≡ d
    go true e =
        let l : d < 10 = ltb-true d 10 e in
        rw (le-leb 48 (48 + d) (omega arith), le-leb (48 + d) 57 (omega arith)) (omega arith)
    go false e =
        let l : 10 ≤ d = ltb-false d 10 e in
        rw (le-leb 48 (87 + d) (omega arith), lt-leb (87 + d) 57 (omega arith), le-leb 97 (87 + d) (omega arith), le-leb (87 + d) 102 (omega arith)) (omega arith)

-- ---- bytes

-- Every element is a byte, as the list goes.
abbrev pub EachByte : List ℕ → Type 0
EachByte [] = Unit {0}
EachByte (b ∷ s) = (b < 256) × EachByte s

are_digits-hex_of : (s : List ℕ) → EachByte s → are_digits 16 (hex_of s) ≡ true
unfolding are_digits hex_of
are_digits-hex_of [] h = refl
are_digits-hex_of (b ∷ s) h =
    let x : digit (hex_digit_ascii (b / 16)) ≡ b / 16 = digit_glyph (b / 16) (omega (arith, h.0)) in
    let y : digit (hex_digit_ascii (b % 16)) ≡ b % 16 = digit_glyph (b % 16) (omega arith) in
    rw (x, y, lt-ltb (b / 16) 16 (omega (arith, h.0)), lt-ltb (b % 16) 16 (omega arith)) (are_digits-hex_of s h.1)

pub length-hex_of : (s : List ℕ) → length (hex_of s) ≡ 2 * length s
unfolding hex_of
length-hex_of [] = refl
length-hex_of (b ∷ s) = omega (arith, length-hex_of s)

pub is_hex-hex_of : (s : List ℕ) → EachByte s → is_hex (hex_of s) ≡ true
is_hex-hex_of s h = rw (eq-eqb (length (hex_of s) % 2) 0 (omega (arith, length-hex_of s))) (are_digits-hex_of s h)

pub unhex-hex_of : (s : List ℕ) → EachByte s → unhex (hex_of s) ≡ s
unfolding unhex hex_of
unhex-hex_of [] h = refl
unhex-hex_of (b ∷ s) h =
    let x : digit (hex_digit_ascii (b / 16)) ≡ b / 16 = digit_glyph (b / 16) (omega (arith, h.0)) in
    let y : digit (hex_digit_ascii (b % 16)) ≡ b % 16 = digit_glyph (b % 16) (omega arith) in
    let z : 16 * (b / 16) + b % 16 ≡ b = omega arith in
    rw (x, y, z, unhex-hex_of s h.1)

-- ---- numbers

both : (x y z : Bool) → x && (y && z) ≡ (x && y) && z
both true y z = refl
both false y z = refl

are_digits_append : (base : ℕ) (s t : List ℕ) → are_digits base (s ++ t) ≡ are_digits base s && are_digits base t
unfolding are_digits
are_digits_append base [] t = refl
are_digits_append base (c ∷ s) t = rw (are_digits_append base s t) (both (ltb (digit c) base) (are_digits base s) (are_digits base t))

number_after_append : (base n : ℕ) (s t : List ℕ) → number_after base n (s ++ t) ≡ number_after base (number_after base n s) t
unfolding number_after
number_after_append base n [] t = refl
number_after_append base n (c ∷ s) t = number_after_append base (n * base + digit c) s t

-- One digit, after the number m.
module _ (m d : ℕ) (h : d < 10) where
  are_digits-one : are_digits 10 (hex_digit_ascii d ∷ []) ≡ true
  unfolding are_digits
  are_digits-one = rw (digit_glyph d (omega arith), lt-ltb d 10 h)

  number_after-one : number_after 10 m (hex_digit_ascii d ∷ []) ≡ m * 10 + d
  unfolding number_after
  number_after-one = ap (λ x. m * 10 + x) (digit_glyph d (omega arith))

-- All digits but the last, and the last.
module _ (k n : ℕ) where
  decimal-last : n < 10 → decimal_within (suc k) n ≡ hex_digit_ascii n ∷ []
  unfolding decimal_within
  decimal-last h = rw (lt-ltb n 10 h)

  decimal-more : 10 ≤ n → decimal_within (suc k) n ≡ decimal_within k (n / 10) ++ (hex_digit_ascii (n % 10) ∷ [])
  unfolding decimal_within
  decimal-more h = rw (le-ltb n 10 h)

by_size : (P : Type 0) (n : ℕ) → (n < 10 → P) → (10 ≤ n → P) → P
by_size P n f g = go (ltb n 10) refl
  where
    go : (t : Bool) → ltb n 10 ≡ t → P
    go true e = f (ltb-true n 10 e)
    go false e = g (ltb-false n 10 e)

are_digits-decimal : (k n : ℕ) → are_digits 10 (decimal_within k n) ≡ true
unfolding are_digits decimal_within
are_digits-decimal zero n = refl
are_digits-decimal (suc k) n =
    by_size
    (are_digits 10 (decimal_within (suc k) n) ≡ true)
    n
    (λ h. ap (are_digits 10) (decimal-last k n h) ∙ are_digits-one 0 n h)
    (λ h. ap (are_digits 10) (decimal-more k n h) ∙ are_digits_append 10 (decimal_within k (n / 10)) (hex_digit_ascii (n % 10) ∷ [])
    ∙ ap (λ x. x && are_digits 10 (hex_digit_ascii (n % 10) ∷ [])) (are_digits-decimal k (n / 10)) ∙ are_digits-one 0 (n % 10) (omega arith))

number_after-decimal : (k n : ℕ) → n < 10 ^ k → number_after 10 0 (decimal_within k n) ≡ n
unfolding number_after decimal_within
number_after-decimal zero n h = omega arith
number_after-decimal (suc k) n h =
    let b : n < 10 ^ k * 10 = rw pow-suc at h in
    let q : n / 10 < 10 ^ k = (div-lt_iff_lt-mul {k = 10} (omega arith)).1 b in
    by_size
    (number_after 10 0 (decimal_within (suc k) n) ≡ n)
    n
    (λ l. ap (number_after 10 0) (decimal-last k n l) ∙ number_after-one 0 n l ∙ omega arith)
    (λ l. ap (number_after 10 0) (decimal-more k n l) ∙ number_after_append 10 0 (decimal_within k (n / 10)) (hex_digit_ascii (n % 10) ∷ [])
    ∙ ap (λ m. number_after 10 m (hex_digit_ascii (n % 10) ∷ [])) (number_after-decimal k (n / 10) q) ∙ number_after-one (n / 10) (n % 10) (omega arith) ∙ omega arith)

some-digit : (k n : ℕ) → 1 ≤ length (decimal_within (suc k) n)
some-digit k n =
    by_size
    (1 ≤ length (decimal_within (suc k) n))
    n
    (λ h. omega (arith, ap length (decimal-last k n h)))
    (λ h. omega (arith, ap length (decimal-more k n h), length-append (decimal_within k (n / 10)) (hex_digit_ascii (n % 10) ∷ [])))

pub decimal-decimal_of : (n : ℕ) → n < 2 ^ 64 → decimal (decimal_of n) ≡ some n
unfolding numeral
decimal-decimal_of n h =
    let w : n < 10 ^ 20 = omega arith in
    rw (le-leb 1 (length (decimal_of n)) (some-digit 19 n), are_digits-decimal 20 n, number_after-decimal 20 n w, lt-ltb n (2 ^ 64) h)
