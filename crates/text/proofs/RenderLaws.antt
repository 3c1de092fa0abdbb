-- Laws of texts that are written: what stands at each place, and that twenty decimal digits suffice.
use Prim.Native.Nat.{ℕ, zero, suc, ◌+◌, ◌*◌, ◌/◌, ◌%◌, ◌^◌, ◌≤◌, ◌<◌}
use native.Mathlib.Omega.{arith}
use native.Mathlib.Nat.{le-div_iff_mul-le, div-lt_iff_lt-mul, mod-eq_of_lt, pow-suc, one-le-pow, pow-le-pow_right}
use native.Mathlib.Numerals.{unary_clauses}
use mathlib.Core.Bool.{Bool, true, false}
use mathlib.Core.List.{List, [], ◌∷◌, ◌++◌}
use mathlib.Core.Path.{◌≡◌, refl, sym, ◌∙◌, ap}
use lib.ListN.{length, length-set, get_or, set}
use lib.Seq.{paste, paste-suc}
use lib.Dec.{ltb}
use borrow.Author.Tests.{lt-ltb, le-ltb, ltb-true, ltb-false}
use Rattle.io.specs.Digits.{hex_digit_ascii, last_digits, IsDigitCount}
use Rattle.text.specs.Digits.{hex_of, decimal_within, decimal_of}
use Rattle.text.specs.RoundTrips.{length-hex_of}

-- how long what is written and what is written to are
pub ruleset lengths = (length-hex_of, length-set)

pub get_d_hex_of-high : (s : List ℕ) (i : ℕ) → i < length s → get_or (hex_of s) (2 * i) 0 ≡ hex_digit_ascii (get_or s i 0 / 16)
unfolding hex_of
get_d_hex_of-high [] i h = omega arith
get_d_hex_of-high (b ∷ s) zero h = refl
get_d_hex_of-high (b ∷ s) (suc i) h =
    let x : 2 * suc i ≡ suc (suc (2 * i)) = omega arith in
    rw x (get_d_hex_of-high s i (omega arith))

pub get_d_hex_of-low : (s : List ℕ) (i : ℕ) → i < length s → get_or (hex_of s) (2 * i + 1) 0 ≡ hex_digit_ascii (get_or s i 0 % 16)
unfolding hex_of
get_d_hex_of-low [] i h = omega arith
get_d_hex_of-low (b ∷ s) zero h = refl
get_d_hex_of-low (b ∷ s) (suc i) h =
    let x : 2 * suc i + 1 ≡ suc (suc (2 * i + 1)) = omega arith in
    rw x (get_d_hex_of-low s i (omega arith))

-- Both digits of a byte, after those of the bytes before it.
pub hex_more : (out s now : List ℕ) (at i x y : ℕ) → at + 2 * length s ≤ length out → i < length s
    → x ≡ hex_digit_ascii (get_or s i 0 / 16) → y ≡ hex_digit_ascii (get_or s i 0 % 16) → now ≡ paste out at (hex_of s) (2 * i)
    → set (set now (at + 2 * i) x) (at + 2 * i + 1) y ≡ paste out at (hex_of s) (2 * (i + 1))
hex_more out s now at i x y fits h ex ey e =
    let l : length (hex_of s) ≡ 2 * length s = length-hex_of s in
    let p : at + 2 * i + 1 ≡ at + suc (2 * i) = omega arith in
    let q : 2 * i + 1 ≡ suc (2 * i) = omega arith in
    let r : suc (suc (2 * i)) ≡ 2 * (i + 1) = omega arith in
    let low : y ≡ get_or (hex_of s) (suc (2 * i)) 0 = ey ∙ sym (get_d_hex_of-low s i h) ∙ ap (λ k. get_or (hex_of s) k 0) q in
    let first : set now (at + 2 * i) x ≡ paste out at (hex_of s) (suc (2 * i)) =
    ap (λ d. set d (at + 2 * i) x) e
    ∙ ap (set (paste out at (hex_of s) (2 * i)) (at + 2 * i)) (ex ∙ sym (get_d_hex_of-high s i h))
    ∙ paste-suc out at (hex_of s) (2 * i) 0 (omega arith) (omega arith) in
    ap (λ d. set d (at + 2 * i + 1) y) first
    ∙ ap (λ k. set (paste out at (hex_of s) (suc (2 * i))) k y) p
    ∙ ap (set (paste out at (hex_of s) (suc (2 * i))) (at + suc (2 * i))) low
    ∙ paste-suc out at (hex_of s) (suc (2 * i)) 0 (omega arith) (omega arith)
    ∙ ap (paste out at (hex_of s)) r

-- A number that takes one digit more than j, spelled digit by digit.
pub digits-within : (most j n : ℕ) → j < most → n < 10 ^ suc j → (0 < j → 10 ^ j ≤ n) → last_digits 10 (suc j) n ≡ decimal_within most n
unfolding decimal_within
digits-within zero j n room below above = let z : ⊥ = omega arith in elim z [ ]
digits-within (suc most) zero n room below above = rw (mod-eq_of_lt below, lt-ltb n 10 below)
digits-within (suc most) (suc j) n room below above =
    let b : n < 10 ^ suc j * 10 = rw pow-suc at below in
    let a : 10 ^ j * 10 ≤ n = rw pow-suc at above (omega arith) in
    let q : n / 10 < 10 ^ suc j = (div-lt_iff_lt-mul {k = 10} (omega arith)).1 b in
    let l : 10 ^ j ≤ n / 10 = (le-div_iff_mul-le {k = 10} (omega arith)).1 a in
    let p : 0 < 10 ^ j = one-le-pow j 10 (omega arith) in
    rw (le-ltb n 10 (omega arith)) (ap (λ w. w ++ (hex_digit_ascii (n % 10) ∷ [])) (digits-within most j (n / 10) (omega arith) q (λ _. l)))

-- Twenty are enough for 64 bits.
few-places : (n j : ℕ) → n < 2 ^ 64 → (0 < j → 10 ^ j ≤ n) → j < 20
few-places n j h above = go (ltb j 20) refl
  where
    go : (t : Bool) → ltb j 20 ≡ t → j < 20
    go true e = ltb-true j 20 e
    go false e =
        let l : 20 ≤ j = ltb-false j 20 e in
        let p : 10 ^ 20 ≤ 10 ^ j = pow-le-pow_right {n = 10} (omega arith) {i = 20} {j = j} l in
        let a : 10 ^ j ≤ n = above (omega arith) in
        omega arith

pub fewest_digits : (n k : ℕ) → n < 2 ^ 64 → IsDigitCount 10 1 n k → last_digits 10 k n ≡ decimal_of n
fewest_digits n zero h few = let z : ⊥ = omega (arith, few.0) in elim z [ ]
fewest_digits n (suc j) h few =
    let above : (0 < j → 10 ^ j ≤ n) = λ p. simp unary_clauses at (few.2 (omega arith)) in
    digits-within 20 j n (few-places n j h above) few.1 above
