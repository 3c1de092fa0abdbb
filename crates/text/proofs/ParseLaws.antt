-- Laws of texts that are read: digits one by one, the number that they make, and the bytes that they stand for.
use Prim.Native.Nat.{ℕ, zero, suc, ◌+◌, ◌*◌, ◌/◌, ◌^◌, ◌≤◌, ◌<◌}
use native.Mathlib.Omega.{arith}
use native.Mathlib.Nat.{mul-le-mul_left}
use native.Mathlib.Numerals.{add-one}
use mathlib.Core.Bool.{Bool, true, false, ◌&&◌}
use mathlib.Core.List.{List, [], ◌∷◌}
use mathlib.Core.Option.{none, some}
use mathlib.Core.Path.{◌≡◌, refl, sym, ◌∙◌, ap}
use lib.ListN.{length, length-set, get_or, set, drop, drop_of_length-le}
use lib.Seq.{drop-cons, paste, paste-suc}
use lib.Dec.{ltb}
use borrow.Author.Tests.{lt-ltb, le-ltb, ltb-true}
use Rattle.std.specs.Prelude as code
use Rattle.std.specs.Prelude.{IfSome, Some, None, is_some}
use Rattle.std.specs.List.{list_all}
use Rattle.text.specs.Answers.{worth_of}
use Rattle.text.specs.Digits.{digit, are_digits, number_after, numeral, unhex}

both_left : (a b : Bool) → a && b ≡ true → a ≡ true
both_left true b e = refl
both_left false b e = e

both_right : (a b : Bool) → a && b ≡ true → b ≡ true
both_right true b e = e
both_right false b e = cc

not-both : (a b : Bool) → b ≡ false → a && b ≡ false
not-both true b e = e
not-both false b e = refl

-- ---- digits

-- what tells a digit from another character, by its worth
pub is_digit : (r : code.Option ℕ) (c : ℕ) → worth_of r ≡ digit c → IfSome r (λ d. d < 16) → is_some r ≡ ltb (digit c) 16
is_digit None c e h = rw (← e)
is_digit (Some d) c e h = rw (← e) (sym (lt-ltb d 16 h))

pub all-digits : (base : ℕ) (s : List ℕ) → list_all (λ c. ltb (digit c) base) s ≡ are_digits base s
unfolding are_digits
all-digits base [] = refl
all-digits base (c ∷ s) = ap (λ t. ltb (digit c) base && t) (all-digits base s)

module _ (base : ℕ) (s : List ℕ) (i : ℕ) (h : i < length s) where
  ahead : drop i s ≡ get_or s i 0 ∷ drop (i + 1) s
  ahead = drop-cons s i 0 h ∙ rw add-one

  digits-stop : base ≤ digit (get_or s i 0) → are_digits base (drop i s) ≡ false
  unfolding are_digits
  digits-stop l = rw (ahead, le-ltb (digit (get_or s i 0)) base l)

  pub digits_more : digit (get_or s i 0) < base → are_digits base (drop i s) ≡ are_digits base (drop (i + 1) s)
  unfolding are_digits
  digits_more l = rw (ahead, lt-ltb (digit (get_or s i 0)) base l)

  pub number_more : (n : ℕ) → number_after base n (drop i s) ≡ number_after base (n * base + digit (get_or s i 0)) (drop (i + 1) s)
  unfolding number_after
  number_more n = rw ahead

pub digit_below : (base : ℕ) (s : List ℕ) (i : ℕ) → are_digits base s ≡ true → i < length s → digit (get_or s i 0) < base
unfolding are_digits
digit_below base [] i e h = omega arith
digit_below base (c ∷ s) zero e h = ltb-true (digit c) base (both_left (ltb (digit c) base) (are_digits base s) e)
digit_below base (c ∷ s) (suc i) e h = digit_below base s i (both_right (ltb (digit c) base) (are_digits base s) e) (omega arith)

-- ---- the number that they make

number-grows : (base n : ℕ) (s : List ℕ) → 0 < base → n ≤ number_after base n s
unfolding number_after
number-grows base n [] p = omega arith
number-grows base n (c ∷ s) p = omega (arith, mul-le-mul_left n p, number-grows base (n * base + digit c) s p)

-- What is known of the number before the digit at i, where those before it gave n.
module _ (base : ℕ) (s : List ℕ) (i n : ℕ) where
  pub digit_stops : are_digits base s ≡ are_digits base (drop i s) → i < length s → base ≤ digit (get_or s i 0) → numeral base s ≡ none
  unfolding numeral
  digit_stops d h l = rw (d ∙ digits-stop base s i h l)

  pub number_stops : 0 < base → number_after base 0 s ≡ number_after base n (drop i s) → i < length s → 2 ^ 64 ≤ n * base + digit (get_or s i 0) → numeral base s ≡ none
  unfolding numeral
  number_stops p e h l =
      let next = n * base + digit (get_or s i 0) in
      let same : number_after base 0 s ≡ number_after base next (drop (i + 1) s) = e ∙ number_more base s i h n in
      let grows : next ≤ number_after base next (drop (i + 1) s) = number-grows base next (drop (i + 1) s) p in
      rw (not-both (are_digits base s) (ltb (number_after base 0 s) (2 ^ 64)) (le-ltb (number_after base 0 s) (2 ^ 64) (omega arith)))

  pub number_ends : are_digits base s ≡ are_digits base (drop i s) → number_after base 0 s ≡ number_after base n (drop i s) → length s ≤ i → n < 2 ^ 64 → numeral base s ≡ some n
  unfolding numeral are_digits number_after
  number_ends d e l h =
      let all : drop i s ≡ [] = drop_of_length-le s l in
      rw (d ∙ ap (are_digits base) all, e ∙ ap (number_after base n) all, lt-ltb n (2 ^ 64) h)

-- ---- the bytes that they stand for

pub length-unhex : (s : List ℕ) → length (unhex s) ≡ length s / 2
unfolding unhex
length-unhex [] = refl
length-unhex (h ∷ []) = refl
length-unhex (h ∷ l ∷ s) = omega (arith, length-unhex s)

-- how long what is decoded and what is written to are
pub ruleset decoded_lengths = (length-unhex, length-set)

pub get_d_unhex : (s : List ℕ) (i : ℕ) → i < length s / 2 → get_or (unhex s) i 0 ≡ 16 * digit (get_or s (2 * i) 0) + digit (get_or s (2 * i + 1) 0)
unfolding unhex
get_d_unhex [] i b = omega arith
get_d_unhex (h ∷ []) i b = omega arith
get_d_unhex (h ∷ l ∷ s) zero b = refl
get_d_unhex (h ∷ l ∷ s) (suc i) b =
    let x : 2 * suc i ≡ suc (suc (2 * i)) = omega arith in
    let y : 2 * suc i + 1 ≡ suc (suc (2 * i + 1)) = omega arith in
    rw (y, x) (get_d_unhex s i (omega arith))

-- One byte more, after those before it.
pub decoded_more : (out s now : List ℕ) (at i x y : ℕ) → at + length s / 2 ≤ length out → i < length s / 2
    → x ≡ digit (get_or s (2 * i) 0) → y ≡ digit (get_or s (2 * i + 1) 0) → now ≡ paste out at (unhex s) i
    → set now (at + i) (16 * x + y) ≡ paste out at (unhex s) (i + 1)
decoded_more out s now at i x y fits h ex ey e =
    let l : length (unhex s) ≡ length s / 2 = length-unhex s in
    ap (λ d. set d (at + i) (16 * x + y)) e
    ∙ ap (set (paste out at (unhex s) i) (at + i)) (rw (ex, ey) (sym (get_d_unhex s i h)))
    ∙ paste-suc out at (unhex s) i 0 (omega arith) (omega arith)
    ∙ rw add-one
