-- Texts laid into a buffer: one after the other, and how long the parts are.
use Prim.Native.Nat.{ℕ, zero, suc, ◌+◌, ◌/◌, ◌%◌, ◌≤◌}
use native.Mathlib.Omega.{arith}
use mathlib.Core.Bool.{Bool, true, false, cond}
use mathlib.Core.List.{List, [], ◌∷◌, ◌++◌, append_assoc}
use mathlib.Core.Path.{◌≡◌, ◌∙◌, ap, subst}
use lib.ListN.{length, length-append}
use lib.Dec.{ltb}
use borrow.Author.Tests.{le-leb}
use Rattle.io.specs.Digits.{hex_digit_ascii}
use Rattle.lent.specs.Over.{over, over-over}
use Rattle.text.specs.Digits.{hex_of, decimal_within, decimal_of}
use Rattle.text.specs.Place.{placed, place}
use Rattle.text.specs.RoundTrips.{length-hex_of}
use Rattle.report.specs.Laid.{Laid}
use Rattle.report.specs.Report.{space, headed, type_line}
use Rattle.report.specs.Room.{head_room, line_room}

-- ---- laid

module _ (at : ℕ) (d v : List ℕ) (fits : at + length v ≤ length d) where
  -- One text after another is the two as one.
  pub laid_then : {m r : ℕ} {d₁ d₂ w : List ℕ} → Laid m at d d₁ v → Laid r m d₁ d₂ w → Laid r at d d₂ (v ++ w)
  laid_then {m} {r} {d₁} {d₂} {w} h k =
      record {
        ends = k.ends ∙ rw (h.ends, length-append) (omega arith);
        laid = k.laid ∙ ap (λ x. over x m w) h.laid ∙ ap (λ n. over (over d at v) n w) h.ends ∙ over-over d at v fits w;
      }

  pub has_room : place d at v ≡ placed (at + length v) (over d at v)
  unfolding place
  has_room = rw (le-leb (at + length v) (length d) fits)

-- ---- numbers

pub length_decimal : (k n : ℕ) → length (decimal_within k n) ≤ k
unfolding decimal_within
length_decimal zero n = omega arith
length_decimal (suc k) n = go (ltb n 10) (length_decimal k (n / 10))
  where
    go : (t : Bool) → length (decimal_within k (n / 10)) ≤ k → length (cond t (hex_digit_ascii n ∷ []) (decimal_within k (n / 10) ++ (hex_digit_ascii (n % 10) ∷ []))) ≤ suc k
    go true h = omega arith
    go false h = omega (arith, length-append (decimal_within k (n / 10)) (hex_digit_ascii (n % 10) ∷ []))

-- that a number has room, or a type's bytes
pub ruleset number_laid = (has_room, length_decimal)

pub ruleset hex_laid = (has_room, length-hex_of)

-- ---- four parts

module _ (at : ℕ) (d u v w x : List ℕ) (fits : at + length (u ++ (v ++ (w ++ x))) ≤ length d) where
  lengths : length (u ++ (v ++ (w ++ x))) ≡ length u + length v + length w + length x
  lengths = simp length-append (omega arith)

  pub laid_four : {a b c e : ℕ} {d₁ d₂ d₃ d₄ : List ℕ} → Laid a at d d₁ u → Laid b a d₁ d₂ v → Laid c b d₂ d₃ w → Laid e c d₃ d₄ x → Laid e at d d₄ (u ++ (v ++ (w ++ x)))
  laid_four {a} {b} {c} {e} {d₁} {d₂} {d₃} {d₄} h i j k =
      let two = laid_then at d u (omega (arith, lengths)) h i in
      let three = laid_then at d (u ++ v) (omega (arith, lengths, length-append u v)) two j in
      let four = laid_then at d ((u ++ v) ++ w) (omega (arith, lengths, length-append u v, length-append (u ++ v) w)) three k in
      subst (Laid e at d d₄) (append_assoc (u ++ v) w x ∙ append_assoc u v (w ++ x)) four

-- ---- the first line

module _ (word : List ℕ) (m n : ℕ) (three : length word ≡ 3) where
  pub length_headed : length (headed word m n) ≤ head_room
  unfolding headed
  length_headed = simp length-append (omega (arith, length_decimal 20 m, length_decimal 20 n))

  module _ (at : ℕ) (d : List ℕ) (fits : at + head_room ≤ length d) where
    pub head_laid : {a b c e : ℕ} {d₁ d₂ d₃ d₄ : List ℕ} → Laid a at d d₁ word → Laid b a d₁ d₂ (decimal_of m) → Laid c b d₂ d₃ space → Laid e c d₃ d₄ (decimal_of n) → Laid e at d d₄ (headed word m n)
    unfolding headed
    head_laid = laid_four at d word (decimal_of m) space (decimal_of n) (omega (arith, length_headed))

-- ---- a type's line

module _ (between : List ℕ) (i : ℕ) (w : List ℕ) where
  pub length_type_line : length (type_line between i w) ≤ line_room (length between) (length w)
  unfolding type_line
  length_type_line = simp length-append (omega (arith, length_decimal 20 i, length-hex_of w))

  module _ (at : ℕ) (d : List ℕ) (fits : at + line_room (length between) (length w) ≤ length d) where
    pub line_laid : {a b c e : ℕ} {d₁ d₂ d₃ d₄ : List ℕ} → Laid a at d d₁ between → Laid b a d₁ d₂ (decimal_of i) → Laid c b d₂ d₃ space → Laid e c d₃ d₄ (hex_of w) → Laid e at d d₄ (type_line between i w)
    unfolding type_line
    line_laid = laid_four at d between (decimal_of i) space (hex_of w) (omega (arith, length_type_line))
