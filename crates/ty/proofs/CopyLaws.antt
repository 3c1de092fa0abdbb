-- Copies of a type's bytes: how long they are, and how they are laid down one after the other.
use Prim.Native.Nat.{ℕ, zero, suc, ◌+◌, ◌*◌, ◌≤◌, ◌<◌}
use native.Mathlib.Omega.{arith}
use native.Mathlib.Numerals.{add-one}
use native.Mathlib.Nat.{suc-mul, mul-le-mul}
use mathlib.Core.List.{List, [], ◌∷◌, ◌++◌, append_assoc, append-nil}
use mathlib.Core.Path.{◌≡◌, sym, ◌∙◌, ap}
use lib.ListN.{length, set, length-set, length-append}
use lib.Seq.{sets-eq, paste-zero}
use Rattle.format.specs.Records.{absent}
use Rattle.lent.specs.Over.{over, over-over}
use Rattle.ty.specs.Copies.{repeated, copy_bytes}

module _ (w : List ℕ) where
  pub repeated_length : (n : ℕ) → length (repeated n w) ≡ n * length w
  unfolding repeated
  repeated_length zero = omega arith
  repeated_length (suc n) = length-append w (repeated n w) ∙ rw (repeated_length n, suc-mul) (omega arith)

  repeated_last : (n : ℕ) → repeated (suc n) w ≡ repeated n w ++ w
  unfolding repeated
  repeated_last zero = append-nil w
  repeated_last (suc n) = ap (λ x. w ++ x) (repeated_last n) ∙ sym (append_assoc w (repeated n w) w)

-- ---- one after the other

module _ (out : List ℕ) (start : ℕ) (w : List ℕ) where
  pub copies_none : over out start (repeated 0 w) ≡ out
  unfolding repeated
  copies_none = sym (paste-zero out start [])

  pub copies_more : (i n : ℕ) → i < n → start + length (repeated n w) ≤ length out → over out start (repeated (i + 1) w) ≡ over (over out start (repeated i w)) (start + i * length w) w
  copies_more i n less fits =
      let room : suc i * length w ≤ n * length w = mul-le-mul less (omega arith) in
      let long : length (repeated i w) ≡ i * length w = repeated_length w i in
      let next : length (repeated (suc i) w) ≡ suc i * length w = repeated_length w (suc i) in
      let whole : length (repeated i w ++ w) ≡ length (repeated i w) + length w = length-append (repeated i w) w in
      let more : repeated (i + 1) w ≡ repeated i w ++ w = rw add-one (repeated_last w i) in
      ap (over out start) more ∙ sym (ap (λ n. over (over out start (repeated i w)) (start + n) w) (sym long) ∙ over-over out start (repeated i w) (omega (arith, repeated_length w n, suc-mul i (length w))) w)

-- ---- the list of copies: no name, the count, and the copies

module _ (n : ℕ) (w : List ℕ) where
  pub list_length : length (copy_bytes n w) ≡ 2 + n * length w
  unfolding copy_bytes
  list_length = omega (arith, repeated_length w n)

  pub list_laid : (out : List ℕ) → 2 + n * length w ≤ length out → over (set (set out 0 absent) 1 n) 2 (repeated n w) ≡ over out 0 (copy_bytes n w)
  unfolding copy_bytes
  list_laid out fits =
      ap (λ x. over x 2 (repeated n w)) (sets-eq (absent ∷ n ∷ []) out 0 (omega arith))
      ∙ over-over out 0 (absent ∷ n ∷ []) (omega arith) (repeated n w)

pub ruleset listed = (repeated_length, length-set, list_length, list_laid)
