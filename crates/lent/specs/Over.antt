-- Bytes laid over a part of a buffer: all before them and all after them stays.
use Rattle.std.specs.Prelude.{ℕ, ◌+◌, ◌≤◌, List, ◌++◌, ◌≡◌, length, take, drop}
use Rattle.std.proofs.Common.{arith, zero-add, add_assoc, append_assoc, sym, ◌∙◌, ap, length-append, length-drop, length-take-le, take_at, drop-drop, drop_at}

abbrev pub over : List ℕ → ℕ → List ℕ → List ℕ
over d at w = take at d ++ w ++ drop (at + length w) d

module _ (d : List ℕ) (at : ℕ) (w : List ℕ) (inside : at + length w ≤ length d) where
  head-length : length (take at d ++ w) ≡ at + length w
  head-length = simp length-append (omega (arith, length-take-le at d (omega arith)))

  pub length_over : length (over d at w) ≡ length d
  length_over = length-append (take at d ++ w) (drop (at + length w) d) ∙ rw (head-length, length-drop) (omega arith)

  pub take-over : take (at + length w) (over d at w) ≡ take at d ++ w
  take-over = take_at (take at d ++ w) (drop (at + length w) d) (at + length w) head-length

  pub drop-over : (k : ℕ) → drop (at + length w + k) (over d at w) ≡ drop (at + length w + k) d
  drop-over k =
      sym (drop-drop k (at + length w) (over d at w))
      ∙ ap (drop k) (drop_at (take at d ++ w) (drop (at + length w) d) (at + length w) head-length)
      ∙ drop-drop k (at + length w) d

  -- One stretch after another is the two as one.
  pub over-over : (v : List ℕ) → over (over d at w) (at + length w) v ≡ over d at (w ++ v)
  over-over v =
      ap (λ x. x ++ v ++ drop (at + length w + length v) (over d at w)) take-over
      ∙ ap (λ x. take at d ++ w ++ v ++ x) (drop-over (length v))
      ∙ rw (length-append, add_assoc, append_assoc (take at d) w v)

-- At the front nothing stands before.
pub over-front : (d w : List ℕ) → over d 0 w ≡ w ++ drop (length w) d
over-front d w = rw zero-add
