-- The rows of a square, laid into a buffer one after the other.
use Prim.Native.Nat.{ℕ, zero, suc, ◌+◌, ◌*◌, ◌≤◌, ◌<◌}
use native.Mathlib.Omega.{arith}
use native.Mathlib.Nat.{suc-mul}
use mathlib.Core.List.{List, [], ◌∷◌, ◌++◌, append_assoc, append-nil}
use mathlib.Core.Path.{◌≡◌, sym, ◌∙◌, ap}
use lib.ListN.{length, take, get_or, length-append}
use Rattle.model.specs.Within.{All}
use Rattle.lent.specs.Over.{over, over-over}
use Rattle.rules.specs.KindTable.{kind_count, pair_count, in_a_row}
use Rattle.rules.specs.KindTableLaws.{IsSquare}

module _ (n : ℕ) where
  rows-length : (s : List (List ℕ)) → All (λ row. length row ≡ n) s → (i : ℕ) → i ≤ length s → length (in_a_row (take i s)) ≡ i * n
  rows-length s h zero l = omega arith
  rows-length [] h (suc i) l = absurd (omega arith)
  rows-length (row ∷ s) h (suc i) l = rw (length-append, h.0, rows-length s h.1 i (omega arith), suc-mul) (omega arith)

rows_next : (s : List (List ℕ)) (i : ℕ) → i < length s → in_a_row (take (suc i) s) ≡ in_a_row (take i s) ++ get_or s i []
rows_next [] i l = absurd (omega arith)
rows_next (row ∷ s) zero l = append-nil row
rows_next (row ∷ s) (suc i) l = rw (rows_next s i (omega arith)) (sym (append_assoc row (in_a_row (take i s)) (get_or s i [])))

-- ---- the loop

module _ (out : List ℕ) (at : ℕ) (s : List (List ℕ)) (square : IsSquare s) (room : at + pair_count ≤ length out) where
  pub row_laid : (i : ℕ) {now after : List ℕ} → now ≡ over out at (in_a_row (take i s)) → i < kind_count → after ≡ over now (at + i * kind_count) (get_or s i []) → after ≡ over out at (in_a_row (take (i + 1) s))
  row_laid i laid h e =
      let rows = in_a_row (take i s) in
      let done : length rows ≡ i * kind_count = rows-length kind_count s square.numbers i (omega (arith, square.rows)) in
      let next : i + 1 ≡ suc i = omega arith in
      e ∙ ap (λ d. over d (at + i * kind_count) (get_or s i [])) laid
      ∙ ap (λ n. over (over out at rows) (at + n) (get_or s i [])) (sym done)
      ∙ over-over out at rows (omega (arith, done)) (get_or s i [])
      ∙ ap (over out at) (sym (rows_next s i (omega (arith, square.rows))) ∙ ap (λ n. in_a_row (take n s)) (sym next))
