-- The table's numbers from the rules, and its text line by line.
use Prim.Native.Nat.{ℕ, suc, ◌+◌, ◌*◌, ◌/◌, ◌%◌, ◌≤◌, ◌<◌}
use native.Mathlib.Omega.{arith}
use native.Mathlib.Numerals.{add-one}
use mathlib.Core.List.{List, [], ◌∷◌, ◌++◌, append_assoc, append-nil}
use mathlib.Core.Path.{◌≡◌, refl, sym, ◌∙◌, ap, subst}
use lib.ListN.{length, get_or, take, length-append}
use lib.Seq.{take-suc, take_all, paste-zero}
use Rattle.model.specs.Types.{Scalar}
use Rattle.lent.specs.Over.{length_over}
use Rattle.rules.specs.Order.{code_of}
use Rattle.rules.specs.Scalars.{superset_codes, compatible_codes}
use Rattle.rules.specs.KindTable.{kind_count, pair_count, number_count, yes_no, union_number, squares, kind_table}
use Rattle.rules.specs.KindTableLaws.{number_at, WholeTable}
use Rattle.rules.proofs.KindTableLaws.{whole_table, superset_entry, compatible_entry, union_entry, table_entry, table_length}
use Rattle.text.specs.Digits.{decimal_of}
use Rattle.report.specs.Laid.{Laid}
use Rattle.report.specs.Report.{line_feed}
use Rattle.report.proofs.TextLaws.{laid_then, length_decimal}
use Rattle.kinds.specs.Printed.{number_line, number_lines}
use Rattle.kinds.specs.Room.{line_room, table_room}

-- ---- the number at a place, by its square, row and column

module _ (i : ℕ) (h : i < length kind_table) where
  abbrev row : ℕ
  row = i % pair_count / kind_count

  abbrev column : ℕ
  column = i % kind_count

  abbrev whole : WholeTable squares
  whole = whole_table squares refl

  in_square : (b : ℕ) → i / pair_count ≡ b → get_or kind_table i 0 ≡ number_at (get_or squares b []) row column
  in_square b e = table_entry i (omega (arith, table_length)) ∙ ap (λ s. number_at (get_or squares s []) row column) e

  pub superset_at : i < pair_count → get_or kind_table i 0 ≡ yes_no (superset_codes (i % pair_count / kind_count) (i % kind_count))
  superset_at l = in_square 0 (omega arith) ∙ superset_entry whole row column (omega arith) (omega arith)

  pub compatible_at : pair_count ≤ i → i < 2 * pair_count → get_or kind_table i 0 ≡ yes_no (compatible_codes (i % pair_count / kind_count) (i % kind_count))
  compatible_at g l = in_square 1 (omega arith) ∙ compatible_entry whole row column (omega arith) (omega arith)

  pub union_at : 2 * pair_count ≤ i → {k l : ℕ} → k ≡ row → l ≡ column → {n : ℕ} → ((x y : Scalar) → k ≡ code_of x → l ≡ code_of y → n ≡ union_number x y) → n ≡ get_or kind_table i 0
  union_at g a b e = union_entry whole row column (omega arith) (omega arith) (λ x y f h. e x y (a ∙ f) (b ∙ h)) ∙ sym (in_square 2 (omega (arith, table_length)))

pub ruleset table_at = (superset_at, compatible_at)

-- ---- a line

line_length : (n : ℕ) → length (number_line n) ≤ line_room
line_length n = omega (arith, length-append (decimal_of n) line_feed, length_decimal 20 n)

-- ---- line after line

lines_append : (ms ns : List ℕ) → number_lines (ms ++ ns) ≡ number_lines ms ++ number_lines ns
unfolding number_lines
lines_append [] ns = refl
lines_append (m ∷ ms) ns = rw (lines_append ms ns) (sym (append_assoc (number_line m) (number_lines ms) (number_lines ns)))

lines_next : (ns : List ℕ) (i : ℕ) → i < length ns → number_lines (take (suc i) ns) ≡ number_lines (take i ns) ++ number_line (get_or ns i 0)
unfolding number_lines
lines_next ns i h = ap number_lines (take-suc ns i 0 h) ∙ lines_append (take i ns) (get_or ns i 0 ∷ []) ∙ ap (λ w. number_lines (take i ns) ++ w) (append-nil (number_line (get_or ns i 0)))

-- The first i numbers are put, and their lines end at `end`.
pub record Put (out₀ out : List ℕ) (i end : ℕ) : Type 0 where
  pub laid : Laid end 0 out₀ out (number_lines (take i kind_table))
  pub few : i ≤ number_count
  pub room : end ≤ i * line_room

unfoldable pub Lines : List ℕ → List ℕ → ℕ → ℕ → Type 0
Lines out₀ out i end = Put out₀ out i end

pub lines_none : (out : List ℕ) → Lines out out 0 0
unfolding number_lines Lines
lines_none out = record { laid = record { ends = refl; laid = paste-zero out 0 [] }; few = omega arith; room = omega arith }

module _ (out₀ out : List ℕ) (i end : ℕ) (put : Lines out₀ out i end) where
  module _ (room : table_room ≤ length out₀) where
    pub lines_length : length out ≡ length out₀
    unfolding Lines
    lines_length = ap length put.laid.laid ∙ length_over out₀ 0 (number_lines (take i kind_table)) (omega (arith, put.laid.ends, put.room, put.few))

    module _ (h : i < number_count) where
      pub lines_room : end + line_room ≤ length out
      unfolding Lines
      lines_room = omega (arith, lines_length, put.room)

      pub lines_more : (n e : ℕ) (out₁ : List ℕ) → n ≡ get_or kind_table i 0 → Laid e end out out₁ (number_line n) → Lines out₀ out₁ (i + 1) e
      unfolding Lines
      lines_more n e out₁ is line =
          let lines : number_lines (take i kind_table) ++ number_line n ≡ number_lines (take (i + 1) kind_table) =
          ap (λ m. number_lines (take i kind_table) ++ number_line m) is ∙ sym (lines_next kind_table i (omega (arith, table_length))) ∙ ap (λ k. number_lines (take k kind_table)) (sym (add-one i)) in
          record {
            laid = subst (Laid e 0 out₀ out₁) lines (laid_then 0 out₀ (number_lines (take i kind_table)) (omega (arith, put.laid.ends, put.room)) put.laid line);
            few = omega arith;
            room = omega (arith, line.ends, put.room, line_length n);
          }

    pub lines_inside : end ≤ length out
    unfolding Lines
    lines_inside = omega (arith, lines_length, put.room, put.few)

  pub lines_all : number_count ≤ i → Laid end 0 out₀ out (number_lines kind_table)
  unfolding Lines
  lines_all h = subst (λ ns. Laid end 0 out₀ out (number_lines ns)) (take_all i kind_table (omega (arith, table_length))) put.laid

pub ruleset lining = (table_length, lines_none, lines_length, lines_room, lines_more, lines_inside, lines_all)
