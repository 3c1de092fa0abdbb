-- The constant, which is computed to be the table, entry by entry: what a number says that was looked up in it, by nothing but that the
-- whole table is right; and the table handed out.
use Prim.Native.Nat.{ℕ, ◌+◌, ◌*◌, ◌<◌, ◌≤◌}
use native.Mathlib.Omega.{arith}
use Rattle.std.specs.Prelude.{Option, Result, Ok, Err}
use Rattle.std.specs.Result.{result_ok}
use denote.Enum.Bare.{sameb}
use Rattle.limits.specs.contracts.codes.Kind.{the_type}
use Rattle.limits.specs.declared.codes.Kind.{Kind}
use Rattle.limits.specs.declared.codes.Kind.TheVariants as kinds
use Rattle.limits.specs.declared.refusal.Reason.{Reason}
use Rattle.limits.specs.Codes.{code_for, KindOf}
use Rattle.limits.specs.declared.refusal.Reason.TheVariants.{TooShort}
use Rattle.format.specs.Outcome.{accepted, deliver}
use Rattle.lent.specs.Written.{delivered}
use Rattle.lent.specs.Delivers.{deliver-short}
use mathlib.Core.Bool.{Bool, true, false, ◌&&◌, cond}
use mathlib.Core.List.{List, [], ◌∷◌, ◌++◌, append_assoc, append-nil}
use mathlib.Core.Path.{◌≡◌, refl, sym, ◌∙◌, ap, subst}
use lib.Dec.{eqb}
use lib.ListN.{get_or, length, length-append}
use borrow.Author.Tests.{ne_eqb}
use Rattle.model.specs.Types.{Scalar}
use Rattle.format.specs.Records.{code, box_code}
use Rattle.lent.specs.Over.{over, over-over}
use Rattle.rules.specs.Order.{code_of, kind_place}
use Rattle.rules.specs.Scalars.{superset_codes, compatible_codes, superset_of, compatible_scalars, union}
use Rattle.rules.proofs.ScalarsLaws.{superset_codes-refl}
use Rattle.rules.specs.KindTable.{kind_count, pair_count, number_count, contents_decide, is_box, union_number, squares, in_a_row, kind_table}
use Rattle.kind_table.specs.Rows.{RowsLaid}
use Rattle.kind_table.specs.Union.{united_number}
use Rattle.kind_table.proofs.KindLaws.{one_kind, no_box}
use Rattle.rules.specs.KindTableLaws.{number_at, WholeTable}
use Rattle.rules.proofs.KindTableLaws.{whole_table, coded-below, union_codes, union-by_codes, table_length, superset_entry, compatible_entry, yes-says}

module _ (t : List (List (List ℕ))) (c d : ℕ) (same : t ≡ squares) where
  abbrev whole : WholeTable t
  whole = whole_table t same

  pub superset-found : c < kind_count → d < kind_count → eqb (number_at (get_or t 0 []) c d) 1 ≡ superset_codes c d
  superset-found h g = ap (λ n. eqb n 1) (superset_entry whole c d h g) ∙ yes-says (superset_codes c d)

  pub compatible-found : c < kind_count → d < kind_count → eqb (number_at (get_or t 1 []) c d) 1 ≡ compatible_codes c d
  compatible-found h g = ap (λ n. eqb n 1) (compatible_entry whole c d h g) ∙ yes-says (compatible_codes c d)

  pub union-found : (k l : Scalar) → c ≡ code_of k → d ≡ code_of l → number_at (get_or t 2 []) c d ≡ union_number k l
  union-found k l h g = ap (λ n. number_at (get_or t 2 []) n d) h ∙ (ap (number_at (get_or t 2 []) (code_of k)) g ∙ whole.union-number k l)

-- ---- a kind beside itself, which needs no table

pub superset_itself : (k l : Kind) → true ≡ sameb the_type k l → true ≡ superset_codes (code_for k) (code_for l)
superset_itself k l e = sym (superset_codes-refl (code_for k)) ∙ ap (λ m. superset_codes (code_for k) (code_for m)) (one_kind k l e)

module _ (k l : Kind) (same : true ≡ sameb the_type k l) (x y : Scalar) (h : code_for k ≡ code_of x) (g : code_for l ≡ code_of y) where
  by_one : union_codes (code_for k) (code_for k) ≡ union_number x y
  by_one = ap (λ m. union_codes (code_for k) (code_for m)) (one_kind k l same) ∙ ap (union_codes (code_for k)) g ∙ ap (λ n. union_codes n (code_of y)) h ∙ union-by_codes x y

  pub union_itself : false ≡ sameb the_type k kinds.Box → code_for k ≡ union_number x y
  union_itself apart = let is : code_for k ≡ union_codes (code_for k) (code_for k) = rw (ne_eqb (code_for k) box_code (no_box k apart), superset_codes-refl (code_for k)) in is ∙ by_one

  pub boxes_themselves : true ≡ sameb the_type k kinds.Box → contents_decide ≡ union_number x y
  boxes_themselves box =
      let is : contents_decide ≡ union_codes (code_for k) (code_for k) = rw (ap code_for (one_kind k kinds.Box box)) in
      is ∙ by_one

-- ---- a union looked up in the table

-- A number beyond the kinds is the mark.
undecided : (x y : Scalar) → code_for kinds.Any < union_number x y → contents_decide ≡ union_number x y
undecided x y = go (is_box x && is_box y)
  where
    go : (b : Bool) → code_for kinds.Any < cond b contents_decide (code_of (union x y)) → contents_decide ≡ cond b contents_decide (code_of (union x y))
    go true h = refl
    go false h = absurd (omega (arith, coded-below (union x y) refl))

pub united : (r : Result Kind Reason) (o : Option Kind) (n : ℕ) (x y : Scalar) → KindOf n r → o ≡ result_ok r → n ≡ union_number x y → united_number o ≡ union_number x y
united (Ok k) o n x y says e is = rw e (says ∙ is)
united (Err d) o n x y says e is = rw e (undecided x y (subst (λ m. code_for kinds.Any < m) is says.1))

-- ---- the table handed out

-- in one row, square by square
in-turn : (s : List (List (List ℕ))) → s ≡ squares → in_a_row (in_a_row s) ≡ kind_table
unfolding kind_table
in-turn s same = ap (λ t. in_a_row (in_a_row t)) same

in_a_row-append : {A : Type 0} (s t : List (List A)) → in_a_row (s ++ t) ≡ in_a_row s ++ in_a_row t
in_a_row-append [] t = refl
in_a_row-append (x ∷ s) t = rw (in_a_row-append s t) (sym (append_assoc x (in_a_row s) (in_a_row t)))

-- One square behind the other.
module _ (a b c : List (List ℕ)) (same : a ∷ b ∷ c ∷ [] ≡ squares) where
  numbers : (i : ℕ) → length (in_a_row (get_or squares i [])) ≡ pair_count → length (in_a_row (get_or (a ∷ b ∷ c ∷ []) i [])) ≡ pair_count
  numbers i e = ap (λ s. length (in_a_row (get_or s i []))) same ∙ e

  all_three : in_a_row a ++ in_a_row b ++ in_a_row c ≡ kind_table
  all_three = sym (rw (in_a_row-append a (b ++ (c ++ [])), in_a_row-append b (c ++ []), append-nil c) (sym (append_assoc (in_a_row a) (in_a_row b) (in_a_row c)))) ∙ in-turn (a ∷ b ∷ c ∷ []) same

  module _ (result : List ℕ) (room : length kind_table ≤ length result) where
    pub table_laid : {one two three : List ℕ} → RowsLaid result 0 a one → RowsLaid one pair_count b two → RowsLaid two (2 * pair_count) c three → three ≡ over result 0 kind_table
    unfolding squares code code_of kind_place superset_codes compatible_codes superset_of compatible_scalars union
    table_laid e f g =
        let x = in_a_row a in
        let y = in_a_row b in
        let z = in_a_row c in
        let first : pair_count ≡ 0 + length x = omega (arith, numbers 0 refl) in
        let both : 2 * pair_count ≡ 0 + length (x ++ y) = omega (arith, numbers 0 refl, numbers 1 refl, length-append x y) in
        let inside : 0 + length (x ++ y) ≤ length result = omega (arith, both, table_length) in
        let two = f.laid ∙ ap (λ d. over d pair_count y) e.laid ∙ ap (λ n. over (over result 0 x) n y) first ∙ over-over result 0 x (omega (arith, inside, length-append x y)) y in
        g.laid ∙ ap (λ d. over d (2 * pair_count) z) two
        ∙ ap (λ n. over (over result 0 (x ++ y)) n z) both
        ∙ over-over result 0 (x ++ y) inside z
        ∙ ap (over result 0) all_three

-- no room for it
pub table_short : (result : List ℕ) → length result < number_count → delivered (Err (record { 0 = TooShort; 1 = 0 })) result ≡ deliver (accepted kind_table) result
table_short result h = sym (deliver-short result refl (omega (arith, table_length)))
