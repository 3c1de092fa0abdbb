-- A printed table of kinds (document 02, 2026-02): what two scalar kinds are to each other by three rules, superset, compatible
-- (`compatible_with`) and union, in this order. Each has a block of the table, a square: in it a row for each first kind and in that a number for
-- each second kind, both by their codes. 0 and 1 are no and yes, a union is its kind's code, and 255 marks where the boxes' contents decide.
use Rattle.std.specs.Prelude.{ℕ, ◌*◌, Bool, ◌&&◌, cond, List, [], ◌∷◌, ◌++◌, map, eqb}
use Rattle.model.specs.Types.{bool, nat, int, num, complex, ascii, char, stream, any, Scalar, plain, box_any}
use Rattle.format.specs.Records.{box_code}
use Rattle.rules.specs.Order.{code_of}
use Rattle.rules.specs.Scalars.{superset_of, compatible_scalars, union}

-- ---- the kinds

-- Each as a scalar, by its code. That any other box could stand for Box is `whole_table` (KindTableLaws).
abbrev pub all_kinds : List Scalar
all_kinds = plain bool ∷ plain nat ∷ plain int ∷ plain num ∷ plain complex ∷ plain ascii ∷ plain char ∷ plain stream ∷ box_any ∷ plain any ∷ []

-- How many they are, how many pairs of them there are, and how many numbers for three rules.
abbrev pub kind_count : ℕ
kind_count = 10

abbrev pub pair_count : ℕ
pair_count = kind_count * kind_count

abbrev pub number_count : ℕ
number_count = 3 * pair_count

-- ---- the number of two scalars, by each rule

abbrev pub yes_no : Bool → ℕ
yes_no b = cond b 1 0

abbrev pub superset_number : Scalar → Scalar → ℕ
superset_number k l = yes_no (superset_of k l)

abbrev pub compatible_number : Scalar → Scalar → ℕ
compatible_number k l = yes_no (compatible_scalars k l)

-- The mark, which is no kind's code: the contents of two boxes decide which box their union is.
abbrev pub contents_decide : ℕ
contents_decide = 255

abbrev pub is_box : Scalar → Bool
is_box k = eqb (code_of k) box_code

abbrev pub union_number : Scalar → Scalar → ℕ
union_number k l = cond (is_box k && is_box l) contents_decide (code_of (union k l))

-- ---- the table

abbrev pub square : (Scalar → Scalar → ℕ) → List (List ℕ)
square number = map (λ k. map (number k) all_kinds) all_kinds

unfoldable pub squares : List (List (List ℕ))
squares = square superset_number ∷ square compatible_number ∷ square union_number ∷ []

abbrev pub in_a_row : {A : Type 0} → List (List A) → List A
in_a_row [] = []
in_a_row (x ∷ xs) = x ++ in_a_row xs

-- Its numbers, one after the other.
unfoldable pub kind_table : List ℕ
kind_table = in_a_row (in_a_row squares)
