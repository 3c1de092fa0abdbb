-- The whole table of kinds is right: at the codes of any two scalars, whatever boxes hold, stands what the rules say of these two. Of a
-- constant it is shown together, by one test that is computed at all its entries; what is looked up there goes by this statement alone.
use Rattle.std.specs.Prelude.{ℕ, zero, suc, ◌/◌, ◌%◌, ◌<◌, Bool, true, false, ◌&&◌, not, cond, List, [], ◌≡◌, refl, eqb, get_or, length}
use Rattle.std.proofs.Common.{arith, sym, ◌∙◌, subst, eqb-true, eq-eqb}
use Rattle.std.proofs.Math.Bool.{and-eq-true_iff}
use Rattle.std.proofs.Math.Path.{ap}
use Rattle.std.proofs.lemmas.Bool.{eqb-false, not-true}
use Rattle.model.specs.Types.{Kind, bool, nat, int, num, complex, ascii, char, stream, any, Scalar, plain, box_any, box_all, box_def, Ty, ty, box_of}
use Rattle.format.specs.Records.{code, box_code}
use Rattle.rules.specs.Shapes.{scalar_shape, compatible_shapes}
use Rattle.rules.specs.Order.{code_of, kind_place}
use Rattle.rules.specs.Scalars.{superset_codes, compatible_codes, superset_of, compatible_scalars, compatible_with_boxes, wider, later_ty, union}
use Rattle.rules.specs.KindTable.{all_kinds, kind_count, pair_count, number_count, yes_no, superset_number, compatible_number, contents_decide, is_box, union_number, square, squares, kind_table}
use Rattle.rules.specs.Views.{form_of}
use Rattle.rules.proofs.ViewsLaws.{is_plain}
use Rattle.rules.proofs.OrderLaws.{code_same}
use Rattle.rules.proofs.ScalarsLaws.{superset_codes-refl, union_idem}
use Rattle.rules.specs.KindTableLaws.{number_at, IsSquare, WholeTable}

-- ---- the statement

-- ---- codes

code_below : (k : Scalar) → code_of k < kind_count
unfolding code_of code
code_below (plain bool) = omega arith
code_below (plain nat) = omega arith
code_below (plain int) = omega arith
code_below (plain num) = omega arith
code_below (plain complex) = omega arith
code_below (plain ascii) = omega arith
code_below (plain char) = omega arith
code_below (plain stream) = omega arith
code_below (plain any) = omega arith
code_below box_any = omega arith
code_below (box_all s k) = omega arith
code_below (box_def n f) = omega arith

-- A scalar's kind has a row and a column.
pub coded-below : (k : Scalar) {c : ℕ} → c ≡ code_of k → c < kind_count
coded-below k e = subst (λ n. n < kind_count) (sym e) (code_below k)

-- ---- tests at every number below another

abbrev every_below : ℕ → (ℕ → Bool) → Bool
every_below zero f = true
every_below (suc n) f = f 0 && every_below n (λ c. f (suc c))

passes : (n : ℕ) (f : ℕ → Bool) → every_below n f ≡ true → (c : ℕ) → c < n → f c ≡ true
passes zero f e c h = absurd (omega arith)
passes (suc n) f e zero h = ((and-eq-true_iff (f 0) (every_below n (λ c. f (suc c)))).0 e).0
passes (suc n) f e (suc c) h = passes n (λ c. f (suc c)) ((and-eq-true_iff (f 0) (every_below n (λ c. f (suc c)))).0 e).1 c (omega arith)

-- at every two codes
abbrev every_pair : (ℕ → ℕ → Bool) → Bool
every_pair f = every_below kind_count (λ c. every_below kind_count (f c))

pair-passes : (f : ℕ → ℕ → Bool) → every_pair f ≡ true → (c d : ℕ) → c < kind_count → d < kind_count → f c d ≡ true
pair-passes f e c d h g = passes kind_count (f c) (passes kind_count (λ c. every_below kind_count (f c)) e c h) d g

-- ---- the union's number goes by the two codes

abbrev pub union_codes : ℕ → ℕ → ℕ
union_codes c d = cond (eqb c box_code && eqb d box_code) contents_decide (cond (superset_codes c d) c (cond (superset_codes d c) d (code any)))

wider-code : (k l : Scalar) → code_of (wider k l) ≡ cond (superset_codes (code_of k) (code_of l)) (code_of k) (cond (superset_codes (code_of l) (code_of k)) (code_of l) (code any))
unfolding superset_of code_of
wider-code k l = go (superset_codes (code_of k) (code_of l)) (superset_codes (code_of l) (code_of k))
  where
    go : (t u : Bool) → code_of (cond t k (cond u l (plain any))) ≡ cond t (code_of k) (cond u (code_of l) (code any))
    go true u = refl
    go false true = refl
    go false false = refl

wider-box : (k l : Scalar) → code_of k ≡ box_code → code_of l ≡ box_code → code_of (wider k l) ≡ box_code
wider-box k l e f = wider-code k l ∙ rw (e, f, superset_codes-refl box_code)

by-wider : (k l u : Scalar) → u ≡ wider k l → union_codes (code_of k) (code_of l) ≡ cond (is_box k && is_box l) contents_decide (code_of u)
by-wider k l u e = ap (cond (is_box k && is_box l) contents_decide) (sym (ap code_of e ∙ wider-code k l))

pub union-by_codes : (k l : Scalar) → union_codes (code_of k) (code_of l) ≡ union_number k l
unfolding union code_of
union-by_codes (plain k) l = by-wider (plain k) l (union (plain k) l) refl
union-by_codes box_any l = by-wider box_any l (union box_any l) refl
union-by_codes (box_def n f) l = by-wider (box_def n f) l (union (box_def n f) l) refl
union-by_codes (box_all s k) (plain l) = by-wider (box_all s k) (plain l) (union (box_all s k) (plain l)) refl
union-by_codes (box_all s k) box_any = refl
union-by_codes (box_all s k) (box_def n f) = refl
union-by_codes (box_all s k) (box_all t l) = refl

-- ---- the test: the three numbers of two codes

abbrev superset_right : ℕ → ℕ → Bool
superset_right c d = eqb (number_at (get_or squares 0 []) c d) (yes_no (superset_codes c d))

abbrev compatible_right : ℕ → ℕ → Bool
compatible_right c d = eqb (number_at (get_or squares 1 []) c d) (yes_no (compatible_codes c d))

abbrev union_right : ℕ → ℕ → Bool
union_right c d = eqb (number_at (get_or squares 2 []) c d) (union_codes c d)

abbrev all_right : ℕ → ℕ → Bool
all_right c d = superset_right c d && (compatible_right c d && union_right c d)

all_pairs_right : every_pair all_right ≡ true
unfolding squares code code_of kind_place superset_codes compatible_codes superset_of compatible_scalars union
all_pairs_right = refl

pub table_length : length kind_table ≡ number_count
unfolding kind_table squares code code_of kind_place superset_codes compatible_codes superset_of compatible_scalars union
table_length = refl

module _ (k l : Scalar) where
  abbrev c : ℕ
  c = code_of k

  abbrev d : ℕ
  d = code_of l

  tested : (superset_right c d ≡ true) × ((compatible_right c d && union_right c d) ≡ true)
  tested = (and-eq-true_iff (superset_right c d) (compatible_right c d && union_right c d)).0 (pair-passes all_right all_pairs_right c d (code_below k) (code_below l))

  tested-twice : (compatible_right c d ≡ true) × (union_right c d ≡ true)
  tested-twice = (and-eq-true_iff (compatible_right c d) (union_right c d)).0 tested.1

square-is : (number : Scalar → Scalar → ℕ) → IsSquare (square number)
square-is number = record { rows = refl; numbers = (refl, (refl, (refl, (refl, (refl, (refl, (refl, (refl, (refl, (refl, tt)))))))))) }

squares-right : WholeTable squares
unfolding squares superset_of compatible_scalars
squares-right = record {
  three = refl;
  each-square = (square-is superset_number, (square-is compatible_number, (square-is union_number, tt)));
  superset-number = λ k l. eqb-true _ _ (tested k l).0;
  compatible-number = λ k l. eqb-true _ _ (tested-twice k l).0;
  union-number = λ k l. eqb-true _ _ (tested-twice k l).1 ∙ union-by_codes k l;
}

-- Of whatever table is the one defined, entry by entry.
pub whole_table : (t : List (List (List ℕ))) → t ≡ squares → WholeTable t
whole_table t same = subst WholeTable (sym same) squares-right

-- ---- at two codes

-- A scalar of each code.
abbrev scalar_coded : ℕ → Scalar
scalar_coded c = get_or all_kinds c box_any

coded : every_below kind_count (λ c. eqb (code_of (scalar_coded c)) c) ≡ true
unfolding code code_of
coded = refl

coded-is : (c : ℕ) → c < kind_count → code_of (scalar_coded c) ≡ c
coded-is c h = eqb-true _ _ (passes kind_count (λ c. eqb (code_of (scalar_coded c)) c) coded c h)

module _ {t : List (List (List ℕ))} (whole : WholeTable t) (c d : ℕ) (h : c < kind_count) (g : d < kind_count) where
  at_codes : (s : List (List ℕ)) → number_at s c d ≡ number_at s (code_of (scalar_coded c)) (code_of (scalar_coded d))
  at_codes s = sym (ap (λ n. number_at s n (code_of (scalar_coded d))) (coded-is c h) ∙ ap (number_at s c) (coded-is d g))

  pub superset_entry : number_at (get_or t 0 []) c d ≡ yes_no (superset_codes c d)
  unfolding superset_of
  superset_entry = at_codes (get_or t 0 []) ∙ whole.superset-number (scalar_coded c) (scalar_coded d) ∙ ap (λ n. yes_no (superset_codes n (code_of (scalar_coded d)))) (coded-is c h) ∙ ap (λ n. yes_no (superset_codes c n)) (coded-is d g)

  pub compatible_entry : number_at (get_or t 1 []) c d ≡ yes_no (compatible_codes c d)
  unfolding compatible_scalars
  compatible_entry =
      at_codes (get_or t 1 []) ∙ whole.compatible-number (scalar_coded c) (scalar_coded d) ∙ ap (λ n. yes_no (compatible_codes n (code_of (scalar_coded d)))) (coded-is c h) ∙ ap (λ n. yes_no (compatible_codes c n)) (coded-is d g)

  pub union_entry : {n : ℕ} → ((k l : Scalar) → c ≡ code_of k → d ≡ code_of l → n ≡ union_number k l) → n ≡ number_at (get_or t 2 []) c d
  union_entry e = e (scalar_coded c) (scalar_coded d) (sym (coded-is c h)) (sym (coded-is d g)) ∙ sym (at_codes (get_or t 2 []) ∙ whole.union-number (scalar_coded c) (scalar_coded d))

-- ---- at a place of the table

abbrev stands_at : ℕ → Bool
stands_at i = eqb (get_or kind_table i 0) (number_at (get_or squares (i / pair_count) []) (i % pair_count / kind_count) (i % kind_count))

all_stand : every_below number_count stands_at ≡ true
unfolding kind_table squares code code_of kind_place superset_codes compatible_codes superset_of compatible_scalars union
all_stand = refl

pub table_entry : (i : ℕ) → i < number_count → get_or kind_table i 0 ≡ number_at (get_or squares (i / pair_count) []) (i % pair_count / kind_count) (i % kind_count)
table_entry i h = eqb-true _ _ (passes number_count stands_at all_stand i h)

-- The mark stands once, at the union of Box with Box.
abbrev marked_at : ℕ → Bool
marked_at i = eqb (yes_no (eqb (get_or kind_table i 0) contents_decide)) (yes_no (eqb i 288))

all-marked : every_below number_count marked_at ≡ true
unfolding kind_table squares code code_of kind_place superset_codes compatible_codes superset_of compatible_scalars union
all-marked = refl

-- ---- what a number says

-- 1 says yes and 0 says no.
pub yes-says : (b : Bool) → eqb (yes_no b) 1 ≡ b
yes-says true = refl
yes-says false = refl

yes-same : (a b : Bool) → yes_no a ≡ yes_no b → a ≡ b
yes-same a b e = sym (yes-says a) ∙ (ap (λ n. eqb n 1) {x = yes_no a} {y = yes_no b} e ∙ yes-says b)

pub mark_once : (i : ℕ) → i < number_count → (get_or kind_table i 0 ≡ contents_decide → i ≡ 288) × (i ≡ 288 → get_or kind_table i 0 ≡ contents_decide)
mark_once i h =
    let same = yes-same (eqb (get_or kind_table i 0) contents_decide) (eqb i 288) (eqb-true _ _ (passes number_count marked_at all-marked i h)) in
    (λ e. eqb-true _ _ (sym same ∙ eq-eqb _ _ e), λ e. eqb-true _ _ (same ∙ eq-eqb _ _ e))

-- Where it is not the mark, a union's number says which kind the union is. The mark says that both are boxes.
pub record KindIs (u : Scalar) (n : ℕ) : Type 0 where
  pub kind : Kind
  pub is : u ≡ plain kind
  pub coded : n ≡ code kind

kind-is : (u : Scalar) (n : ℕ) → n ≡ code_of u → (n ≡ box_code → ⊥) → KindIs u n
unfolding code_of
kind-is u n e h = is_plain u (λ b. h (e ∙ b)) λ k is. record { kind = k; is = is; coded = e ∙ ap code_of is }

-- no union is said to be a box
abbrev no_box : ℕ → ℕ → Bool
no_box c d = not (eqb (union_codes c d) box_code)

no-boxes : every_pair no_box ≡ true
unfolding code kind_place superset_codes
no-boxes = refl

module _ (k l : Scalar) where
  no-box : union_number k l ≡ box_code → ⊥
  no-box =
      let entry = pair-passes no_box no-boxes (code_of k) (code_of l) (code_below k) (code_below l) in
      eqb-false (union_number k l) box_code (ap (λ n. eqb n box_code) (sym (union-by_codes k l)) ∙ not-true _ entry)

  abbrev said : Bool → ℕ
  said b = cond b contents_decide (code_of (union k l))

  pub kind_united : (union_number k l ≡ contents_decide → ⊥) → KindIs (union k l) (union_number k l)
  kind_united h = go (is_box k && is_box l) refl
    where
      go : (t : Bool) → is_box k && is_box l ≡ t → KindIs (union k l) (union_number k l)
      go true e = absurd (h (ap said e))
      go false e = kind-is (union k l) (union_number k l) (ap said e) no-box

  pub boxes_united : union_number k l ≡ contents_decide → (code_of k ≡ box_code) × (code_of l ≡ box_code)
  boxes_united h = go (is_box k && is_box l) refl
    where
      go : (t : Bool) → is_box k && is_box l ≡ t → (code_of k ≡ box_code) × (code_of l ≡ box_code)
      go true e = let both = (and-eq-true_iff (is_box k) (is_box l)).0 e in (eqb-true (code_of k) box_code both.0, eqb-true (code_of l) box_code both.1)
      go false e = let u = sym (ap said e) ∙ h in absurd (omega (arith, code_below (union k l), u))

-- Number and union then say the same, both ways, and the kinds alone decide.
module _ (k l : Scalar) (apart : union_number k l ≡ contents_decide → ⊥) where
  pub number-said : (m : Kind) → union k l ≡ plain m → union_number k l ≡ code m
  unfolding code_of
  number-said m e = let x = kind_united k l apart in x.coded ∙ ap code_of (sym x.is ∙ e)

  pub union-said : (m : Kind) → union_number k l ≡ code m → union k l ≡ plain m
  union-said m e = let x = kind_united k l apart in x.is ∙ ap plain (code_same x.kind m (sym x.coded ∙ e))

  pub kinds_decide : (k' l' : Scalar) → code_of k ≡ code_of k' → code_of l ≡ code_of l' → union k l ≡ union k' l'
  kinds_decide k' l' e f =
      let same : union_number k l ≡ union_number k' l' = sym (union-by_codes k l) ∙ rw (e, f) (union-by_codes k' l') in
      let x = kind_united k' l' (λ h. apart (same ∙ h)) in
      union-said x.kind (same ∙ x.coded) ∙ sym x.is

-- Under the mark the union is a box every time.
box_of-code : (t : Ty) → code_of (box_of t) ≡ box_code
unfolding code_of
box_of-code (ty s k) = refl

pub boxes-box : (k l : Scalar) → code_of k ≡ box_code → code_of l ≡ box_code → code_of (union k l) ≡ box_code
unfolding union code_of
boxes-box (plain k) l e f = wider-box (plain k) l e f
boxes-box box_any l e f = wider-box box_any l e f
boxes-box (box_def n g) l e f = wider-box (box_def n g) l e f
boxes-box (box_all s k) (plain l) e f = wider-box (box_all s k) (plain l) e f
boxes-box (box_all s k) box_any e f = wider-box (box_all s k) box_any e f
boxes-box (box_all s k) (box_def n g) e f = wider-box (box_all s k) (box_def n g) e f
boxes-box (box_all s k) (box_all t l) e f = either (compatible_with_boxes k l && compatible_shapes s t)
  where
    either : (c : Bool) → code_of (cond c (box_of (later_ty (ty s k) (ty t l))) box_any) ≡ box_code
    either true = box_of-code (later_ty (ty s k) (ty t l))
    either false = refl

-- Under the mark the contents do decide: two boxes of other contents have another union.
pub record Otherwise (k l : Scalar) : Type 0 where
  pub first : Scalar
  pub second : Scalar
  pub first_kind : code_of first ≡ code_of k
  pub second-kind : code_of second ≡ code_of l
  pub other : union first second ≡ union k l → ⊥

pub contents-decide : (k l : Scalar) → union_number k l ≡ contents_decide → Otherwise k l
unfolding code_of form_of
contents-decide k l h = go (eqb (form_of (union k l)) 0) refl
  where
    -- two of one box, whose form the union has not
    twice : (b : Scalar) → code_of b ≡ box_code → (form_of b ≡ form_of (union k l) → ⊥) → Otherwise k l
    twice b e f =
        record {
          first = b;
          second = b;
          first_kind = e ∙ sym (boxes_united k l h).0;
          second-kind = e ∙ sym (boxes_united k l h).1;
          other = λ u. f (ap form_of (sym (union_idem b) ∙ u));
        }

    go : (t : Bool) → eqb (form_of (union k l)) 0 ≡ t → Otherwise k l
    go true e = let is = eqb-true (form_of (union k l)) 0 e in twice (box_all scalar_shape (plain num)) refl (λ f. omega (arith, is, f))
    go false e = twice box_any refl (λ f. eqb-false (form_of (union k l)) 0 e (sym f))
