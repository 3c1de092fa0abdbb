-- The measure of the outermost type by two numbers, as a walk keeps them: how many types stand elsewhere in it, as changed so far, and
-- how deep the place is. Each law says what the two numbers become where the rules go into a box or on to the next field.
use Rattle.std.specs.Prelude.{ℕ, suc, ◌+◌, ◌≤◌, max, Bool, true, false, ◌&&◌, List, ◌≡◌, refl, leb}
use Rattle.std.proofs.Common.{arith, leb-true, leb-false, le-leb}
use Rattle.std.proofs.Math.Option.{Option}
use Rattle.std.proofs.Math.Path.{fun_ext}
use Rattle.std.proofs.lemmas.Bool.{lt-leb}
use Rattle.model.specs.Limits.{max_types, max_depth}
use Rattle.model.specs.Types.{Shape, Scalar, box_all, box_def, Fields, field, inside, among, below, deepest}
use Rattle.validation.specs.AsFields.{keeps_limits}
use Rattle.validation.specs.Validate.{outermost}
use Rattle.validation.proofs.OutcomeLaws.{both_true}
use Rattle.validation.proofs.KeepsLaws.{Counts}
use Rattle.validation.specs.MeasureLaws.{limited, fields_limited}

-- ---- the two numbers

pub limited-counts : (o a : ℕ) → Counts (limited o a)
unfolding limited
limited-counts o a x y h j = rw (h, j)

pub limited-true : (o a : ℕ) (k : Scalar) → limited o a k ≡ true → (o + suc (inside k) ≤ max_types) × (a + suc (below k) ≤ max_depth)
unfolding limited
limited-true o a k h =
    let r = both_true (leb (o + suc (inside k)) max_types) (leb (a + suc (below k)) max_depth) h in
    (leb-true (o + suc (inside k)) max_types r.0, leb-true (a + suc (below k)) max_depth r.1)

pub limited-of : (o a : ℕ) (k : Scalar) → o + suc (inside k) ≤ max_types → a + suc (below k) ≤ max_depth → limited o a k ≡ true
unfolding limited
limited-of o a k h j = rw (le-leb (o + suc (inside k)) max_types h, le-leb (a + suc (below k)) max_depth j)

pub fields_limited-true : (o a : ℕ) (f : Fields) → fields_limited o a f ≡ true → (o + among f ≤ max_types) × (a + deepest f ≤ max_depth)
unfolding fields_limited
fields_limited-true o a f h =
    let r = both_true (leb (o + among f) max_types) (leb (a + deepest f) max_depth) h in
    (leb-true (o + among f) max_types r.0, leb-true (a + deepest f) max_depth r.1)

pub fields_limited-of : (o a : ℕ) (f : Fields) → o + among f ≤ max_types → a + deepest f ≤ max_depth → fields_limited o a f ≡ true
unfolding fields_limited
fields_limited-of o a f h j = rw (le-leb (o + among f) max_types h, le-leb (a + deepest f) max_depth j)

-- ---- going in and on

same_tests : (m n p q : ℕ) → m ≡ n → p ≡ q → (leb m max_types && leb p max_depth) ≡ (leb n max_types && leb q max_depth)
same_tests m n p q h j = rw (h, j)

-- the outermost type: nothing elsewhere, nothing above
pub outermost-limited : (t : Shape) → outermost t ≡ limited 0 0
unfolding keeps_limits limited
outermost-limited t = fun_ext λ x. same_tests (suc (inside x)) (0 + suc (inside x)) (suc (below x)) (0 + suc (below x)) (omega arith) (omega arith)

-- the content of an All box
pub all-limited : (o a : ℕ) (t : Shape) → (λ x. limited o a (box_all t x)) ≡ limited (suc o) (suc a)
unfolding limited inside below
all-limited o a t = fun_ext λ x. same_tests (o + suc (suc (inside x))) (suc o + suc (inside x)) (a + suc (suc (below x))) (suc a + suc (below x)) (omega arith) (omega arith)

-- the fields of a Def
pub def-limited : (o a : ℕ) (m : Option (List ℕ)) → (λ f. limited o a (box_def m f)) ≡ fields_limited (suc o) (suc a)
unfolding limited fields_limited inside below
def-limited o a m = fun_ext λ f. same_tests (o + suc (among f)) (suc o + among f) (a + suc (deepest f)) (suc a + deepest f) (omega arith) (omega arith)

leb-max : (a p q n : ℕ) → a + q ≤ n → leb (a + max p q) n ≡ leb (a + p) n
leb-max a p q n h = go (leb (a + p) n) refl
  where
    go : (t : Bool) → leb (a + p) n ≡ t → leb (a + max p q) n ≡ t
    go true e = let l = leb-true (a + p) n e in le-leb (a + max p q) n (omega arith)
    go false e = let l = leb-false (a + p) n e in lt-leb (a + max p q) n (omega arith)

-- the first of some fields: those after it count as they still are
pub field-limited : (o a : ℕ) (t : Shape) (g : Fields) → a + deepest g ≤ max_depth → (λ x. fields_limited o a (field t x g)) ≡ limited (o + among g) a
unfolding limited fields_limited among deepest
field-limited o a t g h = fun_ext λ x.
    let e : o + (suc (inside x) + among g) ≡ (o + among g) + suc (inside x) = omega arith in
    rw (e, leb-max a (suc (below x)) (deepest g) max_depth h)

-- the fields after it: it counts as it has become
pub rest-limited : (o a : ℕ) (t : Shape) (x : Scalar) → a + suc (below x) ≤ max_depth → (λ f. fields_limited o a (field t x f)) ≡ fields_limited (o + suc (inside x)) a
unfolding fields_limited among deepest
rest-limited o a t x h = fun_ext λ f.
    let e : o + (suc (inside x) + among f) ≡ (o + suc (inside x)) + among f = omega arith in
    let d : max (suc (below x)) (deepest f) ≡ max (deepest f) (suc (below x)) = omega arith in
    rw (e, d, leb-max a (deepest f) (suc (below x)) max_depth h)
