-- Row, join and merge of shapes that name no closing sizes say of real shapes what the real run does: a row drops the first size, a
-- join keeps either side, a validation keeps what fits its spec.
use Rattle.std.specs.Prelude.{ℕ, Bool, true, false, cond, List, [], ◌∷◌, ◌≡◌, refl, length, eqb}
use Rattle.std.proofs.Common.{arith, ◌∙◌, eqb-true}
use Rattle.std.proofs.Math.Option.{none, some}
use Rattle.model.specs.Types.{Dim, static, unknown, Shape, shape}
use Rattle.rules.specs.Sizes.{join_dim}
use Rattle.rules.specs.Shapes.{is_open, row_shape, merge_dims, merge_closing, merge_from, join_dims, join_ends, join_closing, join_shapes}
use Rattle.rules.proofs.SizesLaws.{larger-either}
use Rattle.machine.specs.Real.{RealShape, fits, real_row, JoinSide, the_top, the_one_below, keeps}
use Rattle.machine.specs.Conditions.{Alike}
use Rattle.holding.specs.Fitting.{Fit}
use Rattle.holding.specs.Bare.{BareClosing, Bare, Rest, StartsWith, begins_of, of_begins}

-- ---- row

pub row_holds : (s : Shape) (r : RealShape) → Bare s → fits s r ≡ true → (fits (row_shape s) (real_row r) ≡ true) × Bare (row_shape s)
unfolding row_shape
row_holds (shape (d ∷ o) c) r u h = go r (begins_of (d ∷ o) c r h)
  where
    go : (r : RealShape) → StartsWith (is_open c) (d ∷ o) r → (fits (shape o c) (real_row r) ≡ true) × BareClosing c
    go [] b = absurd b
    go (n ∷ r) b = (of_begins o c r u b.1, u)
row_holds (shape [] none) r u h = go r (begins_of [] none r h)
  where
    go : (r : RealShape) → Rest false r → (fits (shape [] none) (real_row r) ≡ true) × Unit {0}
    go [] b = (of_begins [] none [] tt tt, tt)
    go (n ∷ r) b = absurd b
row_holds (shape [] (some [])) r u h = (of_begins [] (some []) (real_row r) tt tt, tt)
row_holds (shape [] (some (d ∷ c))) r u h = absurd u

-- ---- join

fit-join-first : (d e : Dim) (n : ℕ) → Fit d n → Fit (join_dim d e) n
unfolding join_dim
fit-join-first unknown e n h = tt
fit-join-first (static m) unknown n h = tt
fit-join-first (static m) (static k) n h = go (eqb m k)
  where
    go : (t : Bool) → Fit (cond t (static m) unknown) n
    go true = h
    go false = tt

fit-join-second : (d e : Dim) (n : ℕ) → Fit e n → Fit (join_dim d e) n
unfolding join_dim
fit-join-second unknown e n h = tt
fit-join-second (static m) unknown n h = tt
fit-join-second (static m) (static k) n h = go (eqb m k) refl
  where
    go : (t : Bool) → eqb m k ≡ t → Fit (cond t (static m) unknown) n
    go true e = eqb-true m k e ∙ h
    go false e = tt

-- two open shapes
open_first : (a : Bool) (o p : List Dim) (r : RealShape) → StartsWith a o r → StartsWith true (join_dims o p) r
unfolding join_dims
open_first a [] p r h = tt
open_first a (d ∷ o) [] r h = tt
open_first a (d ∷ o) (e ∷ p) [] h = absurd h
open_first a (d ∷ o) (e ∷ p) (n ∷ r) h = (fit-join-first d e n h.0, open_first a o p r h.1)

open_second : (a : Bool) (o p : List Dim) (r : RealShape) → StartsWith a p r → StartsWith true (join_dims o p) r
unfolding join_dims
open_second a [] p r h = tt
open_second a (d ∷ o) [] r h = tt
open_second a (d ∷ o) (e ∷ p) [] h = absurd h
open_second a (d ∷ o) (e ∷ p) (n ∷ r) h = (fit-join-second d e n h.0, open_second a o p r h.1)

-- two closed shapes of equal count
closed-first : (o p : List Dim) (r : RealShape) → length o ≡ length p → StartsWith false o r → StartsWith false (join_dims o p) r
unfolding join_dims
closed-first [] p r l h = h
closed-first (d ∷ o) [] r l h = absurd (omega arith)
closed-first (d ∷ o) (e ∷ p) [] l h = absurd h
closed-first (d ∷ o) (e ∷ p) (n ∷ r) l h = (fit-join-first d e n h.0, closed-first o p r (omega arith) h.1)

closed-second : (o p : List Dim) (r : RealShape) → length o ≡ length p → StartsWith false p r → StartsWith false (join_dims o p) r
unfolding join_dims
closed-second [] [] r l h = h
closed-second [] (e ∷ p) r l h = absurd (omega arith)
closed-second (d ∷ o) [] r l h = absurd (omega arith)
closed-second (d ∷ o) (e ∷ p) [] l h = absurd h
closed-second (d ∷ o) (e ∷ p) (n ∷ r) l h = (fit-join-second d e n h.0, closed-second o p r (omega arith) h.1)

pub join_holds : (side : JoinSide) (s t : Shape) (r q : RealShape) → Bare s → Bare t → Alike s t → fits s r ≡ true → fits t q ≡ true
    → (fits (join_shapes s t) (keeps side r q) ≡ true) × Bare (join_shapes s t)
unfolding join_shapes join_closing join_ends
join_holds the_top (shape o none) (shape p none) r q u v l h k = (of_begins (join_dims o p) none r tt (closed-first o p r l (begins_of o none r h)), tt)
join_holds the_one_below (shape o none) (shape p none) r q u v l h k = (of_begins (join_dims o p) none q tt (closed-second o p q l (begins_of p none q k)), tt)
join_holds side (shape o none) (shape p (some d)) r q u v l h k = absurd l
join_holds side (shape o (some c)) (shape p none) r q u v l h k = absurd l
join_holds the_top (shape o (some [])) (shape p (some [])) r q u v l h k = (of_begins (join_dims o p) (some []) r tt (open_first true o p r (begins_of o (some []) r h)), tt)
join_holds the_one_below (shape o (some [])) (shape p (some [])) r q u v l h k = (of_begins (join_dims o p) (some []) q tt (open_second true o p q (begins_of p (some []) q k)), tt)
join_holds side (shape o (some (x ∷ c))) (shape p (some d)) r q u v l h k = absurd u
join_holds side (shape o (some [])) (shape p (some (x ∷ d))) r q u v l h k = absurd v

-- ---- merge

begins_open : (a : Bool) (o : List Dim) (r : RealShape) → StartsWith a o r → StartsWith true o r
begins_open a [] r h = tt
begins_open a (d ∷ o) [] h = absurd h
begins_open a (d ∷ o) (n ∷ r) h = (h.0, begins_open a o r h.1)

-- a real shape that begins with both begins with what they are merged to; what may follow is the second's
begins_merge : (a b : Bool) (o p : List Dim) (r : RealShape) → StartsWith a o r → StartsWith b p r → StartsWith b (merge_dims o p) r
unfolding merge_dims
begins_merge a b [] p r h k = k
begins_merge a b (d ∷ o) [] [] h k = absurd h
begins_merge a true (d ∷ o) [] (n ∷ r) h k = (h.0, begins_open a o r h.1)
begins_merge a false (d ∷ o) [] (n ∷ r) h k = absurd k
begins_merge a b (d ∷ o) (e ∷ p) [] h k = absurd h
begins_merge a b (d ∷ o) (e ∷ p) (n ∷ r) h k = (larger-either (λ x. Fit x n) d e h.0 k.0, begins_merge a b o p r h.1 k.1)

pub merge_holds : (s t : Shape) (r : RealShape) → Bare s → Bare t → fits s r ≡ true → fits t r ≡ true → (fits (merge_from s t) r ≡ true) × Bare (merge_from s t)
unfolding merge_from merge_closing merge_dims
merge_holds (shape o none) (shape p d) r u v h k = (of_begins (merge_dims o p) d r v (begins_merge false (is_open d) o p r (begins_of o none r h) (begins_of p d r k)), v)
merge_holds (shape o (some [])) (shape p none) r u v h k = (of_begins (merge_dims o p) none r tt (begins_merge true false o p r (begins_of o (some []) r h) (begins_of p none r k)), tt)
merge_holds (shape o (some [])) (shape p (some d)) r u v h k = (of_begins (merge_dims o p) (some d) r v (begins_merge true true o p r (begins_of o (some []) r h) (begins_of p (some d) r k)), v)
merge_holds (shape o (some (x ∷ c))) (shape p d) r u v h k = absurd u
