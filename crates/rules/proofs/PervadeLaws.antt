-- Laws about pervading: what its answer says of the two lists, that it keeps to the limits, and that the two sides may change
-- places together with their fills.
use Rattle.std.specs.Prelude.{ℕ, suc, ◌<◌, max, min, Bool, true, false, cond, ◌↔◌, refl, length, eqb, ltb}
use native.Mathlib.Omega.{arith}
use mathlib.Core.List.{List, [], ◌∷◌}
use Rattle.std.proofs.Math.Option.{Option, none, some}
use Rattle.std.proofs.Math.Path.{◌≡◌}
use Rattle.std.proofs.Common.{sym, ◌∙◌, ap, eqb-true, ltb-true}
use Rattle.model.specs.Types.{Dim, static, unknown, Shape, shape}
use Rattle.model.specs.Within.{All, Each, DimWithin, DimsWithin, ShapeWithin}
use Rattle.rules.specs.Sizes.{Order, less, same, more, cmp_dim, is_one}
use Rattle.rules.proofs.SizesLaws.{flip, cmp_dim-flip, cmp_dim-same}
use Rattle.rules.specs.Pervade.{against_absent, filled, by_order, neither_one, together, IndexRule, pervade_at, Pervaded, sizes, clash, then_rest, walk, pervade_dims, pervade_closing, closed_by, pervade}

-- ---- one index

-- ? yields
pub together-unknown : (f g : Bool) (e : Dim) → together f g unknown e ≡ some (against_absent e)
unfolding together against_absent
together-unknown f g e = go (is_one e)
  where
    go : (t : Bool) → cond t (some unknown) (some e) ≡ some (cond t unknown e)
    go true = refl
    go false = refl

-- two statics: 1 yields, equals stay; else the larger, if the smaller's side is filled
pub together-statics : (f g : Bool) (m n : ℕ)
    → together f g (static m) (static n)
    ≡ cond (eqb m 1) (some (static n)) (cond (eqb n 1) (some (static m)) (cond (eqb m n) (some (static m)) (cond (ltb m n) (filled f (static n)) (filled g (static m)))))
unfolding together cmp_dim
together-statics f g m n = rw (go (ltb m n) (eqb m n) refl refl)
  where
    go : (t u : Bool) → ltb m n ≡ t → eqb m n ≡ u
        → by_order f g (cond t less (cond u same more)) (static m) (static n) ≡ cond u (some (static m)) (cond t (filled f (static n)) (filled g (static m)))
    go true true h k = let x = ltb-true m n h in let y = eqb-true m n k in absurd (omega arith)
    go true false h k = refl
    go false true h k = refl
    go false false h k = refl

-- unfilled, they stay only where they are equal
pub together-unfilled : (m n : ℕ) → together false false (static m) (static n) ≡ cond (eqb m 1) (some (static n)) (cond (eqb n 1) (some (static m)) (cond (eqb m n) (some (static m)) none))
together-unfilled m n = together-statics false false m n ∙ rw (go (ltb m n))
  where
    go : (t : Bool) → cond t (filled false (static n)) (filled false (static m)) ≡ none
    go true = refl
    go false = refl

-- ---- what the answer says of the two lists

pub then_rest-sizes : {C : Type 0} (c : Option Dim) (r : Pervaded) {z : List Dim} → then_rest c r ≡ sizes z → ((d : Dim) (y : List Dim) → c ≡ some d → r ≡ sizes y → d ∷ y ≡ z → C) → C
then_rest-sizes none r e k = let z : ◌≡◌ {A = ℕ} 0 1 = cc in absurd (omega arith)
then_rest-sizes (some d) (sizes y) e k = k d y refl refl (cc)
then_rest-sizes (some d) (clash i) e k = let z : ◌≡◌ {A = ℕ} 0 1 = cc in absurd (omega arith)

pub then_rest-clash : {C : Type 0} (c : Option Dim) (r : Pervaded) {i : ℕ} → then_rest c r ≡ clash i → (c ≡ none → 0 ≡ i → C) → ((j : ℕ) → r ≡ clash j → suc j ≡ i → C) → C
then_rest-clash none r e k l = k refl (cc)
then_rest-clash (some d) (sizes y) e k l = let z : ◌≡◌ {A = ℕ} 0 1 = cc in absurd (omega arith)
then_rest-clash (some d) (clash j) e k l = l j refl (cc)

then_rest-alike : (c c' : Option Dim) → (c ≡ none) ↔ (c' ≡ none) → (r r' : Pervaded) → ((j : ℕ) → r ≡ clash j → r' ≡ clash j)
    → (i : ℕ) → then_rest c r ≡ clash i → then_rest c' r' ≡ clash i
then_rest-alike none c' h r r' k i e = rw (h.0 refl) e
then_rest-alike (some d) none h r r' k i e = let z : ◌≡◌ {A = Option Dim} (some d) none = h.1 refl in cc
then_rest-alike (some d) (some d') h (sizes y) r' k i e = let z : ◌≡◌ {A = ℕ} 0 1 = cc in absurd (omega arith)
then_rest-alike (some d) (some d') h (clash j) r' k i e = rw (k j refl) e

module _ (rule : IndexRule) where
  pub walk-length : (o p x : List Dim) → walk rule o p ≡ sizes x → length x ≡ max (length o) (length p)
  unfolding walk
  walk-length [] [] x h = let e : [] ≡ x = cc in rw (← e) (omega arith)
  walk-length [] (e ∷ p) x h =
      then_rest-sizes (rule none (some e)) (walk rule [] p) h λ d y a b w.
      let l = walk-length [] p y b in rw (← w) (omega arith)
  walk-length (d ∷ o) [] x h =
      then_rest-sizes (rule (some d) none) (walk rule o []) h λ d y a b w.
      let l = walk-length o [] y b in rw (← w) (omega arith)
  walk-length (d ∷ o) (e ∷ p) x h =
      then_rest-sizes (rule (some d) (some e)) (walk rule o p) h λ d y a b w.
      let l = walk-length o p y b in rw (← w) (omega arith)

  -- Where a rule refuses no size against an absent one, the walk stops where both have a size.
  pub walk-clash : ((d : Dim) → rule none (some d) ≡ none → ⊥) → ((d : Dim) → rule (some d) none ≡ none → ⊥) → (o p : List Dim) (i : ℕ) → walk rule o p ≡ clash i → i < min (length o) (length p)
  unfolding walk
  walk-clash u v [] [] i h = let z : ◌≡◌ {A = ℕ} 0 1 = cc in absurd (omega arith)
  walk-clash u v [] (e ∷ p) i h =
      then_rest-clash (rule none (some e)) (walk rule [] p) h (λ x w. absurd (u e x)) λ j x w.
      let z = walk-clash u v [] p j x in absurd (omega arith)
  walk-clash u v (d ∷ o) [] i h =
      then_rest-clash (rule (some d) none) (walk rule o []) h (λ x w. absurd (v d x)) λ j x w.
      let z = walk-clash u v o [] j x in absurd (omega arith)
  walk-clash u v (d ∷ o) (e ∷ p) i h =
      then_rest-clash (rule (some d) (some e)) (walk rule o p) h (λ x w. omega arith) λ j x w.
      let z = walk-clash u v o p j x in omega arith

  -- Another that refuses wherever it refuses, and nowhere else, stops at the same index.
  pub walk-clash-alike : (other : IndexRule) → ((x y : Option Dim) → (rule x y ≡ none) ↔ (other x y ≡ none))
      → (o p : List Dim) (i : ℕ) → walk rule o p ≡ clash i → walk other o p ≡ clash i
  unfolding walk
  walk-clash-alike other h [] [] i e = let z : ◌≡◌ {A = ℕ} 0 1 = cc in absurd (omega arith)
  walk-clash-alike other h [] (b ∷ p) i e = then_rest-alike (rule none (some b)) (other none (some b)) (h none (some b)) (walk rule [] p) (walk other [] p) (walk-clash-alike other h [] p) i e
  walk-clash-alike other h (a ∷ o) [] i e = then_rest-alike (rule (some a) none) (other (some a) none) (h (some a) none) (walk rule o []) (walk other o []) (walk-clash-alike other h o []) i e
  walk-clash-alike other h (a ∷ o) (b ∷ p) i e = then_rest-alike (rule (some a) (some b)) (other (some a) (some b)) (h (some a) (some b)) (walk rule o p) (walk other o p) (walk-clash-alike other h o p) i e

pub pervade-clash : (f g : Bool) (o p : List Dim) (i : ℕ) → pervade_dims f g o p ≡ clash i → i < min (length o) (length p)
pervade-clash f g = walk-clash (pervade_at f g) gives gives
  where
    gives : (d : Dim) → some (against_absent d) ≡ none → ⊥
    gives d e = let z : ◌≡◌ {A = ℕ} 0 1 = cc in absurd (omega arith)

-- ---- limits

pub against_absent-within : (d : Dim) → DimWithin d → DimWithin (against_absent d)
unfolding against_absent
against_absent-within d h = go (is_one d)
  where
    go : (t : Bool) → DimWithin (cond t unknown d)
    go true = tt
    go false = h

filled_within : (f : Bool) (d : Dim) → DimWithin d → Each DimWithin (filled f d)
filled_within true d h = h
filled_within false d h = tt

by_order-within : (f g : Bool) (x : Order) (d e : Dim) → DimWithin d → DimWithin e → Each DimWithin (by_order f g x d e)
by_order-within f g less d e h k = filled_within f e k
by_order-within f g same d e h k = h
by_order-within f g more d e h k = filled_within g d h

neither_one-within : (f g : Bool) (d e : Dim) → DimWithin d → DimWithin e → Each DimWithin (neither_one f g d e)
neither_one-within f g unknown e h k = k
neither_one-within f g (static m) unknown h k = h
neither_one-within f g (static m) (static n) h k = by_order-within f g (cmp_dim (static m) (static n)) (static m) (static n) h k

pub together-within : (f g : Bool) (d e : Dim) → DimWithin d → DimWithin e → Each DimWithin (together f g d e)
unfolding together
together-within f g d e h k = go (is_one d) (is_one e)
  where
    go : (t u : Bool) → Each DimWithin (cond t (some e) (cond u (some d) (neither_one f g d e)))
    go true u = k
    go false true = h
    go false false = neither_one-within f g d e h k

-- of the sizes, where there are some
abbrev AllSizes : Pervaded → Type 0
AllSizes (sizes ds) = All DimWithin ds
AllSizes (clash i) = Unit {0}

then_all : (c : Option Dim) (r : Pervaded) → Each DimWithin c → AllSizes r → AllSizes (then_rest c r)
then_all none r h k = tt
then_all (some d) (sizes y) h k = (h, k)
then_all (some d) (clash i) h k = tt

-- A rule for one index that keeps to the limits.
abbrev pub KeepsWithin : IndexRule → Type 0
KeepsWithin rule = (x y : Option Dim) → Each DimWithin x → Each DimWithin y → Each DimWithin (rule x y)

pub pervade_at-within : (f g : Bool) → KeepsWithin (pervade_at f g)
pervade_at-within f g none none h k = tt
pervade_at-within f g none (some e) h k = against_absent-within e k
pervade_at-within f g (some d) none h k = against_absent-within d h
pervade_at-within f g (some d) (some e) h k = together-within f g d e h k

walk-all : (rule : IndexRule) → KeepsWithin rule → (o p : List Dim) → All DimWithin o → All DimWithin p → AllSizes (walk rule o p)
unfolding walk
walk-all rule w [] [] h k = tt
walk-all rule w [] (e ∷ p) h k = then_all (rule none (some e)) (walk rule [] p) (w none (some e) tt k.0) (walk-all rule w [] p h k.1)
walk-all rule w (d ∷ o) [] h k = then_all (rule (some d) none) (walk rule o []) (w (some d) none h.0 tt) (walk-all rule w o [] h.1 k)
walk-all rule w (d ∷ o) (e ∷ p) h k = then_all (rule (some d) (some e)) (walk rule o p) (w (some d) (some e) h.0 k.0) (walk-all rule w o p h.1 k.1)

pub pervade_closing-within : (c d : Option (List Dim)) → Each DimsWithin c → Each DimsWithin d → Each DimsWithin (pervade_closing c d)
unfolding pervade_closing
pervade_closing-within none d h k = k
pervade_closing-within (some c) none h k = h
pervade_closing-within (some []) (some d) h k = k
pervade_closing-within (some (x ∷ c)) (some []) h k = h
pervade_closing-within (some (x ∷ c)) (some (y ∷ d)) h k = (omega arith, tt)

pub walk-within : (rule : IndexRule) → KeepsWithin rule → (o p : List Dim) (c d : Option (List Dim))
    → ShapeWithin (shape o c) → ShapeWithin (shape p d) → Each ShapeWithin (closed_by (pervade_closing c d) (walk rule o p))
walk-within rule w o p c d h k = go (walk rule o p) (walk-length rule o p) (walk-all rule w o p h.0.1 k.0.1)
  where
    go : (r : Pervaded) → ((x : List Dim) → r ≡ sizes x → length x ≡ max (length o) (length p)) → AllSizes r → Each ShapeWithin (closed_by (pervade_closing c d) r)
    go (sizes x) l a = let e = l x refl in ((omega arith, a), pervade_closing-within c d h.1 k.1)
    go (clash i) l a = tt

pub pervade-within : (f g : Bool) (s t : Shape) → ShapeWithin s → ShapeWithin t → Each ShapeWithin (pervade f g s t)
unfolding pervade
pervade-within f g (shape o c) (shape p d) h k = walk-within (pervade_at f g) (pervade_at-within f g) o p c d h k

-- ---- the two sides

is_one-true : (d : Dim) → is_one d ≡ true → d ≡ static 1
is_one-true (static n) h = ap static (eqb-true n 1 h)
is_one-true unknown h = cc

by_order-comm : (f g : Bool) (x : Order) (d e : Dim) → (x ≡ same → d ≡ e) → by_order f g x d e ≡ by_order g f (flip x) e d
by_order-comm f g less d e h = refl
by_order-comm f g same d e h = ap some (h refl)
by_order-comm f g more d e h = refl

neither_one-comm : (f g : Bool) (d e : Dim) → neither_one f g d e ≡ neither_one g f e d
neither_one-comm f g unknown unknown = refl
neither_one-comm f g unknown (static n) = refl
neither_one-comm f g (static m) unknown = refl
neither_one-comm f g (static m) (static n) =
    by_order-comm f g (cmp_dim (static m) (static n)) (static m) (static n) (cmp_dim-same (static m) (static n)) ∙ rw (cmp_dim-flip (static m) (static n))

pub together-comm : (f g : Bool) (d e : Dim) → together f g d e ≡ together g f e d
unfolding together
together-comm f g d e = go (is_one d) (is_one e) refl refl
  where
    go : (t u : Bool) → is_one d ≡ t → is_one e ≡ u → cond t (some e) (cond u (some d) (neither_one f g d e)) ≡ cond u (some d) (cond t (some e) (neither_one g f e d))
    go true true h k = ap some (is_one-true e k ∙ sym (is_one-true d h))
    go true false h k = refl
    go false true h k = refl
    go false false h k = neither_one-comm f g d e

pub pervade_at-comm : (f g : Bool) (x y : Option Dim) → pervade_at f g x y ≡ pervade_at g f y x
pervade_at-comm f g none none = refl
pervade_at-comm f g none (some e) = refl
pervade_at-comm f g (some d) none = refl
pervade_at-comm f g (some d) (some e) = together-comm f g d e

-- By two rules that are the same with the sides exchanged.
pub walk-comm : (rule exchanged : IndexRule) → ((x y : Option Dim) → rule x y ≡ exchanged y x) → (o p : List Dim) → walk rule o p ≡ walk exchanged p o
unfolding walk
walk-comm rule exchanged h [] [] = refl
walk-comm rule exchanged h [] (e ∷ p) = rw (h none (some e), walk-comm rule exchanged h [] p)
walk-comm rule exchanged h (d ∷ o) [] = rw (h (some d) none, walk-comm rule exchanged h o [])
walk-comm rule exchanged h (d ∷ o) (e ∷ p) = rw (h (some d) (some e), walk-comm rule exchanged h o p)

pub pervade_closing-comm : (c d : Option (List Dim)) → pervade_closing c d ≡ pervade_closing d c
unfolding pervade_closing
pervade_closing-comm none none = refl
pervade_closing-comm none (some d) = refl
pervade_closing-comm (some c) none = refl
pervade_closing-comm (some []) (some []) = refl
pervade_closing-comm (some []) (some (y ∷ d)) = refl
pervade_closing-comm (some (x ∷ c)) (some []) = refl
pervade_closing-comm (some (x ∷ c)) (some (y ∷ d)) = refl

pub pervade-comm : (f g : Bool) (s t : Shape) → pervade f g s t ≡ pervade g f t s
unfolding pervade
pervade-comm f g (shape o c) (shape p d) = rw (walk-comm (pervade_at f g) (pervade_at g f) (pervade_at-comm f g) o p, pervade_closing-comm c d)
