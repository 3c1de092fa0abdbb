-- Puts and unfilled pervadings as moves: what the steps do to the shapes of the types, and the real run to the real shapes, is the
-- same play with two different rules.
use Rattle.std.specs.Prelude.{ℕ, suc, ◌+◌, ◌-◌, ◌≤◌, Bool, false, List, [], ◌∷◌, map, ◌≡◌, refl, length}
use Rattle.std.proofs.Common.{arith, ap}
use Rattle.std.proofs.Math.Option.{Option, none, some}
use Rattle.model.specs.Refusals.{unpervaded}
use Rattle.model.specs.Types.{Shape, Scalar, Ty, ty, shape_of}
use Rattle.model.specs.Within.{All}
use Rattle.rules.specs.Pervade.{pervade}
use Rattle.rules.proofs.PervadeInSheetsLaws.{in_sheets_unfilled}
use Rattle.rules.specs.Scalars.{union}
use Rattle.machine.specs.Steps.{Step, put, row, pervading, join, validating, a_join, is_a, put_by}
use Rattle.machine.specs.Run.{Ruling, gives, refuses, following, or_refuses, Stack, onto, steps}
use Rattle.machine.specs.WellFormed.{height_after, Heights}
use Rattle.machine.specs.Real.{RealShape, real_pervade, FeedOf, Feeds, real_step, onto_real, goes_on, real_run}
use Rattle.machine.specs.Conditions.{PutOrPervade, with_put, puts}
use Rattle.orders.specs.Play.{Move, lay, mix, laid_down, Enough, height_left, mixed, play}
use Rattle.machine.proofs.RunLaws.{unfilled, step-put, pervade_types-is, step-pervading}

-- A put or an unfilled pervading is one of these two.
pub put_or_pervade : (P : Step → Type 0) → ((t : Ty) → P (put t)) → P (pervading false false) → (x : Step) → PutOrPervade x → P x
put_or_pervade P a b (put t) h = a t
put_or_pervade P a b row h = absurd h
put_or_pervade P a b (pervading f g) h = let (u, v) = unfilled f g h in rw (u, v) b
put_or_pervade P a b join h = absurd h
put_or_pervade P a b (validating spec) h = absurd h

-- ---- shapes

-- A put lays down the shape of the type that it puts, all else mixes two.
abbrev pub move_of : Option Ty → Move Shape
move_of none = mix
move_of (some t) = lay (shape_of t)

abbrev pub moves : List Step → List (Move Shape)
moves [] = []
moves (x ∷ xs) = move_of (put_by x) ∷ moves xs

pub laid-moves : (xs : List Step) → laid_down (moves xs) ≡ map shape_of (puts xs)
laid-moves [] = refl
laid-moves (x ∷ xs) = go (put_by x) (laid-moves xs)
  where
    go : (o : Option Ty) → laid_down (moves xs) ≡ map shape_of (puts xs) → laid_down (move_of o ∷ moves xs) ≡ map shape_of (with_put o (puts xs))
    go none e = e
    go (some t) e = ap (λ l. shape_of t ∷ l) e

abbrev pub shapes : Ruling Stack → Ruling (List Shape)
shapes (gives st) = gives (map shape_of st)
shapes (refuses k) = refuses k

abbrev pub played_out : Option (List Shape) → Ruling (List Shape)
played_out none = refuses unpervaded
played_out (some l) = gives l

-- what the steps make of the shapes on the stack is the play
abbrev Plays : List Step → Stack → Type 0
Plays xs st = shapes (steps xs st) ≡ played_out (play (pervade false false) (moves xs) (map shape_of st))

pervading_plays : (xs : List Step) (st : Stack) → 2 ≤ length st
    → ((x : Shape) (k : Scalar) (rest : Stack) → length st ≡ suc (suc (length rest)) → Plays xs (ty x k ∷ rest))
    → Plays (pervading false false ∷ xs) st
unfolding steps play
pervading_plays xs [] h i = absurd (omega arith)
pervading_plays xs (t ∷ []) h i = absurd (omega arith)
pervading_plays xs (ty s k ∷ ty t l ∷ st) h i =
    rw (step-pervading false false (ty s k) (ty t l) st, pervade_types-is false false s t k l, in_sheets_unfilled s t) (go (pervade false false s t) (λ x. i x (union k l) st refl))
  where
    go : (r : Option Shape) → ((x : Shape) → Plays xs (ty x (union k l) ∷ st))
        → shapes (following (onto st (following (or_refuses r unpervaded) (λ x. gives (ty x (union k l))))) (λ st₁. steps xs st₁))
        ≡ played_out (mixed (pervade false false) r (λ x. play (pervade false false) (moves xs) (x ∷ map shape_of st)))
    go none i = refl
    go (some x) i = i x

pub steps-play : (xs : List Step) (st : Stack) → All PutOrPervade xs → Heights xs (length st) → Plays xs st
unfolding steps play
steps-play [] st p h = refl
steps-play (x ∷ xs) st p h =
    put_or_pervade (λ y. Heights (y ∷ xs) (length st) → Plays (y ∷ xs) st)
    (λ t h₁.
    let n : length st - 0 + 1 ≡ suc (length st) = omega arith in
    rw (step-put t st (omega (arith, h₁.1))) (steps-play xs (t ∷ st) p.1 (rw n at h₁.2)))
    (λ h₁.
    pervading_plays xs st h₁.0 λ y k rest l.
    let n : length st - 2 + 1 ≡ suc (length rest) = omega arith in
    steps-play xs (ty y k ∷ rest) p.1 (rw n at h₁.2))
    x p.0 h

-- ---- heights, of any moves that go with the steps

-- The moves lay down and mix as the steps put and pervade.
abbrev SameMove : {A : Type 0} → Option Ty → Move A → Type 0
SameMove none mix = Unit {0}
SameMove none (lay a) = ⊥
SameMove (some t) mix = ⊥
SameMove (some t) (lay a) = Unit {0}

abbrev SameMoves : {A : Type 0} → List Step → List (Move A) → Type 0
SameMoves [] [] = Unit {0}
SameMoves [] (m ∷ ms) = ⊥
SameMoves (x ∷ xs) [] = ⊥
SameMoves (x ∷ xs) (m ∷ ms) = SameMove (put_by x) m × SameMoves xs ms

enough-same : {A : Type 0} (xs : List Step) (ms : List (Move A)) (h : ℕ) → SameMoves xs ms → All PutOrPervade xs → Heights xs h → Enough ms h × (height_left ms h ≡ height_after xs h)
enough-same [] [] h b p k = (tt, refl)
enough-same [] (m ∷ ms) h b p k = absurd b
enough-same (x ∷ xs) [] h b p k = absurd b
enough-same {A} (x ∷ xs) (m ∷ ms) h b p k =
    put_or_pervade (λ y. SameMove (put_by y) m → Heights (y ∷ xs) h → Enough (m ∷ ms) h × (height_left (m ∷ ms) h ≡ height_after (y ∷ xs) h))
    (λ t c k₁. laying t m c k₁ λ k₂. enough-same xs ms (suc h) b.1 p.1 k₂)
    (λ c k₁. mixing m c k₁ λ k₂. enough-same xs ms (h - 1) b.1 p.1 k₂)
    x p.0 b.0 k
  where
    laying : (t : Ty) (m : Move A) → SameMove (some t) m → Heights (put t ∷ xs) h → (Heights xs (suc h) → Enough ms (suc h) × (height_left ms (suc h) ≡ height_after xs (suc h)))
        → Enough (m ∷ ms) h × (height_left (m ∷ ms) h ≡ height_after (put t ∷ xs) h)
    laying t mix c k r = absurd c
    laying t (lay a) c k r = let n : h - 0 + 1 ≡ suc h = omega arith in rw n (r (rw n at k.2))

    mixing : (m : Move A) → SameMove none m → Heights (pervading false false ∷ xs) h → (Heights xs (h - 1) → Enough ms (h - 1) × (height_left ms (h - 1) ≡ height_after xs (h - 1)))
        → Enough (m ∷ ms) h × (height_left (m ∷ ms) h ≡ height_after (pervading false false ∷ xs) h)
    mixing (lay a) c k r = absurd c
    mixing mix c k r =
        let l = k.0 in
        let n : h - 2 + 1 ≡ h - 1 = omega arith in
        let (a, b) = r (rw n at k.2) in
        ((l, a), rw n b)

same-moves : (xs : List Step) → SameMoves xs (moves xs)
same-moves [] = tt
same-moves (x ∷ xs) = (go (put_by x), same-moves xs)
  where
    go : (o : Option Ty) → SameMove o (move_of o)
    go none = tt
    go (some t) = tt

pub enough-moves : (xs : List Step) (h : ℕ) → All PutOrPervade xs → Heights xs h → Enough (moves xs) h × (height_left (moves xs) h ≡ height_after xs h)
enough-moves xs h p k = enough-same xs (moves xs) h (same-moves xs) p k

-- ---- real shapes

abbrev pub feed_move : (o : Option Ty) (b : Bool) → FeedOf o b → Move RealShape
feed_move none b f = mix
feed_move (some t) b r = lay r

abbrev pub feed_moves : (xs : List Step) → Feeds xs → List (Move RealShape)
feed_moves [] u = []
feed_moves (x ∷ xs) f = feed_move (put_by x) (is_a a_join x) f.0 ∷ feed_moves xs f.1

pub real_play : (xs : List Step) (f : Feeds xs) (rs : List RealShape) → All PutOrPervade xs → real_run xs f rs ≡ play (real_pervade false false) (feed_moves xs f) rs
unfolding real_run real_step play
real_play [] f rs p = refl
real_play (x ∷ xs) f rs p =
    put_or_pervade (λ y. (g : Feeds (y ∷ xs)) → real_run (y ∷ xs) g rs ≡ play (real_pervade false false) (feed_moves (y ∷ xs) g) rs)
    (λ t g. real_play xs g.1 (g.0 ∷ rs) p.1)
    (λ g. mixing g.1 rs λ z rest. real_play xs g.1 (z ∷ rest) p.1)
    x p.0 f
  where
    mixing : (g : Feeds xs) (rs : List RealShape) → ((z : RealShape) (rest : List RealShape) → real_run xs g (z ∷ rest) ≡ play (real_pervade false false) (feed_moves xs g) (z ∷ rest))
        → real_run (pervading false false ∷ xs) (tt, g) rs ≡ play (real_pervade false false) (mix ∷ feed_moves xs g) rs
    mixing g [] i = refl
    mixing g (r ∷ []) i = refl
    mixing g (r ∷ q ∷ rs) i = go (real_pervade false false r q)
      where
        go : (o : Option RealShape) → goes_on (onto_real rs o) (λ rs₁. real_run xs g rs₁) ≡ mixed (real_pervade false false) o (λ z. play (real_pervade false false) (feed_moves xs g) (z ∷ rs))
        go none = refl
        go (some z) = i z rs

same_feeds : (xs : List Step) (f : Feeds xs) → SameMoves xs (feed_moves xs f)
same_feeds [] f = tt
same_feeds (x ∷ xs) f = (go (put_by x) (is_a a_join x) f.0, same_feeds xs f.1)
  where
    go : (o : Option Ty) (b : Bool) (a : FeedOf o b) → SameMove o (feed_move o b a)
    go none b a = tt
    go (some t) b a = tt

pub enough_feeds : (xs : List Step) (f : Feeds xs) (h : ℕ) → All PutOrPervade xs → Heights xs h → Enough (feed_moves xs f) h × (height_left (feed_moves xs f) h ≡ height_after xs h)
enough_feeds xs f h p k = enough-same xs (feed_moves xs f) h (same_feeds xs f) p k
