-- Real shapes and the real run (document 01, "The sheet, added"; fills by document 02, 2026-01). The run is fed the steps, a real shape
-- for each put and a side for each join; nothing that the checker worked out enters it.
use Rattle.std.specs.Prelude.{ℕ, ◌+◌, ◌-◌, Bool, true, false, ◌&&◌, cond, List, [], ◌∷◌, reverse, ◌≡◌, length, take, drop, eqb, ltb, leb}
use Rattle.std.proofs.Math.Option.{Option, none, some}
use Rattle.model.specs.Types.{Dim, static, unknown, Shape, shape, Ty, shape_of}
use Rattle.machine.specs.Steps.{Step, put, row, pervading, join, validating, a_join, is_a, put_by, Rule, of_none, of_one, of_two}

-- ---- real shapes

-- The term real shape: whole sizes, any number of them.
abbrev pub RealShape : Type 0
RealShape = List ℕ

-- ? fits any size.
abbrev pub fits_dim : Dim → ℕ → Bool
fits_dim (static m) n = eqb m n
fits_dim unknown n = true

abbrev pub fits_dims : List Dim → RealShape → Bool
fits_dims [] [] = true
fits_dims [] (n ∷ r) = false
fits_dims (d ∷ o) [] = false
fits_dims (d ∷ o) (n ∷ r) = fits_dim d n && fits_dims o r

abbrev pub starts : List Dim → RealShape → Bool
starts o r = fits_dims o (take (length o) r)

abbrev pub ends : List Dim → RealShape → Bool
ends c r = fits_dims c (drop (length r - length c) r)

-- The term fits: it starts with the opening sizes and, if open, ends with the closing ones without overlap; closed admits nothing
-- more.
unfoldable pub fits : Shape → RealShape → Bool
fits (shape o none) r = fits_dims o r
fits (shape o (some c)) r = starts o r && ends c r && leb (length o + length c) (length r)

-- The term holds: a type holds what fits its shape.
abbrev pub Holds : Ty → RealShape → Type 0
Holds t r = fits (shape_of t) r ≡ true

-- ---- real pervading

-- "The smaller grows to the larger if its side is filled", and else it stops (document 02, 2026-01).
abbrev pub grown : Bool → ℕ → Option ℕ
grown fill larger = cond fill (some larger) none

-- Two sizes: 1 yields, to 0 too; equals stay; where it would stop, the smaller may grow. The first's fill is f, the second's g.
abbrev pub real_dim : Bool → Bool → ℕ → ℕ → Option ℕ
real_dim f g m n = cond (eqb m 1) (some n) (cond (eqb n 1) (some m) (cond (eqb m n) (some m) (cond (ltb m n) (grown f n) (grown g m))))

abbrev pub cons_both : {A : Type 0} → Option A → Option (List A) → Option (List A)
cons_both none r = none
cons_both (some a) none = none
cons_both (some a) (some r) = some (a ∷ r)

-- The term real pervading, index by index: 1 against absent is 1, and absent yields, filled or not. None where it stops.
unfoldable pub real_pervade : Bool → Bool → RealShape → RealShape → Option RealShape
real_pervade f g [] q = some q
real_pervade f g (m ∷ r) [] = some (m ∷ r)
real_pervade f g (m ∷ r) (n ∷ q) = cons_both (real_dim f g m n) (real_pervade f g r q)

-- ---- the real run

-- Which side a join keeps.
pub data JoinSide : Type 0 where
  the_top the_one_below : JoinSide

abbrev pub keeps : JoinSide → RealShape → RealShape → RealShape
keeps the_top r q = r
keeps the_one_below r q = q

-- What a step is fed: a put a real shape, a join the side that it keeps, the others nothing. And what all steps are fed.
abbrev pub FeedOf : Option Ty → Bool → Type 0
FeedOf (some t) b = RealShape
FeedOf none true = JoinSide
FeedOf none false = Unit {0}

abbrev pub Feed : Step → Type 0
Feed x = FeedOf (put_by x) (is_a a_join x)

abbrev pub Feeds : List Step → Type 0
Feeds [] = Unit {0}
Feeds (x ∷ xs) = Feed x × Feeds xs

-- A row drops the first size; a scalar stays.
abbrev pub real_row : RealShape → RealShape
real_row [] = []
real_row (n ∷ r) = r

abbrev pub onto_real : List RealShape → Option RealShape → Option (List RealShape)
onto_real rs none = none
onto_real rs (some r) = some (r ∷ rs)

-- What each step makes of the real shapes that it takes; none where the run stops.
abbrev pub real_rule : (x : Step) → Feed x → Rule RealShape (Option RealShape)
real_rule (put t) r = of_none (some r)
real_rule row u = of_one λ r. some (real_row r)
real_rule (pervading f g) u = of_two λ r q. real_pervade f g r q
real_rule join side = of_two λ r q. some (keeps side r q)
real_rule (validating spec) u = of_one λ r. cond (fits (shape_of spec) r) (some r) none

-- It is laid on top. An accepted or well-formed sheet never lacks a shape (`demand`: `accepted_stops`, `well_formed_stops`).
abbrev pub real_rule_on : Rule RealShape (Option RealShape) → List RealShape → Option (List RealShape)
real_rule_on (of_none o) rs = onto_real rs o
real_rule_on (of_one f) [] = none
real_rule_on (of_one f) (r ∷ rs) = onto_real rs (f r)
real_rule_on (of_two f) [] = none
real_rule_on (of_two f) (r ∷ []) = none
real_rule_on (of_two f) (r ∷ q ∷ rs) = onto_real rs (f r q)

-- One step on a stack of real shapes, top first.
unfoldable pub real_step : (x : Step) → Feed x → List RealShape → Option (List RealShape)
real_step x f rs = real_rule_on (real_rule x f) rs

-- A stopped run takes no further step.
abbrev pub goes_on : Option (List RealShape) → (List RealShape → Option (List RealShape)) → Option (List RealShape)
goes_on none f = none
goes_on (some rs) f = f rs

unfoldable pub real_run : (xs : List Step) → Feeds xs → List RealShape → Option (List RealShape)
real_run [] u rs = some rs
real_run (x ∷ xs) f rs = goes_on (real_step x f.0 rs) λ rs₁. real_run xs f.1 rs₁

-- ---- fit and get through

-- what a put is fed fits the type that it puts
abbrev pub FitsFeed : (o : Option Ty) (b : Bool) → FeedOf o b → Type 0
FitsFeed (some t) b r = Holds t r
FitsFeed none b f = Unit {0}

abbrev pub FitsPut : (x : Step) → Feed x → Type 0
FitsPut x f = FitsFeed (put_by x) (is_a a_join x) f

abbrev pub FitsPuts : (xs : List Step) → Feeds xs → Type 0
FitsPuts [] u = Unit {0}
FitsPuts (x ∷ xs) f = FitsPut x f.0 × FitsPuts xs f.1

-- The terms fit and get through: the shapes fed fit the puts, and the run on them, from the empty stack, never stops. It leaves
-- `left`, told bottom first; on the stack the top is the first.
pub record Through (xs : List Step) (f : Feeds xs) (left : List RealShape) : Type 0 where
  pub fit : FitsPuts xs f
  pub run : real_run xs f [] ≡ some (reverse left)
