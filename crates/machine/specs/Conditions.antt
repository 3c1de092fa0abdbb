-- The words of demand 3 as predicates of a list of steps. Those of a row or a join look at the type that it takes, which is the
-- one that the rules give there from the steps before.
use Rattle.std.specs.Prelude.{ℕ, ◌+◌, Bool, true, false, ◌||◌, cond, List, [], ◌∷◌, ◌≡◌, length}
use Rattle.std.proofs.Math.Option.{Option, none, some}
use Rattle.model.specs.Types.{Shape, shape, plain, box_any, box_all, box_def, Ty, ty, shape_of}
use Rattle.rules.specs.Sizes.{Order, less, same, more}
use Rattle.rules.specs.Order.{compare}
use Rattle.machine.specs.Steps.{Step, a_put, a_row, a_pervading, a_join, is_a, put_by, flag_byte, Argument, no_argument, a_type, flags, argument_of}
use Rattle.machine.specs.Run.{gives, Stack, step}

-- ---- the first half

-- A shape names closing sizes.
abbrev pub names_closing : Shape → Bool
names_closing (shape o none) = false
names_closing (shape o (some [])) = false
names_closing (shape o (some (d ∷ c))) = true

-- "names no closing sizes": of the own type of a put or validation, types inside boxes aside.
abbrev pub ArgumentNamesNoClosing : Argument → Type 0
ArgumentNamesNoClosing no_argument = Unit {0}
ArgumentNamesNoClosing (a_type t) = names_closing (shape_of t) ≡ false
ArgumentNamesNoClosing (flags f g) = Unit {0}

abbrev pub NamesNoClosing : Step → Type 0
NamesNoClosing x = ArgumentNamesNoClosing (argument_of x)

-- `Where`: asked where a test says yes, and elsewhere nothing is asked. `Only`: asked where it says yes, and elsewhere nothing passes.
abbrev pub Where : Bool → Type 0 → Type 0
Where true P = P
Where false P = Unit {0}

abbrev pub Only : Bool → Type 0 → Type 0
Only true P = P
Only false P = ⊥

-- An open Def: a Def box of open shape.
abbrev pub is_open_def : Ty → Bool
is_open_def (ty s (plain k)) = false
is_open_def (ty s box_any) = false
is_open_def (ty s (box_all t k)) = false
is_open_def (ty (shape o none) (box_def n f)) = false
is_open_def (ty (shape o (some c)) (box_def n f)) = true

-- "takes no row of an open Def": of the type on top.
abbrev pub TopNoOpenDef : Stack → Type 0
TopNoOpenDef [] = Unit {0}
TopNoOpenDef (t ∷ st) = is_open_def t ≡ false

abbrev pub RowsNoOpenDef : Step → Stack → Type 0
RowsNoOpenDef x st = Where (is_a a_row x) (TopNoOpenDef st)

-- "closed shapes of equal count or two open ones".
abbrev pub Alike : Shape → Shape → Type 0
Alike (shape o none) (shape p none) = length o ≡ length p
Alike (shape o none) (shape p (some d)) = ⊥
Alike (shape o (some c)) (shape p none) = ⊥
Alike (shape o (some c)) (shape p (some d)) = Unit {0}

-- "joins only" these: of the two types on top.
abbrev pub TopsAlike : Stack → Type 0
TopsAlike [] = Unit {0}
TopsAlike (t ∷ []) = Unit {0}
TopsAlike (t ∷ u ∷ st) = Alike (shape_of t) (shape_of u)

abbrev pub JoinsAlike : Step → Stack → Type 0
JoinsAlike x st = Where (is_a a_join x) (TopsAlike st)

-- Of each step with the stack that it takes, as the rules leave it.
abbrev pub Along : (Step → Stack → Type 0) → List Step → Stack → Type 0
Along P [] st = Unit {0}
Along P (x ∷ xs) st = P x st × ((st₁ : Stack) → step x st ≡ gives st₁ → Along P xs st₁)

-- ---- the second half

-- Unfilled: flag byte 0.
abbrev pub ArgumentUnfilled : Argument → Type 0
ArgumentUnfilled no_argument = Unit {0}
ArgumentUnfilled (a_type t) = Unit {0}
ArgumentUnfilled (flags f g) = flag_byte f g ≡ 0

abbrev pub Unfilled : Step → Type 0
Unfilled x = ArgumentUnfilled (argument_of x)

-- "puts and unfilled pervadings".
abbrev pub PutOrPervade : Step → Type 0
PutOrPervade x = Only (is_a a_put x || is_a a_pervading x) (Unfilled x)

abbrev pub with_put : Option Ty → List Ty → List Ty
with_put none l = l
with_put (some t) l = t ∷ l

abbrev pub puts : List Step → List Ty
puts [] = []
puts (x ∷ xs) = with_put (put_by x) (puts xs)

-- how often a value stands in a list, by a test for sameness
abbrev pub times_in : {A : Type 0} → (A → A → Bool) → A → List A → ℕ
times_in is a [] = 0
times_in is a (b ∷ l) = cond (is a b) 1 0 + times_in is a l

abbrev pub is_same : Order → Bool
is_same less = false
is_same same = true
is_same more = false

abbrev pub same_type : Ty → Ty → Bool
same_type t u = is_same (compare t u)

-- "the same puts", each type as often. Two types are the same where their order says so, which is equality (`rules`: `compare_refl`,
-- `compare_same`).
abbrev pub SamePuts : List Step → List Step → Type 0
SamePuts xs ys = (t : Ty) → times_in same_type t (puts xs) ≡ times_in same_type t (puts ys)

-- how many of some types name closing sizes
abbrev pub count_closing : List Ty → ℕ
count_closing [] = 0
count_closing (t ∷ l) = cond (names_closing (shape_of t)) 1 0 + count_closing l
