-- The first half of demand 3 on lists of steps: from a stack of types that hold the real shapes beside them, whatever is fed that
-- fits the puts and gets through leaves types that hold the real shapes beside them.
use Rattle.std.specs.Prelude.{ℕ, Bool, false, cond, List, [], ◌∷◌, ◌≡◌, length, ltb}
use Rattle.std.proofs.Common.{arith}
use Rattle.std.proofs.Math.Option.{Option, none, some}
use Rattle.model.specs.Refusals.{unpervaded}
use Rattle.model.specs.Types.{Shape, shape, Ty, ty, shape_of}
use Rattle.model.specs.Within.{All}
use Rattle.rules.specs.PervadeInSheets.{pervade_in_sheets}
use Rattle.rules.specs.Scalars.{union}
use Rattle.rules.specs.Types.{into_row, row_by, join_types}
use Rattle.validation.specs.CheckShape.{unsided}
use Rattle.validation.specs.Validate.{validate}
use Rattle.validation.proofs.ValidateLaws.{validate-shape}
use Rattle.machine.specs.SheetLimits.{max_stack}
use Rattle.machine.specs.Steps.{Step, put, row, pervading, join, validating, Rule, of_none, of_one, of_two}
use Rattle.machine.specs.Run.{Ruling, gives, or_refuses, aside, Stack, onto, pervade_types, rule_of, rule_on, step, steps}
use Rattle.machine.specs.Real.{RealShape, fits, Holds, real_pervade, JoinSide, Feed, Feeds, real_row, keeps, onto_real, real_rule, real_rule_on, real_step, real_run, FitsPut, FitsPuts}
use Rattle.machine.specs.Conditions.{names_closing, NamesNoClosing, Alike, JoinsAlike, Along}
use Rattle.holding.specs.Bare.{Bare}
use Rattle.holding.proofs.PervadeHolds.{pervade_holds}
use Rattle.holding.specs.RulesHold.{row_holds, join_holds, merge_holds}
use Rattle.machine.proofs.RunLaws.{following-gives, or_refuses-gives, aside-gives}
use Rattle.machine.proofs.RealLaws.{cond-some, onto_real-some, goes_on-some}
use Rattle.machine.proofs.RuleOn.{room-gives}

-- ---- types beside real shapes

-- A type holds a real shape and names no closing size.
abbrev pub HoldsBare : Ty → RealShape → Type 0
HoldsBare t r = Holds t r × Bare (shape_of t)

-- Each type holds the real shape beside it, and names no closing size.
abbrev pub AllHold : Stack → List RealShape → Type 0
AllHold [] [] = Unit {0}
AllHold [] (r ∷ rs) = ⊥
AllHold (t ∷ st) [] = ⊥
AllHold (t ∷ st) (r ∷ rs) = HoldsBare t r × AllHold st rs

pub bare_of : (s : Shape) → names_closing s ≡ false → Bare s
bare_of (shape o none) h = tt
bare_of (shape o (some [])) h = tt
bare_of (shape o (some (d ∷ c))) h = let z : ◌≡◌ {A = ℕ} 0 1 = cc in absurd (omega arith)

-- ---- a rule beside the real one

-- What a rule makes holds what the real rule makes.
abbrev Made : Ruling Ty → Option RealShape → Type 0
Made a o = (x : Ty) (z : RealShape) → a ≡ gives x → o ≡ some z → HoldsBare x z

-- Where the types taken hold the real shapes taken, what the rule makes holds what the real one makes. Q is what is asked of the stack.
abbrev Preserves : (Stack → Type 0) → Rule Ty (Ruling Ty) → Rule RealShape (Option RealShape) → Type 0
Preserves Q (of_none a) (of_none o) = Made a o
Preserves Q (of_none a) (of_one g) = ⊥
Preserves Q (of_none a) (of_two g) = ⊥
Preserves Q (of_one f) (of_none o) = ⊥
Preserves Q (of_one f) (of_one g) = (t : Ty) (r : RealShape) → HoldsBare t r → Made (f t) (g r)
Preserves Q (of_one f) (of_two g) = ⊥
Preserves Q (of_two f) (of_none o) = ⊥
Preserves Q (of_two f) (of_one g) = ⊥
Preserves Q (of_two f) (of_two g) = (t u : Ty) (st : Stack) (r q : RealShape) → Q (t ∷ u ∷ st) → HoldsBare t r → HoldsBare u q → Made (f t u) (g r q)

onto_hold : (st : Stack) (a : Ruling Ty) (rs : List RealShape) (o : Option RealShape) {st₁ : Stack} {rs₁ : List RealShape}
    → Made a o → AllHold st rs → onto st a ≡ gives st₁ → onto_real rs o ≡ some rs₁ → AllHold st₁ rs₁
onto_hold st a rs o {st₁} {rs₁} k h e y =
    following-gives a e λ x e₁ e₂.
    onto_real-some rs o y λ z y₁ v.
    let w : x ∷ st ≡ st₁ = cc in
    rw (← w, ← v) (k x z e₁ y₁, h)

module _ (Q : Stack → Type 0) where
  rule_on_hold : (a : Rule Ty (Ruling Ty)) (b : Rule RealShape (Option RealShape)) (st st₁ : Stack) (rs rs₁ : List RealShape)
      → Preserves Q a b → Q st → AllHold st rs → rule_on a st ≡ gives st₁ → real_rule_on b rs ≡ some rs₁ → AllHold st₁ rs₁
  rule_on_hold (of_none a) (of_none o) st st₁ rs rs₁ k c h e y = room-gives (ltb (length st) max_stack) st a e λ e₁. onto_hold st a rs o k h e₁ y
  rule_on_hold (of_none a) (of_one g) st st₁ rs rs₁ k c h e y = absurd k
  rule_on_hold (of_none a) (of_two g) st st₁ rs rs₁ k c h e y = absurd k
  rule_on_hold (of_one f) (of_none o) st st₁ rs rs₁ k c h e y = absurd k
  rule_on_hold (of_one f) (of_one g) [] st₁ rs rs₁ k c h e y = let z : ◌≡◌ {A = ℕ} 0 1 = cc in absurd (omega arith)
  rule_on_hold (of_one f) (of_one g) (t ∷ st) st₁ [] rs₁ k c h e y = absurd h
  rule_on_hold (of_one f) (of_one g) (t ∷ st) st₁ (r ∷ rs) rs₁ k c h e y = onto_hold st (f t) rs (g r) (k t r h.0) h.1 e y
  rule_on_hold (of_one f) (of_two g) st st₁ rs rs₁ k c h e y = absurd k
  rule_on_hold (of_two f) (of_none o) st st₁ rs rs₁ k c h e y = absurd k
  rule_on_hold (of_two f) (of_one g) st st₁ rs rs₁ k c h e y = absurd k
  rule_on_hold (of_two f) (of_two g) [] st₁ rs rs₁ k c h e y = let z : ◌≡◌ {A = ℕ} 0 1 = cc in absurd (omega arith)
  rule_on_hold (of_two f) (of_two g) (t ∷ []) st₁ rs rs₁ k c h e y = let z : ◌≡◌ {A = ℕ} 0 1 = cc in absurd (omega arith)
  rule_on_hold (of_two f) (of_two g) (t ∷ u ∷ st) st₁ [] rs₁ k c h e y = absurd h
  rule_on_hold (of_two f) (of_two g) (t ∷ u ∷ st) st₁ (r ∷ []) rs₁ k c h e y = absurd h.1
  rule_on_hold (of_two f) (of_two g) (t ∷ u ∷ st) st₁ (r ∷ q ∷ rs) rs₁ k c h e y = onto_hold st (f t u) rs (g r q) (k t u st r q c h.0 h.1.0) h.1.1 e y

-- ---- the five rules

row_made : (t : Ty) (r : RealShape) → HoldsBare t r → HoldsBare (into_row t) (real_row r)
unfolding row_by
row_made (ty s k) r h = row_holds s r h.1 h.0

pervade-made : (f g : Bool) (t u : Ty) (r q : RealShape) → HoldsBare t r → HoldsBare u q → Made (pervade_types f g t u) (real_pervade f g r q)
unfolding pervade_types
pervade-made f g (ty s k) (ty t l) r q h i x z e y =
    following-gives (or_refuses (pervade_in_sheets f g s t) unpervaded) e λ v e₁ e₂.
    or_refuses-gives (pervade_in_sheets f g s t) unpervaded e₁ λ e₃.
    let w : ty v (union k l) ≡ x = cc in
    rw (← w) (pervade_holds f g s t v r q z h.1 i.1 h.0 i.0 e₃ y)

join-made : (side : JoinSide) (t u : Ty) (r q : RealShape) → Alike (shape_of t) (shape_of u) → HoldsBare t r → HoldsBare u q → HoldsBare (join_types t u) (keeps side r q)
unfolding join_types
join-made side (ty s k) (ty t l) r q alike h i = join_holds side s t r q h.1 i.1 alike h.0 i.0

validate-made : (spec t : Ty) (r : RealShape) → names_closing (shape_of spec) ≡ false → HoldsBare t r → Made (aside (validate unsided spec t)) (cond (fits (shape_of spec) r) (some r) none)
validate-made spec t r n h x z e y =
    aside-gives (validate unsided spec t) e λ e₁.
    cond-some (fits (shape_of spec) r) y λ fit v.
    rw (← v, validate-shape spec t x e₁) (merge_holds (shape_of t) (shape_of spec) r h.1 (bare_of (shape_of spec) n) h.0 fit)

rule_holds : (x : Step) (f : Feed x) → NamesNoClosing x → FitsPut x f → Preserves (JoinsAlike x) (rule_of x) (real_rule x f)
rule_holds (put t) f n p = λ x z e y. let w : t ≡ x = cc in let v : f ≡ z = cc in rw (← w, ← v) (p, bare_of (shape_of t) n)
rule_holds row f n p = λ t r h x z e y. let w : into_row t ≡ x = cc in let v : real_row r ≡ z = cc in rw (← w, ← v) (row_made t r h)
rule_holds (pervading a b) f n p = λ t u st r q c h i. pervade-made a b t u r q h i
rule_holds join f n p = λ t u st r q c h i x z e y. let w : join_types t u ≡ x = cc in let v : keeps f r q ≡ z = cc in rw (← w, ← v) (join-made f t u r q c h i)
rule_holds (validating spec) f n p = λ t r h. validate-made spec t r n h

-- ---- all steps

step_holds : (x : Step) (st st₁ : Stack) (f : Feed x) (rs rs₁ : List RealShape)
    → NamesNoClosing x → JoinsAlike x st → FitsPut x f → AllHold st rs → step x st ≡ gives st₁ → real_step x f rs ≡ some rs₁ → AllHold st₁ rs₁
unfolding step real_step
step_holds x st st₁ f rs rs₁ n j p h e y = rule_on_hold (JoinsAlike x) (rule_of x) (real_rule x f) st st₁ rs rs₁ (rule_holds x f n p) j h e y

pub steps_hold : (xs : List Step) (st st₁ : Stack) (f : Feeds xs) (rs rs₁ : List RealShape)
    → All NamesNoClosing xs → Along JoinsAlike xs st → FitsPuts xs f → AllHold st rs → steps xs st ≡ gives st₁ → real_run xs f rs ≡ some rs₁ → AllHold st₁ rs₁
unfolding steps real_run
steps_hold [] st st₁ f rs rs₁ n j p h e y =
    let w : st ≡ st₁ = cc in
    let v : rs ≡ rs₁ = cc in
    rw (← w, ← v) h
steps_hold (x ∷ xs) st st₁ f rs rs₁ n j p h e y =
    following-gives (step x st) e λ st₂ e₁ e₂.
    goes_on-some (real_step x f.0 rs) y λ rs₂ y₁ y₂.
    steps_hold xs st₂ st₁ f.1 rs₂ rs₁ n.1 (j.1 st₂ e₁) p.1 (step_holds x st st₂ f.0 rs rs₂ n.0 j.0 p.0 h e₁ y₁) e₂ y₂
