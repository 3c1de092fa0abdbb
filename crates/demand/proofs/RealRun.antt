-- The real run (document 01, "The sheet, added"): it stops only where a real pervading stops or a real shape does not fit the spec
-- of its validation, and never for want of a shape in an accepted or well-formed sheet. It keeps as many real shapes as the sheet
-- keeps types.
use Rattle.std.specs.Prelude.{ℕ, ◌≤◌, Bool, true, false, cond, List, [], ◌∷◌, reverse, ◌≡◌, refl, length}
use Rattle.std.proofs.Common.{arith, inl, inr, sym, ◌∙◌}
use Rattle.std.proofs.Math.Option.{Option, none, some}
use Rattle.model.specs.Types.{Ty, shape_of}
use Rattle.format.specs.Reader.{Bytes}
use Rattle.machine.specs.SheetLimits.{max_stack}
use Rattle.machine.specs.Steps.{Step, put, row, pervading, join, validating, opcode_of, takes, height_past, a_type, flags, Rule, of_none, of_one, of_two}
use Rattle.machine.specs.Run.{gives, Stack, step, steps}
use Rattle.machine.specs.WellFormed.{WellFormed, height_after, types_left, Heights}
use Rattle.machine.specs.Real.{RealShape, fits, real_pervade, Feed, Feeds, real_row, keeps, onto_real, real_rule, real_rule_on, real_step, goes_on, real_run}
use Rattle.machine.proofs.StepsTook.{well_formed-took}
use Rattle.machine.proofs.RunLaws.{following-gives}
use Rattle.machine.proofs.StepsReads.{step_room}
use Rattle.machine.proofs.SheetWorked.{step_height, step-takes}
use Rattle.machine.proofs.RuleOn.{arity, real_takes, lays_one, real_rule_on_height}
use Rattle.machine.proofs.Sheets.{left-within, left-many}
use Rattle.demand.specs.Claims.{Check, MakesAccepted, TopsStop, TopUnfit, StopsBecause, RunStopsBecause}
use Rattle.demand.proofs.Calls.{leaves_run}

-- ---- one step

-- What a rule makes of the real shapes on top is none.
abbrev Stuck : Rule RealShape (Option RealShape) → List RealShape → Type 0
Stuck (of_none o) rs = o ≡ none
Stuck (of_one f) [] = ⊥
Stuck (of_one f) (r ∷ rs) = f r ≡ none
Stuck (of_two f) [] = ⊥
Stuck (of_two f) (r ∷ []) = ⊥
Stuck (of_two f) (r ∷ q ∷ rs) = f r q ≡ none

onto_stops : (rs : List RealShape) (o : Option RealShape) → onto_real rs o ≡ none → o ≡ none
onto_stops rs none e = refl
onto_stops rs (some r) e = let z : ◌≡◌ {A = ℕ} 0 1 = cc in absurd (omega arith)

rule_on_stops : (a : Rule RealShape (Option RealShape)) (rs : List RealShape) → arity a ≤ length rs → real_rule_on a rs ≡ none → Stuck a rs
rule_on_stops (of_none o) rs h e = onto_stops rs o e
rule_on_stops (of_one f) [] h e = absurd (omega arith)
rule_on_stops (of_one f) (r ∷ rs) h e = onto_stops rs (f r) e
rule_on_stops (of_two f) [] h e = absurd (omega arith)
rule_on_stops (of_two f) (r ∷ []) h e = absurd (omega arith)
rule_on_stops (of_two f) (r ∷ q ∷ rs) h e = onto_stops rs (f r q) e

-- A rule that makes something of everything is never stuck.
never_one : (g : RealShape → RealShape) (rs : List RealShape) → Stuck (of_one λ r. some (g r)) rs → ⊥
never_one g [] h = h
never_one g (r ∷ rs) h = let z : ◌≡◌ {A = ℕ} 0 1 = cc in absurd (omega arith)

never_two : (g : RealShape → RealShape → RealShape) (rs : List RealShape) → Stuck (of_two λ r q. some (g r q)) rs → ⊥
never_two g [] h = h
never_two g (r ∷ []) h = h
never_two g (r ∷ q ∷ rs) h = let z : ◌≡◌ {A = ℕ} 0 1 = cc in absurd (omega arith)

stuck_tops : (f g : Bool) (rs : List RealShape) → Stuck (of_two λ r q. real_pervade f g r q) rs → TopsStop (flags f g) rs
stuck_tops f g [] h = h
stuck_tops f g (r ∷ []) h = h
stuck_tops f g (r ∷ q ∷ rs) h = h

stuck_unfit : (spec : Ty) (rs : List RealShape) → Stuck (of_one λ r. cond (fits (shape_of spec) r) (some r) none) rs → TopUnfit (a_type spec) rs
stuck_unfit spec [] h = h
stuck_unfit spec (r ∷ rs) h = go (fits (shape_of spec) r) h
  where
    go : (b : Bool) → cond b (some r) none ≡ none → b ≡ false
    go true e = let z : ◌≡◌ {A = ℕ} 0 1 = cc in absurd (omega arith)
    go false e = refl

rule_stops : (x : Step) (u : Feed x) (rs : List RealShape) → Stuck (real_rule x u) rs → StopsBecause x rs
rule_stops (put t) r rs h = let z : ◌≡◌ {A = ℕ} 0 1 = cc in absurd (omega arith)
rule_stops row u rs h = absurd (never_one real_row rs h)
rule_stops (pervading f g) u rs h = inl (stuck_tops f g rs h)
rule_stops join side rs h = absurd (never_two (keeps side) rs h)
rule_stops (validating spec) u rs h = inr (stuck_unfit spec rs h)

-- "Never lacks a shape": with at least as many real shapes as the step takes, it stops for one of the two reasons alone.
pub step_stops : (x : Step) (u : Feed x) (rs : List RealShape) → takes (opcode_of x) ≤ length rs → real_step x u rs ≡ none → StopsBecause x rs
unfolding real_step
step_stops x u rs h e = rule_stops x u rs (rule_on_stops (real_rule x u) rs (rw (real_takes x u) at h) e)

-- A step that goes on leaves as many real shapes as it leaves types.
pub step-many : (x : Step) (u : Feed x) (rs rs₁ : List RealShape) → real_step x u rs ≡ some rs₁ → length rs₁ ≡ height_past (opcode_of x) (length rs)
unfolding real_step
step-many x u rs rs₁ e = rw (real_takes x u, lays_one x) (real_rule_on_height (real_rule x u) rs rs₁ e)

-- ---- all steps

-- Where no step lacks types, the run of real shapes, as many as types, stops for these reasons alone.
pub run_stops : (xs : List Step) (f : Feeds xs) (rs : List RealShape) → Heights xs (length rs) → real_run xs f rs ≡ none → RunStopsBecause xs f rs
unfolding real_run
run_stops [] u rs h e = let z : ◌≡◌ {A = ℕ} 0 1 = cc in absurd (omega arith)
run_stops (x ∷ xs) f rs h e = go (real_step x f.0 rs) refl e (λ rs₁ k l. run_stops xs f.1 rs₁ k l)
  where
    go : (o : Option (List RealShape)) → real_step x f.0 rs ≡ o → goes_on o (λ rs₁. real_run xs f.1 rs₁) ≡ none
        → ((rs₁ : List RealShape) → Heights xs (length rs₁) → real_run xs f.1 rs₁ ≡ none → RunStopsBecause xs f.1 rs₁)
        → RunStopsBecause (x ∷ xs) f rs
    go none e₁ e₂ k = inl (step_stops x f.0 rs h.0 e₁)
    go (some rs₁) e₁ e₂ k = inr (rs₁, e₁, k rs₁ (rw (step-many x f.0 rs rs₁ e₁) h.2) e₂)

-- A run that goes through leaves as many real shapes as there are types left.
pub run-many : (xs : List Step) (f : Feeds xs) (rs left : List RealShape) → real_run xs f rs ≡ some left → length left ≡ height_after xs (length rs)
unfolding real_run
run-many [] u rs left e = let w : rs ≡ left = cc in rw (← w)
run-many (x ∷ xs) f rs left e = go (real_step x f.0 rs) refl e (λ rs₁ l. run-many xs f.1 rs₁ left l)
  where
    go : (o : Option (List RealShape)) → real_step x f.0 rs ≡ o → goes_on o (λ rs₁. real_run xs f.1 rs₁) ≡ some left
        → ((rs₁ : List RealShape) → real_run xs f.1 rs₁ ≡ some left → length left ≡ height_after xs (length rs₁))
        → length left ≡ height_after xs (height_past (opcode_of x) (length rs))
    go none e₁ e₂ k = let z : ◌≡◌ {A = ℕ} 0 1 = cc in absurd (omega arith)
    go (some rs₁) e₁ e₂ k = rw (← step-many x f.0 rs rs₁ e₁) (k rs₁ e₂)

-- ---- a well-formed sheet

module _ (s result scratch : List ℕ) (small : Bytes s) (xs : List Step) (w : WellFormed s result scratch xs) (f : Feeds xs) where
  -- "a well-formed sheet never lacks a shape"
  pub well_formed_stops : real_run xs f [] ≡ none → RunStopsBecause xs f []
  well_formed_stops e = run_stops xs f [] (well_formed-took s result scratch small xs w).1 e

  pub well_formed-many : (left : List RealShape) → real_run xs f [] ≡ some left → length left ≡ types_left xs
  well_formed-many left e = run-many xs f [] left e

-- ---- an accepted sheet

-- Steps that are worked to their end lack no types and lay down none too many.
steps-heights : (xs : List Step) (st st₁ : Stack) → length st ≤ max_stack → steps xs st ≡ gives st₁ → Heights xs (length st)
unfolding steps
steps-heights [] st st₁ h e = tt
steps-heights (x ∷ xs) st st₁ h e =
    following-gives (step x st) e λ st₂ e₁ e₂.
    let n : length st₂ ≤ max_stack = step_room x st st₂ h e₁ in
    let l : length st₂ ≡ height_past (opcode_of x) (length st) = step_height x st st₂ e₁ in
    (step-takes x st st₂ e₁, rw l at n, rw l at (steps-heights xs st₂ st₁ n e₂))

module _ (c : Check) (xs : List Step) (ts : List Ty) (m : MakesAccepted c xs ts) (f : Feeds xs) where
  worked : steps xs [] ≡ gives (reverse ts)
  worked = (left-within c.sheet xs ts m.bytes (leaves_run c xs ts m)).0

  -- "an accepted sheet never lacks a shape"
  pub accepted_stops : real_run xs f [] ≡ none → RunStopsBecause xs f []
  accepted_stops e = run_stops xs f [] (steps-heights xs [] (reverse ts) (omega arith) worked) e

  -- and what gets through it leaves as many real shapes as there are types left, whatever the conditions of demand 3
  pub accepted-many : (left : List RealShape) → real_run xs f [] ≡ some left → length left ≡ length ts
  accepted-many left e = run-many xs f [] left e ∙ sym (left-many c.sheet xs ts m.bytes (leaves_run c xs ts m))
