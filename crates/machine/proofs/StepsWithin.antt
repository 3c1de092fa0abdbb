-- The types on the stack keep every limit: what is put does, and no rule leaves them. So the types left can be written, `max_bytes`
-- suffice for each, and their bytes tell them.
use Rattle.std.specs.Prelude.{◌≤◌, max, Bool, List, [], ◌∷◌, ◌++◌, ◌≡◌, refl, length}
use Rattle.std.proofs.Common.{arith, length-append}
use Rattle.std.proofs.lemmas.List.{append_cancel_left}
use Rattle.model.specs.Refusals.{unpervaded}
use Rattle.model.specs.Types.{Ty, ty, inside, below}
use Rattle.model.specs.Within.{All, Within}
use Rattle.format.specs.Records.{write_ty}
use Rattle.format.specs.WriteRead.{write_read}
use Rattle.format.specs.Suffices.{suffices}
use Rattle.rules.specs.PervadeInSheets.{pervade_in_sheets}
use Rattle.rules.proofs.PervadeInSheetsLaws.{in_sheets_within}
use Rattle.rules.specs.Scalars.{union}
use Rattle.rules.proofs.ScalarsLaws.{union-within, union-inside, union-below}
use Rattle.rules.specs.Types.{into_row, join_types}
use Rattle.rules.proofs.RowsLaws.{into_row-within}
use Rattle.rules.proofs.TypesLaws.{join_types-within}
use Rattle.validation.specs.CheckShape.{unsided}
use Rattle.validation.specs.Validate.{validate}
use Rattle.validation.proofs.ValidateLaws.{validate-within}
use Rattle.machine.specs.SheetLimits.{result_bytes}
use Rattle.machine.specs.Steps.{Step, put, row, pervading, join, validating, StepWithin}
use Rattle.machine.specs.Run.{gives, or_refuses, Stack, pervade_types, rule_of, step, steps}
use Rattle.machine.specs.Call.{write_types}
use Rattle.machine.proofs.RunLaws.{following-gives, or_refuses-gives, aside-gives}
use Rattle.machine.proofs.RuleOn.{Makes, rule_on-makes}

-- ---- one step

pub pervade_types-within : (f g : Bool) (t u x : Ty) → Within t → Within u → pervade_types f g t u ≡ gives x → Within x
unfolding pervade_types
pervade_types-within f g (ty s k) (ty t l) x v w e =
    following-gives (or_refuses (pervade_in_sheets f g s t) unpervaded) e λ y e₁ e₂.
    or_refuses-gives (pervade_in_sheets f g s t) unpervaded e₁ λ e₃.
    let z : ty y (union k l) ≡ x = cc in
    rw (← z) record {
      records = (rw e₃ at (in_sheets_within f g s t v.records.0 w.records.0), union-within k l v.records.1 w.records.1);
      few = omega (arith, union-inside (max (inside k) (inside l)) k l (omega arith) (omega arith), v.few, w.few);
      shallow = omega (arith, union-below (max (below k) (below l)) k l (omega arith) (omega arith), v.shallow, w.shallow);
    }

rule_within : (x : Step) → StepWithin x → Makes Within (rule_of x)
rule_within (put t) w = λ y e. let z : t ≡ y = cc in rw (← z) w
rule_within row w = λ t y v e. let z : into_row t ≡ y = cc in rw (← z) (into_row-within t v)
rule_within (pervading f g) w = λ t u y v v' e. pervade_types-within f g t u y v v' e
rule_within join w = λ t u y v v' e. let z : join_types t u ≡ y = cc in rw (← z) (join_types-within t u v v')
rule_within (validating spec) w = λ t y v e. aside-gives (validate unsided spec t) e λ e₁. validate-within unsided spec t y w v e₁

step-within : (x : Step) (st st₁ : Stack) → StepWithin x → All Within st → step x st ≡ gives st₁ → All Within st₁
unfolding step
step-within x st st₁ w h e = rule_on-makes Within (rule_of x) st st₁ (rule_within x w) h e

-- ---- all steps

pub steps-within : (xs : List Step) (st st₁ : Stack) → All StepWithin xs → All Within st → steps xs st ≡ gives st₁ → All Within st₁
unfolding steps
steps-within [] st st₁ w h e = let y : st ≡ st₁ = cc in rw (← y) h
steps-within (x ∷ xs) st st₁ w h e = following-gives (step x st) e λ st₂ e₁ e₂. steps-within xs st₂ st₁ w.1 (step-within x st st₂ w.0 h e₁) e₂

-- ---- the types left, written

pub write_types-suffices : (ts : List Ty) → All Within ts → length (write_types ts) ≤ result_bytes (length ts)
unfolding write_types
write_types-suffices [] h = omega arith
write_types-suffices (t ∷ ts) h = omega (arith, length-append (write_ty t) (write_types ts), suffices t h.0, write_types-suffices ts h.1)

-- Types within the limits are told by their bytes and their number.
pub write_types-same : (ts us : List Ty) → All Within ts → All Within us → length ts ≡ length us → write_types ts ≡ write_types us → ts ≡ us
unfolding write_types
write_types-same [] [] v w n e = refl
write_types-same [] (u ∷ us) v w n e = absurd (omega arith)
write_types-same (t ∷ ts) [] v w n e = absurd (omega arith)
write_types-same (t ∷ ts) (u ∷ us) v w n e =
    let a = (write_read (write_ty t ++ write_types ts) t v.0).run 0 (write_types ts) refl in
    let b = (write_read (write_ty t ++ write_types ts) u w.0).run 0 (write_types us) e in
    let x : t ≡ u = cc in
    rw (x, write_types-same ts us v.1 w.1 (omega arith) (append_cancel_left (write_ty u) (write_types ts) (write_types us) (rw x at e)))
