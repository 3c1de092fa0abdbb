-- The types on top: what is asked for before a rule is worked on them, and what it makes of them, none of which leaves the limits.
use Prim.Native.Nat.{ℕ, ◌+◌, ◌-◌, ◌≤◌, ◌<◌}
use native.Mathlib.Omega.{arith}
use mathlib.Core.Bool.{Bool}
use mathlib.Core.List.{List, [], ◌∷◌}
use mathlib.Core.Logic.{◌⊎◌}
use mathlib.Core.Path.{◌≡◌, refl, ◌∙◌, ap, subst}
use lib.ListN.{length}
use Rattle.model.specs.Types.{Ty}
use Rattle.model.specs.Within.{Within}
use Rattle.format.specs.Records.{write_ty}
use Rattle.format.specs.WriteRead.{write_lone}
use Rattle.format.specs.Outcome.{accepted, mapped, both, lone, deliver}
use Rattle.lent.specs.Written.{Written, delivered, Puts, Short}
use Rattle.record.specs.Answers.{nothing, nothings}
use Rattle.rules.proofs.RowsLaws.{into_row-within}
use Rattle.rules.specs.Types.{into_row, join_types}
use Rattle.rules.proofs.TypesLaws.{join_types-within}
use Rattle.validation.specs.CheckShape.{unsided}
use Rattle.validation.specs.Validate.{validate}
use Rattle.validation.proofs.ValidateLaws.{validate-within}
use Rattle.machine.specs.Run.{Ruling, gives, refuses, Stack, pervade_types}
use Rattle.machine.proofs.StepsWithin.{pervade_types-within}
use Rattle.stack.specs.Stack.{Memory, memory, Lies, HasOne, Stacked, NotPacked}
use Rattle.stack.proofs.StackLaws.{stacked-count, stacked_top, stacked-below, one_at}
use Rattle.tops.specs.Answers.{Workable, OfTop, OfTwo, at_start}
use Rattle.tops.proofs.RuleLaws.{delivered-puts}

-- ---- none leaves the limits

pub row_within : (t : Ty) → Within t → (x : Ty) → accepted (into_row t) ≡ accepted x → Within x
row_within t v x is = let y : into_row t ≡ x = cc in rw (← y) (into_row-within t v)

pub join-within : (t u : Ty) → Within t → Within u → (x : Ty) → accepted (join_types t u) ≡ accepted x → Within x
join-within t u v w x is = let y : join_types t u ≡ x = cc in rw (← y) (join_types-within t u v w)

started : {A : Type 0} (a : Ruling A) {x : A} → at_start a ≡ accepted x → a ≡ gives x
started (gives y) e = ap gives (cc)
started (refuses k) e = let z : ◌≡◌ {A = ℕ} 0 1 = cc in absurd (omega arith)

pub pervade-within : (f g : Bool) (t u : Ty) → Within t → Within u → (x : Ty) → at_start (pervade_types f g t u) ≡ accepted x → Within x
pervade-within f g t u v w x is = pervade_types-within f g t u x v w (started (pervade_types f g t u) is)

pub validated-within : (spec : Ty) → Within spec → (t : Ty) → Within t → (x : Ty) → validate unsided spec t ≡ accepted x → Within x
validated-within spec v t w x is = validate-within unsided spec t x v w is

-- ---- the types on top

module _ {m : Memory} {count : ℕ} where
  pub has_one : {C : Type 0} (ts : Stack) → Stacked m count ts → 1 ≤ count → ((t : Ty) (us : Stack) → ts ≡ t ∷ us → C) → C
  has_one [] h n f = absurd (omega (arith, stacked-count m count h))
  has_one (t ∷ us) h n f = f t us refl

  pub has-two : {C : Type 0} (ts : Stack) → Stacked m count ts → 2 ≤ count → ((t u : Ty) (us : Stack) → ts ≡ t ∷ u ∷ us → C) → C
  has-two [] h n f = absurd (omega (arith, stacked-count m count h))
  has-two (t ∷ []) h n f = absurd (omega (arith, stacked-count m count h))
  has-two (t ∷ u ∷ us) h n f = f t u us refl

-- bytes that are a type's are a lone type
bytes-lone : {w : List ℕ} {t : Ty} → w ≡ write_ty t → Within t → lone w ≡ accepted t
bytes-lone {w} {t} e within = ap lone e ∙ write_lone t within

-- where they lie, and bytes that are the record of the k-th type wherever the scratch is
module _ (ends lengths s trays : List ℕ) (count : ℕ) where
  abbrev pub WorkableHere : ℕ → Type 0
  WorkableHere few = (d : List ℕ) × Workable few (memory ends lengths s trays d) count

  abbrev pub Record : ℕ → List ℕ → Type 0
  Record k w = (d : List ℕ) (t : Ty) → Lies (memory ends lengths s trays d) k t → w ≡ write_ty t

  -- what the stack asks for before it hands out the record of one of so many on top
  abbrev pub There : ℕ → Type 0
  There k = ((d : List ℕ) × HasOne (memory ends lengths s trays d) k) × NotPacked ends k × (k < length ends) × (k < length lengths)

  record_there : {few : ℕ} → WorkableHere few → (k : ℕ) → k < count → count ≤ k + few → There k
  record_there (d, ready) k less high =
      let st = ready.has.stacked in
      ((d, one_at (memory ends lengths s trays d) count k less ready.has), ready.unpacked k less high, omega (arith, st.ended, st.few), omega (arith, st.measured, st.few))

  pub alone_there : WorkableHere 1 → There (count - 1)
  alone_there ready = record_there ready (count - 1) (omega (arith, ready.1.enough)) (omega arith)

  pub top_there : WorkableHere 2 → There (count - 1)
  top_there ready = record_there ready (count - 1) (omega (arith, ready.1.enough)) (omega arith)

  pub below_there : WorkableHere 2 → There (count - 2)
  below_there ready = record_there ready (count - 2) (omega (arith, ready.1.enough)) (omega arith)

  -- bytes that are the record of the type on top, or of the one below, are that type
  module _ {a : List ℕ} (top : Record (count - 1) a) where
    top_lone : (d : List ℕ) (t : Ty) (ts : Stack) → Stacked (memory ends lengths s trays d) count (t ∷ ts) → lone a ≡ accepted t
    top_lone d t ts h = let l = stacked_top (memory ends lengths s trays d) count h in bytes-lone (top d t l) l.within

    pub good_top : WorkableHere 1 → mapped nothing (lone a) ≡ accepted 0
    good_top (d, ready) = has_one ready.has.types ready.has.stacked ready.enough λ t us e. rw (top_lone d t us (rw e at ready.has.stacked))

    pub good_by : (b : List ℕ) → (x : Ty) × (lone b ≡ accepted x) → WorkableHere 1 → both nothings (lone b) (lone a) ≡ accepted 0
    good_by b (x, is) (d, ready) = has_one ready.has.types ready.has.stacked ready.enough λ t us e. rw (is, top_lone d t us (rw e at ready.has.stacked))

    -- what a rule makes of the type on top
    pub row_of_top : (w : Written) (out before : List ℕ) → delivered w out ≡ deliver (mapped (λ t. write_ty (into_row t)) (lone a)) before
        → (d : List ℕ) → OfTop (λ t. accepted (into_row t)) (memory ends lengths s trays d) count w out
    row_of_top w out before made d t ts h =
        delivered-puts (accepted (into_row t)) w out before (made ∙ rw (top_lone d t ts h))
        (row_within t (stacked_top (memory ends lengths s trays d) count h).within)

    pub validated_of_top : (b : List ℕ) (w : Written) (out : List ℕ) → Puts w out (both (λ s t. mapped write_ty (validate unsided s t)) (lone b) (lone a)) ⊎ Short w out
        → (x : Ty) (d : List ℕ) → lone b ≡ accepted x → OfTop (λ t. validate unsided x t) (memory ends lengths s trays d) count w out
    validated_of_top b w out made x d is t ts h = subst (λ o. Puts w out o ⊎ Short w out) (rw (is, top_lone d t ts h)) made

    module _ {b : List ℕ} (below : Record (count - 2) b) where
      below-lone : (d : List ℕ) (t u : Ty) (ts : Stack) → Stacked (memory ends lengths s trays d) count (t ∷ u ∷ ts) → lone b ≡ accepted u
      below-lone d t u ts h = let l = stacked-below (memory ends lengths s trays d) count h in bytes-lone (below d u l) l.within

      pub good_two : WorkableHere 2 → both nothings (lone a) (lone b) ≡ accepted 0
      good_two (d, ready) =
          has-two ready.has.types ready.has.stacked ready.enough λ t u us e.
          let h = rw e at ready.has.stacked in
          rw (top_lone d t (u ∷ us) h, below-lone d t u us h)

      -- what a rule makes of the two
      pub join_of_two : (w : Written) (out before : List ℕ) → delivered w out ≡ deliver (both (λ t u. accepted (write_ty (join_types t u))) (lone a) (lone b)) before
          → (d : List ℕ) → OfTwo (λ t u. accepted (join_types t u)) (memory ends lengths s trays d) count w out
      join_of_two w out before made d t u ts h =
          let m = memory ends lengths s trays d in
          delivered-puts (accepted (join_types t u)) w out before (made ∙ rw (top_lone d t (u ∷ ts) h, below-lone d t u ts h))
          (join-within t u (stacked_top m count h).within (stacked-below m count h).within)

      pub pervading_of_two : (f g : Bool) (w : Written) (out before : List ℕ)
          → delivered w out ≡ deliver (both (λ t u. mapped write_ty (at_start (pervade_types f g t u))) (lone a) (lone b)) before
          → (d : List ℕ) → OfTwo (λ t u. at_start (pervade_types f g t u)) (memory ends lengths s trays d) count w out
      pervading_of_two f g w out before made d t u ts h =
          let m = memory ends lengths s trays d in
          delivered-puts (at_start (pervade_types f g t u)) w out before (made ∙ rw (top_lone d t (u ∷ ts) h, below-lone d t u ts h))
          (pervade-within f g t u (stacked_top m count h).within (stacked-below m count h).within)
