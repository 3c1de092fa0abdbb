-- The first half of demand 3, from lists of steps to what the call leaves, counted from the bottom.
use Rattle.std.specs.Prelude.{ℕ, zero, suc, ◌≡◌, refl, length}
use Rattle.std.proofs.Common.{arith, ap}
use mathlib.Core.List.{List, [], ◌∷◌, reverse, reverse_aux, reverse-reverse}
use Rattle.std.proofs.Math.Option.{some}
use Rattle.std.proofs.Math.ListN.{get_elem?}
use Rattle.model.specs.Types.{Ty}
use Rattle.machine.specs.Steps.{Step}
use Rattle.machine.specs.Run.{Stack}
use Rattle.machine.specs.Real.{RealShape, Holds, Feeds, Through}
use Rattle.machine.proofs.Sheets.{left-within}
use Rattle.holding.proofs.StepsHold.{AllHold, steps_hold}
use Rattle.demand.specs.Claims.{Check, MakesAccepted, FirstConditions, EachHolds}
use Rattle.demand.proofs.Calls.{leaves_run}

-- ---- from the bottom

abbrev EachBeside : List Ty → List RealShape → Type 0
EachBeside [] [] = Unit {0}
EachBeside [] (r ∷ rs) = ⊥
EachBeside (t ∷ ts) [] = ⊥
EachBeside (t ∷ ts) (r ∷ rs) = Holds t r × EachBeside ts rs

beside_reversed : (st : Stack) (rs : List RealShape) (ts : List Ty) (qs : List RealShape) → AllHold st rs → EachBeside ts qs → EachBeside (reverse_aux st ts) (reverse_aux rs qs)
beside_reversed [] [] ts qs h k = k
beside_reversed [] (r ∷ rs) ts qs h k = absurd h
beside_reversed (t ∷ st) [] ts qs h k = absurd h
beside_reversed (t ∷ st) (r ∷ rs) ts qs h k = beside_reversed st rs (t ∷ ts) (r ∷ qs) h.1 (h.0.0, k)

beside-length : (ts : List Ty) (rs : List RealShape) → EachBeside ts rs → length ts ≡ length rs
beside-length [] [] h = refl
beside-length [] (r ∷ rs) h = absurd h
beside-length (t ∷ ts) [] h = absurd h
beside-length (t ∷ ts) (r ∷ rs) h = ap suc (beside-length ts rs h.1)

beside-nth : (ts : List Ty) (rs : List RealShape) → EachBeside ts rs → (n : ℕ) (t : Ty) (r : RealShape) → get_elem? ts n ≡ some t → get_elem? rs n ≡ some r → Holds t r
beside-nth [] [] h n t r e f = let z : ◌≡◌ {A = ℕ} 0 1 = cc in absurd (omega arith)
beside-nth [] (q ∷ rs) h n t r e f = absurd h
beside-nth (u ∷ ts) [] h n t r e f = absurd h
beside-nth (u ∷ ts) (q ∷ rs) h zero t r e f =
    let w : u ≡ t = cc in
    let v : q ≡ r = cc in
    rw (← w, ← v) h.0
beside-nth (u ∷ ts) (q ∷ rs) h (suc n) t r e f = beside-nth ts rs h.1 n t r e f

each_holds : (st : Stack) (rs : List RealShape) → AllHold st rs → EachHolds (reverse st) (reverse rs)
each_holds st rs h =
    let b = beside_reversed st rs [] [] h tt in
    record { equally-many = beside-length (reverse st) (reverse rs) b; nth = beside-nth (reverse st) (reverse rs) b }

-- Where types and real shapes are told bottom first, and lie on the two stacks the other way round.
bottom_holds : (ts : List Ty) (rs : List RealShape) → AllHold (reverse ts) (reverse rs) → EachHolds ts rs
bottom_holds ts rs h = rw (← reverse-reverse ts, ← reverse-reverse rs) (each_holds (reverse ts) (reverse rs) h)

-- ---- the types left

pub types_hold : (c : Check) (xs : List Step) (ts : List Ty) → MakesAccepted c xs ts → FirstConditions xs → (f : Feeds xs) (left : List RealShape) → Through xs f left → EachHolds ts left
types_hold c xs ts m k f left t =
    let worked = (left-within c.sheet xs ts m.bytes (leaves_run c xs ts m)).0 in
    bottom_holds ts left
    (steps_hold xs [] (reverse ts) f [] (reverse left) k.names-no-closing k.joins-alike t.fit tt worked t.run)
