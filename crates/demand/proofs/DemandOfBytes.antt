-- The first half of demand 3 of any bytes: what is accepted is the sheet of a list of steps, so the claim of lists is one of bytes.
use Rattle.std.specs.Prelude.{List}
use Rattle.model.specs.Types.{Ty}
use Rattle.format.specs.Reader.{Bytes}
use Rattle.machine.specs.Steps.{Step}
use Rattle.machine.specs.Real.{RealShape, Feeds, Through}
use Rattle.demand.specs.Claims.{Check, IsAccepted, MakesAccepted, FirstConditions, EachHolds}
use Rattle.demand.proofs.Words.{accepted-sheet}
use Rattle.demand.proofs.Demand.{first-half}

-- The same of any bytes that the call accepts: they are those of such a list.
pub first-half-of-bytes : (c : Check) → Bytes c.sheet → IsAccepted c
    → (xs : List Step) × (ts : List Ty) × MakesAccepted c xs ts
    × (FirstConditions xs → (f : Feeds xs) (left : List RealShape) → Through xs f left → EachHolds ts left)
first-half-of-bytes c small a =
    let (xs, ts, m, worked) = accepted-sheet c small a in
    (xs, ts, m, first-half c xs ts m)
