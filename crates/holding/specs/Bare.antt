-- Shapes that name no closing size: closed or open, and no more. What they say of a real shape is said by their opening sizes and
-- by whether more may follow.
use Rattle.std.specs.Prelude.{Bool, true, false, List, [], ◌∷◌, ◌≡◌, refl}
use Rattle.std.proofs.Common.{append-nil, sym}
use Rattle.std.proofs.Math.Option.{Option, none, some}
use Rattle.model.specs.Types.{Dim, Shape, shape}
use Rattle.rules.specs.Shapes.{is_open}
use Rattle.machine.specs.Real.{RealShape, fits}
use Rattle.holding.specs.Fitting.{Fit, Fits, fits-of, of-fits}

-- names no closing size
abbrev pub BareClosing : Option (List Dim) → Type 0
BareClosing none = Unit {0}
BareClosing (some []) = Unit {0}
BareClosing (some (d ∷ c)) = ⊥

abbrev pub Bare : Shape → Type 0
Bare (shape o c) = BareClosing c

-- nothing more, unless more may follow
abbrev pub Rest : Bool → RealShape → Type 0
Rest true r = Unit {0}
Rest false [] = Unit {0}
Rest false (n ∷ r) = ⊥

abbrev pub StartsWith : Bool → List Dim → RealShape → Type 0
StartsWith a [] r = Rest a r
StartsWith a (d ∷ o) [] = ⊥
StartsWith a (d ∷ o) (n ∷ r) = Fit d n × StartsWith a o r

begins_fits : (c : Option (List Dim)) (o : List Dim) (r : RealShape) → Fits o c r → StartsWith (is_open c) o r
begins_fits none [] r h = rw h tt
begins_fits (some c) [] r h = tt
begins_fits c (d ∷ o) [] h = absurd h
begins_fits c (d ∷ o) (n ∷ r) h = (h.0, begins_fits c o r h.1)

fits_begins : (c : Option (List Dim)) → BareClosing c → (o : List Dim) (r : RealShape) → StartsWith (is_open c) o r → Fits o c r
fits_begins none u [] [] h = refl
fits_begins none u [] (n ∷ r) h = absurd h
fits_begins (some []) u [] r h = (r, [], sym (append-nil r), tt)
fits_begins (some (x ∷ c)) u [] r h = absurd u
fits_begins c u (d ∷ o) [] h = absurd h
fits_begins c u (d ∷ o) (n ∷ r) h = (h.0, fits_begins c u o r h.1)

-- Both ways, of the test.
pub begins_of : (o : List Dim) (c : Option (List Dim)) (r : RealShape) → fits (shape o c) r ≡ true → StartsWith (is_open c) o r
begins_of o c r h = begins_fits c o r (fits-of o c r h)

pub of_begins : (o : List Dim) (c : Option (List Dim)) (r : RealShape) → BareClosing c → StartsWith (is_open c) o r → fits (shape o c) r ≡ true
of_begins o c r u h = of-fits o c r (fits_begins c u o r h)
