-- What the answers of this crate say, in the terms of the definitions.
use Rattle.std.specs.Prelude.{ℕ, ◌+◌, ◌*◌, cond, List, map, take, get_or, ◌≡◌, Result, Ok, Err}
use Rattle.std.proofs.Math.Option.{Option, none, some}
use Rattle.model.specs.Types.{Dim, Shape, shape}
use Rattle.format.specs.Reader.{Read, got, stopped}
use Rattle.format.specs.Records.{dim_of}
use Rattle.format.specs.Outcome as format
use Rattle.format.specs.Outcome.{Outcome, accepted, mapped}
use Rattle.limits.specs.Answers.{number_of, told}
use Rattle.limits.specs.declared.refusal.Refusal.{Refusal}
use Rattle.record.specs.declared.Misread.{Misread}
use Rattle.record.specs.declared.Misread.TheVariants.{First, Second}
use Rattle.record.specs.declared.Dims.{Dims}
use Rattle.record.specs.declared.DynShape.{DynShape}

-- a value with the place after it
abbrev pub reading_of : Result (ℕ × ℕ) Refusal → Read ℕ
reading_of (Ok r) = got r.0 r.1
reading_of (Err r) = stopped (number_of r.0) r.1

-- for what is passed over, the value is 0
abbrev pub nothing : {A : Type 0} → A → ℕ
nothing a = 0

-- the place after what is passed over
abbrev pub passing_of : Result ℕ Refusal → Read ℕ
passing_of (Ok next) = got 0 next
passing_of (Err r) = stopped (number_of r.0) r.1

abbrev pub nothings : {A B : Type 0} → A → B → Outcome ℕ
nothings a b = accepted 0

-- eight bytes from a place on, low byte first
abbrev pub eight_bytes : List ℕ → ℕ → ℕ
eight_bytes s at =
    get_or s at 0 + 256 * (get_or s (at + 1) 0 + 256 * (get_or s (at + 2) 0 + 256 * (get_or s (at + 3) 0 + 256 * (get_or s (at + 4) 0 + 256 * (get_or s (at + 5) 0 + 256 * (get_or s (at + 6) 0 + 256 * get_or s (at + 7) 0))))))

abbrev pub dims_of : Dims → List Dim
dims_of d = map dim_of (take d.count d.sizes)

-- `none` where the shape is closed
abbrev pub closing_for : DynShape → Option (List Dim)
closing_for s = cond s.closed none (some (dims_of s.suffix))

abbrev pub shape_for : DynShape → Shape
shape_for s = shape (dims_of s.dims) (closing_for s)

abbrev pub lone_of : Result (Unit {0}) Refusal → Outcome ℕ
lone_of r = mapped nothing (told r)

abbrev pub two_of : Result (Unit {0}) Misread → format.Refusal
two_of (Ok u) = format.unrefused
two_of (Err (First r)) = format.first (number_of r.0) r.1
two_of (Err (Second r)) = format.second (number_of r.0) r.1

-- the refusal, whichever of two inputs it is of
abbrev pub refusal_in : Misread → Refusal
refusal_in (First r) = r
refusal_in (Second r) = r

abbrev pub Misreads : Misread → Refusal → Type 0
Misreads m r = r ≡ refusal_in m
