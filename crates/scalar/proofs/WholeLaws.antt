-- Whole types that were read: what stands where in them.
use Prim.Native.Nat.{ℕ, ◌-◌}
use mathlib.Core.List.{List}
use mathlib.Core.Path.{◌≡◌}
use Rattle.model.specs.Limits.{max_depth}
use Rattle.model.specs.Types.{Scalar, Ty, ty, scalar_of}
use Rattle.format.specs.Reader.{Bytes}
use Rattle.format.specs.Outcome.{accepted, mapped, lone}
use Rattle.record.specs.Answers.{nothing}
use Rattle.record.proofs.LoneLaws.{passed-accepted}
use Rattle.rules.specs.Order.{code_of}
use Rattle.known.specs.Known.{ScalarAt, HasType, HasScalar}
use Rattle.known.proofs.WholeLaws.{Begins, has-type, record_there, scalar-there, scalar-inside}
use Rattle.scalar.specs.Whole.{WholeScalar}

module _ (s : List ℕ) (small : Bytes s) (good : mapped nothing (lone s) ≡ accepted 0) where
  pub type_known : (d : ℕ) × HasType s 0 d
  type_known = (max_depth, has-type s small good)

  pub whole_scalar : {at : ℕ} → Begins s at → WholeScalar s at
  whole_scalar {at} begins = passed-accepted (lone s) good go
    where
      go : (t : Ty) → lone s ≡ accepted t → WholeScalar s at
      go (ty o k) e =
          record {
            shape = o;
            scalar = k;
            is = e;
            there = scalar-there s small begins (ty o k) e;
            bytes = record_there s small begins (ty o k) e;
            within = scalar-inside s small begins good;
          }

-- one that stands there
pub scalar_stands : (s : List ℕ) (at d : ℕ) (k : Scalar) → ScalarAt s at d k → HasScalar s at d
scalar_stands s at d k h = record { scalar = k; there = h }

-- the kind of its scalar, by its code
pub kind_known : {s : List ℕ} {at c : ℕ} → WholeScalar s at → ((d : ℕ) (k : Scalar) → ScalarAt s at d k → c ≡ code_of k) → mapped (λ t. code_of (scalar_of t)) (lone s) ≡ accepted c
kind_known w kind = rw (w.is, kind (max_depth - 1) w.scalar w.there)
