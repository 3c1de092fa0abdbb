-- Whole types: what stands where in those that were read.
use Rattle.std.specs.Prelude.{ℕ, ◌+◌, ◌-◌, ◌≤◌, List, ◌≡◌, length, drop}
use Rattle.std.proofs.Common.{zero-add, sym, ap}
use Rattle.model.specs.Limits.{max_depth}
use Rattle.model.specs.Types.{Scalar, Ty, ty, shape_of, scalar_of}
use Rattle.format.specs.Reader.{Bytes}
use Rattle.format.specs.Records.{write_shape, write_scalar, write_ty}
use Rattle.format.specs.Outcome.{accepted, mapped, both, lone, scalar_record}
use Rattle.format.specs.ReadWrite.{lone_parts, lone_write}
use Rattle.format.specs.Views.{stands-all}
use Rattle.record.specs.Answers.{nothing, nothings, shape_for}
use Rattle.record.specs.declared.DynShape.{DynShape}
use Rattle.record.proofs.LoneLaws.{passed-accepted, both-accepted, both-passed}
use Rattle.known.specs.Known.{TypeAt, ScalarAt, HasType, HasScalar}
use Rattle.known.proofs.KnownLaws.{scalar-behind, behind-within}
use Rattle.known.specs.Whole.{of_types, of_scalars}

-- ---- a type that was read

module _ (s : List ℕ) (small : Bytes s) where
  pub type-there : (t : Ty) → lone s ≡ accepted t → TypeAt s 0 max_depth t
  type-there t e =
      let (bytes, within) = lone_write s small t e in
      record { stands = stands-all s (write_ty t) bytes; records = within.records; few = within.few; shallow = within.shallow }

  pub has-type : mapped nothing (lone s) ≡ accepted 0 → HasType s 0 max_depth
  has-type good = passed-accepted (lone s) good λ t e. record { type = t; there = type-there t e }
  -- it reaches to the end

-- ---- its scalar, which begins at `at`

abbrev pub Begins : List ℕ → ℕ → Type 0
Begins s at = (d : ℕ) (t : Ty) → TypeAt s 0 d t → at ≡ 0 + length (write_shape (shape_of t))

module _ (s : List ℕ) (small : Bytes s) {at : ℕ} (begins : Begins s at) where
  pub record_there : (t : Ty) → lone s ≡ accepted t → drop at s ≡ write_scalar (scalar_of t)
  record_there (ty o k) e = let place : at ≡ length (write_shape o) = rw zero-add at (begins max_depth (ty o k) (type-there s small (ty o k) e)) in rw place (lone_parts s small o k e).1

  pub scalar-there : (t : Ty) → lone s ≡ accepted t → ScalarAt s at (max_depth - 1) (scalar_of t)
  scalar-there t e = scalar-behind s 0 begins max_depth t (type-there s small t e)

  pub scalar-inside : mapped nothing (lone s) ≡ accepted 0 → at ≤ length s
  scalar-inside good = behind-within s 0 begins max_depth (has-type s small good)

-- ---- the same, of what a call says of the type

module _ (s : List ℕ) (small : Bytes s) (good : mapped nothing (lone s) ≡ accepted 0) where
  pub whole-shape : (o : DynShape) → ((d : ℕ) (t : Ty) → TypeAt s 0 d t → shape_for o ≡ shape_of t) → mapped shape_of (lone s) ≡ accepted (shape_for o)
  whole-shape o is = passed-accepted (lone s) good λ t e. rw e (ap accepted (sym (is max_depth t (type-there s small t e))))

  pub whole-scalar : {at : ℕ} → Begins s at → mapped scalar_record (lone s) ≡ accepted (drop at s)
  whole-scalar {at} begins = passed-accepted (lone s) good λ t e. go t e
    where
      go : (t : Ty) → lone s ≡ accepted t → mapped scalar_record (lone s) ≡ accepted (drop at s)
      go (ty o k) e = rw e (ap accepted (sym (record_there s small begins (ty o k) e)))

-- ---- two types that were read

module _ (a b : List ℕ) (good : both nothings (lone a) (lone b) ≡ accepted 0) where
  pub first_good : mapped nothing (lone a) ≡ accepted 0
  first_good = (both-passed (lone a) (lone b) good).0

  pub second_good : mapped nothing (lone b) ≡ accepted 0
  second_good = (both-passed (lone a) (lone b) good).1

  module _ (small : Bytes a) (small' : Bytes b) where
    pub types-there : {A C : Type 0} (f : Ty → Ty → A) → ((t u : Ty) → TypeAt a 0 max_depth t → TypeAt b 0 max_depth u → of_types f a b ≡ accepted (f t u) → C) → C
    types-there f go = both-accepted (lone a) (lone b) good λ t u e g. go t u (type-there a small t e) (type-there b small' u g) (rw (e, g))

    pub has-types : HasType a 0 max_depth × HasType b 0 max_depth
    has-types = types-there (λ t u. t) λ t u h g e. (record { type = t; there = h }, record { type = u; there = g })

    module _ {i j : ℕ} (first : Begins a i) (second : Begins b j) where
      -- two scalars, their records, and what f says of them
      pub records-there :
          {A C : Type 0}
          (f : Scalar → Scalar → A) →
          ((k l : Scalar) → ScalarAt a i (max_depth - 1) k → ScalarAt b j (max_depth - 1) l → drop i a ≡ write_scalar k → drop j b ≡ write_scalar l → of_scalars f a b ≡ accepted (f k l) → C) →
          C
      records-there f go =
          both-accepted (lone a) (lone b) good λ t u e g.
          go (scalar_of t) (scalar_of u) (scalar-there a small first t e) (scalar-there b small' second u g) (record_there a small first t e) (record_there b small' second u g) (rw (e, g))

      pub scalars-there : {A C : Type 0} (f : Scalar → Scalar → A) → ((k l : Scalar) → ScalarAt a i (max_depth - 1) k → ScalarAt b j (max_depth - 1) l → of_scalars f a b ≡ accepted (f k l) → C) → C
      scalars-there f go = records-there f λ k l h g u v e. go k l h g e

      pub has-scalars : HasScalar a i (max_depth - 1) × HasScalar b j (max_depth - 1)
      has-scalars = scalars-there (λ k l. k) λ k l h g e. (record { scalar = k; there = h }, record { scalar = l; there = g })
