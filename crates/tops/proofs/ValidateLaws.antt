-- The validation of two types whose shapes are closed and whose scalars are of a kind.
use Prim.Native.Nat.{ℕ, ◌-◌}
use native.Mathlib.Omega.{arith}
use mathlib.Core.Bool.{Bool, true, false, not}
use mathlib.Core.List.{List}
use mathlib.Core.Logic.{◌⊎◌}
use mathlib.Core.Option.{none}
use mathlib.Core.Path.{◌≡◌, refl, ◌∙◌, ap}
use Rattle.model.specs.Limits.{max_depth}
use denote.Enum.Bare.{sameb, same_false}
use Rattle.model.specs.Types as types
use Rattle.model.specs.Types.{Dim, shape, Scalar, plain, Ty, ty, shape_of}
use Rattle.format.specs.Reader.{Bytes}
use Rattle.format.specs.Records.{code, box_code, write_ty}
use Rattle.format.specs.ReadWrite.{lone_write}
use Rattle.format.specs.Outcome.{accepted, mapped, both, lone, deliver}
use Rattle.limits.specs.Codes.{code_for}
use Rattle.limits.specs.contracts.codes.Kind.{the_type}
use Rattle.limits.specs.declared.codes.Kind.{Kind}
use Rattle.limits.specs.declared.codes.Kind.TheVariants as kinds
use Rattle.lent.specs.Written.{Written, delivered, Puts, Short}
use Rattle.record.specs.Answers.{nothings}
use Rattle.record.proofs.LoneLaws.{both-accepted}
use Rattle.rules.specs.Order.{code_of}
use Rattle.rules.proofs.ViewsLaws.{is_plain}
use Rattle.validation.specs.CheckShape.{unsided}
use Rattle.validation.specs.Validate.{validate}
use Rattle.known.specs.Known.{TypeAt, ScalarAt, HasScalar, opening_of, is_closed}
use Rattle.known.proofs.KnownLaws.{closed-shape, has-scalar}
use Rattle.known.proofs.WholeLaws.{Begins, type-there, scalar-there, has-types}
use Rattle.tops.proofs.RuleLaws.{delivered-puts}
use Rattle.tops.proofs.TopLaws.{validated-within}

-- ---- a kind that was found to be other than a box

unequal : (b : Bool) → true ≡ not b → b ≡ false
unequal false e = refl
unequal true e = e

code_box : (k : Kind) → code_for k ≡ box_code → k ≡ kinds.Box
code_box kinds.Box e = refl
code_box k e = absurd (omega arith)

no_box : (k : Kind) → true ≡ not (sameb the_type k kinds.Box) → code_for k ≡ box_code → ⊥
no_box k apart e = same_false the_type k kinds.Box (unequal (sameb the_type k kinds.Box) apart) (code_box k e)

-- ---- a type by looks at its bytes

-- what a look at a scalar says of it
abbrev Coded : List ℕ → ℕ → Kind → Type 0
Coded s at x = (d : ℕ) (k : Scalar) → ScalarAt s at d k → code_for x ≡ code_of k

-- bytes that can be read as no other type than one of these sizes and of this kind
abbrev OfKind : List ℕ → List Dim → Kind → Type 0
OfKind s sizes x = (t : Ty) → lone s ≡ accepted t → (k : types.Kind) × (t ≡ ty (shape sizes none) (plain k)) × (code_for x ≡ code k)

module _ (s : List ℕ) (small : Bytes s) {sizes : List Dim} {closed : Bool}
    (opening : (d : ℕ) (t : Ty) → TypeAt s 0 d t → sizes ≡ opening_of (shape_of t))
    (says : (d : ℕ) (t : Ty) → TypeAt s 0 d t → closed ≡ is_closed (shape_of t)) (e : closed ≡ true)
    {at : ℕ} (begins : Begins s at) (x : Kind) (kind : Coded s at x) (apart : true ≡ not (sameb the_type x kinds.Box)) where
  pub of-kind : OfKind s sizes x
  unfolding code_of
  of-kind (ty p k) h =
      let shaped : p ≡ shape sizes none = closed-shape opening says max_depth (ty p k) (type-there s small (ty p k) h) e in
      let coded : code_for x ≡ code_of k = kind (max_depth - 1) k (scalar-there s small begins (ty p k) h) in
      is_plain k (λ b. no_box x apart (coded ∙ b)) λ l is. (l, rw (shaped, is), coded ∙ ap code_of is)

-- ---- two types

module _ (a b : List ℕ) (good : both nothings (lone a) (lone b) ≡ accepted 0) (small : Bytes a) (small' : Bytes b) where
  -- each has a scalar where it begins
  pub first_scalar : {i : ℕ} → Begins a i → (d : ℕ) × HasScalar a i d
  first_scalar begins = (max_depth - 1, has-scalar a 0 begins max_depth (has-types a b good small small').0)

  pub second_scalar : {j : ℕ} → Begins b j → (d : ℕ) × HasScalar b j d
  second_scalar begins = (max_depth - 1, has-scalar b 0 begins max_depth (has-types a b good small small').1)

  -- what was written of types of those sizes and kinds was written of the bytes
  module _ {o p : List Dim} (x y : Kind) (first : OfKind a o x) (second : OfKind b p y) (w : Written) (out before : List ℕ) where
    pub plain-validated :
        ((k l : types.Kind) → code_for x ≡ code k → code_for y ≡ code l
        → delivered w out ≡ deliver (mapped write_ty (validate unsided (ty (shape o none) (plain k)) (ty (shape p none) (plain l)))) before) →
        Puts w out (both (λ t u. mapped write_ty (validate unsided t u)) (lone a) (lone b)) ⊎ Short w out
    plain-validated written =
        both-accepted (lone a) (lone b) good λ t u e f.
        let (k, is, coded) = first t e in
        let (l, is', coded') = second u f in
        let here : delivered w out ≡ deliver (mapped write_ty (validate unsided t u)) before = rw (is, is') (written k l coded coded') in
        rw (e, f) (delivered-puts (validate unsided t u) w out before here (validated-within t (lone_write a small t e).1 u (lone_write b small' u f).1))
