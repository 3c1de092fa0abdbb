-- The join of two types by their shapes and their scalars.
use Prim.Native.Nat.{ℕ}
use mathlib.Core.Bool.{Bool, true}
use mathlib.Core.List.{List, ◌++◌}
use mathlib.Core.Logic.{◌⊎◌, ⊎_elim, ⊎_map}
use mathlib.Core.Option.{none, some}
use mathlib.Core.Path.{◌≡◌, refl, sym, ◌∙◌, ap}
use Rattle.model.specs.Limits.{max_depth}
use Rattle.model.specs.Types.{Dim, Shape, shape, Scalar, Ty, ty, shape_of, scalar_of}
use Rattle.format.specs.Reader.{Bytes}
use Rattle.format.specs.Records.{write_shape, write_scalar, write_ty}
use Rattle.format.specs.Outcome.{Outcome, accepted, refused, mapped, both, lone}
use Rattle.format.specs.Views.{rest-is}
use Rattle.record.specs.Answers.{nothings, dims_of, shape_for}
use Rattle.record.specs.declared.Dims.{Dims}
use Rattle.record.specs.declared.DynShape.{DynShape}
use Rattle.record.proofs.LoneLaws.{both-accepted}
use Rattle.rules.specs.Order.{code_of}
use Rattle.rules.specs.Shapes.{join_dims, join_closing, join_shapes}
use Rattle.rules.specs.Scalars.{union}
use Rattle.rules.specs.KindTable.{contents_decide, union_number}
use Rattle.rules.specs.Types.{join_types}
use Rattle.known.specs.Known.{TypeAt, HasType, opening_of, is_closed}
use Rattle.known.specs.Whole.{of_scalars}
use Rattle.known.proofs.WholeLaws.{type-there, has-type, first_good, second_good, whole-shape}
use Rattle.writer.specs.Kinds.{closed_record}
use Rattle.join.specs.Calls.{join_call}
use Rattle.join.specs.ShapesLaws.{by-scalars}
use Rattle.join.specs.UnionLaws.{union-plain}

-- ---- the union of their scalars

-- by the table's number for the kinds of both
pub union_known :
    (a b : List ℕ) {x y n : ℕ} →
    mapped (λ t. code_of (scalar_of t)) (lone a) ≡ accepted x →
    mapped (λ t. code_of (scalar_of t)) (lone b) ≡ accepted y →
    ((k l : Scalar) → x ≡ code_of k → y ≡ code_of l → n ≡ union_number k l) →
    of_scalars union_number a b ≡ accepted n
union_known a b {x} {y} {n} = go (lone a) (lone b)
  where
    go :
        (r q : Outcome Ty) →
        mapped (λ t. code_of (scalar_of t)) r ≡ accepted x →
        mapped (λ t. code_of (scalar_of t)) q ≡ accepted y →
        ((k l : Scalar) → x ≡ code_of k → y ≡ code_of l → n ≡ union_number k l) →
        both (λ t u. accepted (union_number (scalar_of t) (scalar_of u))) r q ≡ accepted n
    go (accepted t) (accepted u) e f found = let i : x ≡ code_of (scalar_of t) = cc in let j : y ≡ code_of (scalar_of u) = cc in ap accepted (sym (found (scalar_of t) (scalar_of u) i j))
    go (accepted t) (refused k p) e f found = cc
    go (refused k p) q e f found = cc

-- a shape and its record
pub union_behind : (a b : List ℕ) (s : Shape) {w : List ℕ} →
    of_scalars (λ k l. write_scalar (union k l)) a b ≡ accepted w →
    of_scalars (λ k l. write_ty (ty s (union k l))) a b ≡ accepted (write_shape s ++ w)
unfolding write_ty
union_behind a b s {w} = go (lone a) (lone b)
  where
    go : (r q : Outcome Ty) →
        both (λ t u. accepted (write_scalar (union (scalar_of t) (scalar_of u)))) r q ≡ accepted w →
        both (λ t u. accepted (write_shape s ++ write_scalar (union (scalar_of t) (scalar_of u)))) r q ≡ accepted (write_shape s ++ w)
    go (accepted t) (accepted u) e = let same : write_scalar (union (scalar_of t) (scalar_of u)) ≡ w = cc in rw same
    go (accepted t) (refused k p) e = cc
    go (refused k p) q e = cc

pub ruleset united = (rest-is, union_behind)

-- ---- two types that are known

module _ (a b : List ℕ) (good : both nothings (lone a) (lone b) ≡ accepted 0) where
  pub first_known : Bytes a → (d : ℕ) × HasType a 0 d
  first_known small = (max_depth, has-type a small (first_good a b good))

  pub second_known : Bytes b → (d : ℕ) × HasType b 0 d
  second_known small = (max_depth, has-type b small (second_good a b good))

pub ruleset both_known = (first_known, second_known)

-- where one of two shapes is closed, so is their join
closed-join : (s r : Shape) → (is_closed s ≡ true) ⊎ (is_closed r ≡ true) → join_shapes s r ≡ shape (join_dims (opening_of s) (opening_of r)) none
unfolding join_shapes join_closing
closed-join (shape o none) r h = go r
  where
    go : (r : Shape) → join_shapes (shape o none) r ≡ shape (join_dims o (opening_of r)) none
    go (shape p d) = refl
closed-join (shape o (some c)) (shape p none) h = refl
closed-join (shape o (some c)) (shape p (some d)) h = ⊎_elim (λ e. cc) (λ e. cc) h

-- a type whose shape is closed
abbrev pub Closed : List ℕ → Type 0
Closed s = (d : ℕ) (t : Ty) → TypeAt s 0 d t → is_closed (shape_of t) ≡ true

pub closed_type : (s : List ℕ) {x : Bool} → x ≡ true → ((d : ℕ) (t : Ty) → TypeAt s 0 d t → x ≡ is_closed (shape_of t)) → Closed s
closed_type s e says d t h = sym (says d t h) ∙ e

module _ (a b : List ℕ) (good : both nothings (lone a) (lone b) ≡ accepted 0) (small : Bytes a) (small' : Bytes b) where
  -- the join of two types whose shapes are o and p
  pub joined :
      (o p : DynShape) →
      ((d : ℕ) (t : Ty) → TypeAt a 0 d t → shape_for o ≡ shape_of t) →
      ((d : ℕ) (t : Ty) → TypeAt b 0 d t → shape_for p ≡ shape_of t) →
      (s : Shape) →
      s ≡ join_shapes (shape_for o) (shape_for p) →
      join_call a b ≡ of_scalars (λ k l. write_ty (ty s (union k l))) a b
  unfolding join_types
  joined o p one two s is =
      let first = whole-shape a small (first_good a b good) o one in
      let second = whole-shape b small' (second_good a b good) p two in
      by-scalars (lone a) (lone b) first second (λ t u. accepted (write_ty (join_types t u))) (λ k l. accepted (write_ty (ty s (union k l)))) (λ k l. ap (λ r. accepted (write_ty (ty r (union k l)))) (sym is))

  -- the join of two types with the opening sizes o and p, one of whose shapes is closed, where the union of their scalars is the kind n
  module _ {n : ℕ} (says : of_scalars union_number a b ≡ accepted n) (apart : n ≡ contents_decide → ⊥) (o p : Dims) where
    pub joined-closed :
        Closed a ⊎ Closed b →
        ((d : ℕ) (t : Ty) → TypeAt a 0 d t → dims_of o ≡ opening_of (shape_of t)) →
        ((d : ℕ) (t : Ty) → TypeAt b 0 d t → dims_of p ≡ opening_of (shape_of t)) →
        (r : List Dim) →
        r ≡ join_dims (dims_of o) (dims_of p) →
        join_call a b ≡ accepted (closed_record r n)
    unfolding join_types
    joined-closed closed first second r is = by-types ∙ union-plain a b says apart (shape r none)
      where
        shapes : (t u : Ty) → TypeAt a 0 max_depth t → TypeAt b 0 max_depth u → join_shapes (shape_of t) (shape_of u) ≡ shape r none
        shapes t u h g =
            closed-join (shape_of t) (shape_of u) (⊎_map (λ f. f max_depth t h) (λ f. f max_depth u g) closed)
            ∙ ap (λ ds. shape ds none) (sym (is ∙ rw (first max_depth t h, second max_depth u g)))

        by-types : join_call a b ≡ of_scalars (λ k l. write_ty (ty (shape r none) (union k l))) a b
        by-types = both-accepted (lone a) (lone b) good λ t u e g. rw (e, g) (go t u (shapes t u (type-there a small t e) (type-there b small' u g)))
          where
            go : (t u : Ty) → join_shapes (shape_of t) (shape_of u) ≡ shape r none → accepted (write_ty (join_types t u)) ≡ accepted (write_ty (ty (shape r none) (union (scalar_of t) (scalar_of u))))
            go (ty s k) (ty q l) e = ap (λ x. accepted (write_ty (ty x (union k l)))) e
