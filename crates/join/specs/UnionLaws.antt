-- Two whole types whose union is a kind: the number of their union is its code, and its record stands behind the shape's.
use Rattle.std.specs.Prelude.{ℕ, List, ◌++◌, ◌≡◌}
use Rattle.std.proofs.Common.{sym, ◌∙◌}
use Rattle.std.proofs.Math.Path.{ap}
use Rattle.model.specs.Types.{Shape, Ty, ty, scalar_of}
use Rattle.format.specs.Records.{write_shape, write_scalar, write_ty}
use Rattle.format.specs.Outcome.{Outcome, accepted, refused, both, lone}
use Rattle.rules.specs.Scalars.{union}
use Rattle.rules.specs.KindTable.{contents_decide, union_number}
use Rattle.rules.proofs.KindTableLaws.{kind_united}
use Rattle.known.specs.Whole.{of_scalars}
use Rattle.writer.specs.Kinds.{kind_record}

module _ (a b : List ℕ) {n : ℕ} (says : of_scalars union_number a b ≡ accepted n) (apart : n ≡ contents_decide → ⊥) (s : Shape) where
  -- a shape with the union of their scalars
  pub union-plain : of_scalars (λ k l. write_ty (ty s (union k l))) a b ≡ accepted (write_shape s ++ kind_record n)
  unfolding write_ty write_scalar
  union-plain = go (lone a) (lone b) says
    where
      go : (x y : Outcome Ty) → both (λ t u. accepted (union_number (scalar_of t) (scalar_of u))) x y ≡ accepted n → both (λ t u. accepted (write_ty (ty s (union (scalar_of t) (scalar_of u))))) x y ≡ accepted (write_shape s ++ kind_record n)
      go (accepted t) (accepted u) e =
          let same : union_number (scalar_of t) (scalar_of u) ≡ n = cc in
          let kind = kind_united (scalar_of t) (scalar_of u) (λ f. apart (sym same ∙ f)) in
          ap (λ w. accepted (write_shape s ++ w)) (ap write_scalar kind.is ∙ ap kind_record (sym kind.coded ∙ same))
      go (accepted t) (refused k p) e = cc
      go (refused k p) y e = cc
