-- Whether two scalars are compatible, and which their union is: by kind, or by the contents of two All boxes.
use Prim.Native.Nat.{ℕ}
use mathlib.Core.Bool.{Bool, true, false, cond}
use mathlib.Core.List.{List}
use mathlib.Core.Logic.{◌⊎◌, inl, inr}
use mathlib.Core.Path.{◌≡◌, refl, sym}
use Rattle.model.specs.Types.{Shape, Scalar, plain, box_any, box_all, box_def, Ty, ty, box_of, shape_of, scalar_of}
use Rattle.format.specs.Records.{box_code}
use Rattle.rules.specs.Order.{code_of}
use Rattle.rules.specs.Shapes.{Compatibility, compatible_with, is_yes, compatible_shapes}
use Rattle.rules.specs.Scalars.{compatible_codes, superset_of, compatible_scalars, compatible_with_boxes, wider, later_ty, union}
use Rattle.rules.proofs.ScalarsLaws.{superset_codes-refl}
use Rattle.known.specs.Known.{TypeAt, HasType}
use Rattle.scalar.specs.Calls.{chosen_of, AllAt, NoAll, compatible_contents}
use Rattle.scalar.specs.declared.Chosen.{Chosen}

-- ---- by kind, where not both are All

module _ (k l : Scalar) where
  apart : NoAll k ⊎ NoAll l → (compatible_with_boxes k l ≡ compatible_scalars k l) × (union k l ≡ wider k l)
  unfolding compatible_with_boxes union
  apart n = go k l n
    where
      go : (k l : Scalar) → NoAll k ⊎ NoAll l → (compatible_with_boxes k l ≡ compatible_scalars k l) × (union k l ≡ wider k l)
      go (plain k) l n = (refl, refl)
      go box_any l n = (refl, refl)
      go (box_def m f) l n = (refl, refl)
      go (box_all s k) (plain l) n = (refl, refl)
      go (box_all s k) box_any n = (refl, refl)
      go (box_all s k) (box_def m f) n = (refl, refl)
      go (box_all s k) (box_all t l) (inl n) = absurd n
      go (box_all s k) (box_all t l) (inr n) = absurd n

  pub kinds_compatible : NoAll k ⊎ NoAll l → {x y : ℕ} → x ≡ code_of k → y ≡ code_of l → compatible_codes x y ≡ compatible_with_boxes k l
  unfolding compatible_scalars
  kinds_compatible n e f = rw (e, f) (sym (apart n).0)

  -- of two boxes the first, which is over any box
  pub first_stays : NoAll k ⊎ NoAll l → code_of k ≡ box_code → code_of l ≡ box_code → k ≡ union k l
  unfolding superset_of
  first_stays n e f = rw ((apart n).1, e, f, superset_codes-refl box_code)

-- ---- by content, where both are

module _ {a : List ℕ} {d : ℕ} {k : Scalar} {c : ℕ} (first : AllAt a d k c) where
  pub all_coded : box_code ≡ code_of k
  unfolding code_of
  all_coded = rw first.is

  pub content_there : HasType a c d
  content_there = record { type = ty first.shape first.scalar; there = first.there }

  module _ {b : List ℕ} {l : Scalar} {m : ℕ} (second : AllAt b d l m) where
    pub all_compatible : {r : Bool} → ((t u : Ty) → TypeAt a c d t → TypeAt b m d u → r ≡ compatible_contents t u) → r ≡ compatible_with_boxes k l
    unfolding compatible_with_boxes
    all_compatible call = rw (first.is, second.is) (call (ty first.shape first.scalar) (ty second.shape second.scalar) first.there second.there)

    pub all_united : (r : Chosen) → ((t u : Ty) → TypeAt a c d t → TypeAt b m d u → chosen_of r (box_of t) (box_of u) ≡ cond (compatible_contents t u) (box_of (later_ty t u)) box_any) → chosen_of r k l ≡ union k l
    unfolding union
    all_united r call = rw (first.is, second.is) (call (ty first.shape first.scalar) (ty second.shape second.scalar) first.there second.there)

-- ---- two contents

module _ (t u : Ty) where
  pub scalars_apart : {r : Bool} → r ≡ false → r ≡ compatible_with_boxes (scalar_of t) (scalar_of u) → r ≡ compatible_contents t u
  scalars_apart f e = rw (← e, f)

  pub shapes_decide : true ≡ compatible_with_boxes (scalar_of t) (scalar_of u) → {o p : Shape} → o ≡ shape_of t → p ≡ shape_of u → {c : Compatibility} → c ≡ compatible_with o p → {r : Bool} → r ≡ is_yes c → r ≡ compatible_contents t u
  unfolding compatible_shapes
  shapes_decide e one two f g = rw (← e, ← one, ← two, ← f) g
