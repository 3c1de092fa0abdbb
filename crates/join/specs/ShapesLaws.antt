-- Two whole types whose shapes are known: what is said of both is said of their scalars.
use Rattle.std.specs.Prelude.{ℕ, List, ◌≡◌, refl}
use Rattle.model.specs.Types.{Shape, Scalar, Ty, ty, shape_of, scalar_of}
use Rattle.format.specs.Outcome.{Outcome, accepted, refused, mapped, both}

module _ (x y : Outcome Ty) {s r : Shape} (first : mapped shape_of x ≡ accepted s) (second : mapped shape_of y ≡ accepted r) where
  pub by-scalars : (f : Ty → Ty → Outcome (List ℕ)) (g : Scalar → Scalar → Outcome (List ℕ)) → ((k l : Scalar) → f (ty s k) (ty r l) ≡ g k l) → both f x y ≡ both (λ t u. g (scalar_of t) (scalar_of u)) x y
  by-scalars f g same = go x y first second
    where
      go : (x y : Outcome Ty) → mapped shape_of x ≡ accepted s → mapped shape_of y ≡ accepted r → both f x y ≡ both (λ t u. g (scalar_of t) (scalar_of u)) x y
      go (accepted (ty p k)) (accepted (ty q l)) e h =
          let a : p ≡ s = cc in
          let b : q ≡ r = cc in
          rw (a, b, same k l)
      go (accepted t) (refused k p) e h = refl
      go (refused k p) y e h = refl
