-- Whether the contents of two All boxes are compatible, where they stand in bytes: of compatible scalars it is as their shapes say.
use Prim.Native.Nat.{ℕ, ◌-◌}
use mathlib.Core.Bool.{Bool, true}
use mathlib.Core.List.{List}
use mathlib.Core.Path.{◌≡◌, sym, ◌∙◌}
use Rattle.model.specs.Types.{Shape, Scalar, Ty, scalar_of}
use Rattle.rules.specs.Shapes.{Compatibility, compatible_with, is_yes}
use Rattle.rules.specs.Scalars.{compatible_with_boxes}
use Rattle.known.specs.Known.{ScalarAt, TypeAt}
use Rattle.known.proofs.KnownLaws.{scalar-behind}
use Rattle.order.proofs.TypeLaws.{Starts, Shaped}
use Rattle.scalar.specs.Calls.{compatible_contents}
use Rattle.scalar.proofs.BoxLaws.{shapes_decide}

-- what is answered of any two scalars at two places
abbrev pub Compatible : List ℕ → ℕ → List ℕ → ℕ → ℕ → Bool → Type 0
Compatible a i b j d r = (k l : Scalar) → ScalarAt a i d k → ScalarAt b j d l → r ≡ compatible_with_boxes k l

module _ (a : List ℕ) (i : ℕ) (b : List ℕ) (j d : ℕ) {p q : ℕ} (first : Starts a i p) (second : Starts b j q) {r : Bool} (call : Compatible a p b q (d - 1) r) where
  pub contents-shapes :
      r ≡ true
      → {x : Bool} {c : Compatibility} {o o' : Shape}
      → c ≡ compatible_with o o'
      → x ≡ is_yes c
      → Shaped a i o
      → Shaped b j o'
      → (t u : Ty)
      → TypeAt a i d t
      → TypeAt b j d u
      → x ≡ compatible_contents t u
  contents-shapes f e w one two t u h g =
      let scalars = call (scalar_of t) (scalar_of u) (scalar-behind a i first d t h) (scalar-behind b j second d u g) in
      shapes_decide t u (sym f ∙ scalars) (one d t h) (two d u g) e w
