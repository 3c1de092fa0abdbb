-- The order of two types (document 01, "scalar.rs"): scalar first, then shape; box Any, All, Def; no name before a name, names by
-- bytes; lists by the first difference, then length; opening sizes before closing ones, closed before open. Sizes by `Dim`'s order.
use Rattle.std.specs.Prelude.{ℕ, List, [], ◌∷◌}
use Rattle.std.proofs.Math.Option.{Option, none, some}
use Rattle.model.specs.Types.{Shape, shape, Scalar, plain, box_any, box_all, box_def, Fields, no_fields, field, Ty, ty}
use Rattle.format.specs.Records.{code, box_code}
use Rattle.rules.specs.Sizes.{Order, less, same, more, cmp_number, cmp_dim}

-- The code of a scalar's kind.
unfoldable pub code_of : Scalar → ℕ
code_of (plain k) = code k
code_of box_any = box_code
code_of (box_all s k) = box_code
code_of (box_def n f) = box_code

-- The place of a kind in the paper's order, by its code: the codes stand in that order. A kind whose code is later than its place
-- (document 02's Multivector: code 10, between Complex and Ascii) is put in its place here; which kinds it is over is said in Scalars.
unfoldable pub kind_place : ℕ → ℕ
kind_place c = c

-- Two kinds by their places.
abbrev pub cmp_kind : ℕ → ℕ → Order
cmp_kind c d = cmp_number (kind_place c) (kind_place d)

-- the first difference decides
abbrev pub then_by : Order → Order → Order
then_by less x = less
then_by same x = x
then_by more x = more

unfoldable pub cmp_list {ℓ} : {A : Type ℓ} → (A → A → Order) → List A → List A → Order
cmp_list cmp [] [] = same
cmp_list cmp [] (y ∷ ys) = less
cmp_list cmp (x ∷ xs) [] = more
cmp_list cmp (x ∷ xs) (y ∷ ys) = then_by (cmp x y) (cmp_list cmp xs ys)

abbrev pub cmp_option {ℓ} : {A : Type ℓ} → (A → A → Order) → Option A → Option A → Order
cmp_option cmp none none = same
cmp_option cmp none (some y) = less
cmp_option cmp (some x) none = more
cmp_option cmp (some x) (some y) = cmp x y

unfoldable pub cmp_shape : Shape → Shape → Order
cmp_shape (shape o c) (shape p d) = then_by (cmp_list cmp_dim o p) (cmp_option (cmp_list cmp_dim) c d)

unfoldable pub cmp_name : Option (List ℕ) → Option (List ℕ) → Order
cmp_name m n = cmp_option (cmp_list cmp_number) m n

unfoldable mutual
  unfolding kind_place

  pub cmp_scalar : Scalar → Scalar → Order
  cmp_scalar (plain k) l = cmp_kind (code k) (code_of l)
  cmp_scalar box_any (plain l) = cmp_kind box_code (code l)
  cmp_scalar box_any box_any = same
  cmp_scalar box_any (box_all t l) = less
  cmp_scalar box_any (box_def n g) = less
  cmp_scalar (box_all s k) (plain l) = cmp_kind box_code (code l)
  cmp_scalar (box_all s k) box_any = more
  cmp_scalar (box_all s k) (box_all t l) = then_by (cmp_scalar k l) (cmp_shape s t)
  cmp_scalar (box_all s k) (box_def n g) = less
  cmp_scalar (box_def m f) (plain l) = cmp_kind box_code (code l)
  cmp_scalar (box_def m f) box_any = more
  cmp_scalar (box_def m f) (box_all t l) = more
  cmp_scalar (box_def m f) (box_def n g) = then_by (cmp_name m n) (cmp_fields f g)

  pub cmp_fields : Fields → Fields → Order
  cmp_fields no_fields no_fields = same
  cmp_fields no_fields (field t l g) = less
  cmp_fields (field s k f) no_fields = more
  cmp_fields (field s k f) (field t l g) = then_by (then_by (cmp_scalar k l) (cmp_shape s t)) (cmp_fields f g)

unfoldable pub compare : Ty → Ty → Order
compare (ty s k) (ty t l) = then_by (cmp_scalar k l) (cmp_shape s t)
