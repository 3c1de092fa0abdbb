-- Laws about the order of two types: it is reflexive, and what it calls the same is equal.
use Rattle.std.specs.Prelude.{ℕ, ◌≡◌}
use Rattle.std.proofs.Common.{arith, sym, ap}
use mathlib.Core.List.{List, [], ◌∷◌}
use Rattle.std.proofs.Math.Option.{Option, none, some}
use Rattle.std.proofs.Math.Path.{refl}
use Rattle.model.specs.Types.{Shape, shape, Kind, Scalar, plain, box_any, box_all, box_def, Fields, no_fields, field, Ty, ty}
use Rattle.format.specs.Records.{code, kind_of, box_code}
use Rattle.format.specs.WriteRead.{kind-code}
use Rattle.rules.specs.Sizes.{Order, less, same, more, cmp_number, cmp_dim}
use Rattle.rules.specs.Order.{code_of, kind_place, cmp_kind, then_by, cmp_list, cmp_option, cmp_shape, cmp_name, cmp_scalar, cmp_fields, compare}
use Rattle.rules.proofs.SizesLaws.{cmp_number-refl, cmp_number-same, cmp_dim-refl, cmp_dim-same}

-- ---- codes

pub code_same : (k l : Kind) → code k ≡ code l → k ≡ l
code_same k l h = let a = kind-code k in let b = kind-code l in cc

-- no kind but Box has its code
pub code-box : (k : Kind) → code k ≡ box_code → ⊥
unfolding kind_of
code-box k h =
    let a = kind-code k in
    let b : kind_of box_code ≡ none = refl in
    let z : ◌≡◌ {A = ℕ} 0 1 = cc in omega arith

-- no two kinds have one place
pub kind_place-same : (c d : ℕ) → kind_place c ≡ kind_place d → c ≡ d
unfolding kind_place
kind_place-same c d h = h

pub cmp_kind-refl : (c : ℕ) → cmp_kind c c ≡ same
cmp_kind-refl c = cmp_number-refl (kind_place c)

pub cmp_kind-same : (c d : ℕ) → cmp_kind c d ≡ same → c ≡ d
cmp_kind-same c d h = kind_place-same c d (cmp_number-same (kind_place c) (kind_place d) h)

-- ---- the first difference decides

then_by-same : (x y : Order) → then_by x y ≡ same → (x ≡ same) × (y ≡ same)
then_by-same less y h = (cc, cc)
then_by-same same y h = (refl, h)
then_by-same more y h = (cc, cc)

module _ {ℓ} {A : Type ℓ} (cmp : A → A → Order) where
  pub cmp_list-refl : ((a : A) → cmp a a ≡ same) → (x : List A) → cmp_list cmp x x ≡ same
  unfolding cmp_list
  cmp_list-refl r [] = refl
  cmp_list-refl r (a ∷ x) = rw (r a) (cmp_list-refl r x)

  pub cmp_list-same : ((a b : A) → cmp a b ≡ same → a ≡ b) → (x y : List A) → cmp_list cmp x y ≡ same → x ≡ y
  unfolding cmp_list
  cmp_list-same s [] [] h = refl
  cmp_list-same s [] (b ∷ y) h = cc
  cmp_list-same s (a ∷ x) [] h = cc
  cmp_list-same s (a ∷ x) (b ∷ y) h = let (p, q) = then_by-same (cmp a b) (cmp_list cmp x y) h in rw (s a b p, cmp_list-same s x y q)

  pub cmp_option-refl : ((a : A) → cmp a a ≡ same) → (x : Option A) → cmp_option cmp x x ≡ same
  cmp_option-refl r none = refl
  cmp_option-refl r (some a) = r a

  pub cmp_option-same : ((a b : A) → cmp a b ≡ same → a ≡ b) → (x y : Option A) → cmp_option cmp x y ≡ same → x ≡ y
  cmp_option-same s none none h = refl
  cmp_option-same s none (some b) h = cc
  cmp_option-same s (some a) none h = cc
  cmp_option-same s (some a) (some b) h = ap some (s a b h)

-- ---- shapes and names

pub cmp_shape-refl : (s : Shape) → cmp_shape s s ≡ same
unfolding cmp_shape
cmp_shape-refl (shape o c) = rw (cmp_list-refl cmp_dim cmp_dim-refl o) (cmp_option-refl (cmp_list cmp_dim) (cmp_list-refl cmp_dim cmp_dim-refl) c)

pub cmp_shape-same : (s t : Shape) → cmp_shape s t ≡ same → s ≡ t
unfolding cmp_shape
cmp_shape-same (shape o c) (shape p d) h =
    let (a, b) = then_by-same (cmp_list cmp_dim o p) (cmp_option (cmp_list cmp_dim) c d) h in
    rw (cmp_list-same cmp_dim cmp_dim-same o p a, cmp_option-same (cmp_list cmp_dim) (cmp_list-same cmp_dim cmp_dim-same) c d b)

pub cmp_name-refl : (n : Option (List ℕ)) → cmp_name n n ≡ same
unfolding cmp_name
cmp_name-refl n = cmp_option-refl (cmp_list cmp_number) (cmp_list-refl cmp_number cmp_number-refl) n

pub cmp_name-same : (m n : Option (List ℕ)) → cmp_name m n ≡ same → m ≡ n
unfolding cmp_name
cmp_name-same m n h = cmp_option-same (cmp_list cmp_number) (cmp_list-same cmp_number cmp_number-same) m n h

-- ---- scalars and types

mutual
  unfolding code_of cmp_scalar

  pub cmp_scalar-refl : (k : Scalar) → cmp_scalar k k ≡ same
  cmp_scalar-refl (plain k) = cmp_kind-refl (code k)
  cmp_scalar-refl box_any = refl
  cmp_scalar-refl (box_all s k) = rw (cmp_scalar-refl k) (cmp_shape-refl s)
  cmp_scalar-refl (box_def n f) = rw (cmp_name-refl n) (cmp_fields-refl f)

  pub cmp_fields-refl : (f : Fields) → cmp_fields f f ≡ same
  cmp_fields-refl no_fields = refl
  cmp_fields-refl (field s k f) = rw (cmp_scalar-refl k, cmp_shape-refl s) (cmp_fields-refl f)

pub compare_refl : (t : Ty) → compare t t ≡ same
unfolding compare
compare_refl (ty s k) = rw (cmp_scalar-refl k) (cmp_shape-refl s)

-- a kind and a box are never the same
apart : {C : Type 0} (k : Kind) → cmp_kind (code k) box_code ≡ same → C
apart k h = absurd (code-box k (cmp_kind-same (code k) box_code h))

apart' : {C : Type 0} (k : Kind) → cmp_kind box_code (code k) ≡ same → C
apart' k h = absurd (code-box k (sym (cmp_kind-same box_code (code k) h)))

mutual
  unfolding code_of cmp_scalar

  pub cmp_scalar-same : (k l : Scalar) → cmp_scalar k l ≡ same → k ≡ l
  cmp_scalar-same (plain k) (plain l) h = ap plain (code_same k l (cmp_kind-same (code k) (code l) h))
  cmp_scalar-same (plain k) box_any h = apart k h
  cmp_scalar-same (plain k) (box_all t l) h = apart k h
  cmp_scalar-same (plain k) (box_def n g) h = apart k h
  cmp_scalar-same box_any (plain l) h = apart' l h
  cmp_scalar-same box_any box_any h = refl
  cmp_scalar-same box_any (box_all t l) h = cc
  cmp_scalar-same box_any (box_def n g) h = cc
  cmp_scalar-same (box_all s k) (plain l) h = apart' l h
  cmp_scalar-same (box_all s k) box_any h = cc
  cmp_scalar-same (box_all s k) (box_all t l) h = let (a, b) = then_by-same (cmp_scalar k l) (cmp_shape s t) h in rw (cmp_scalar-same k l a, cmp_shape-same s t b)
  cmp_scalar-same (box_all s k) (box_def n g) h = cc
  cmp_scalar-same (box_def m f) (plain l) h = apart' l h
  cmp_scalar-same (box_def m f) box_any h = cc
  cmp_scalar-same (box_def m f) (box_all t l) h = cc
  cmp_scalar-same (box_def m f) (box_def n g) h = let (a, b) = then_by-same (cmp_name m n) (cmp_fields f g) h in rw (cmp_name-same m n a, cmp_fields-same f g b)

  pub cmp_fields-same : (f g : Fields) → cmp_fields f g ≡ same → f ≡ g
  cmp_fields-same no_fields no_fields h = refl
  cmp_fields-same no_fields (field t l g) h = cc
  cmp_fields-same (field s k f) no_fields h = cc
  cmp_fields-same (field s k f) (field t l g) h =
      let (a, b) = then_by-same (then_by (cmp_scalar k l) (cmp_shape s t)) (cmp_fields f g) h in
      let (c, d) = then_by-same (cmp_scalar k l) (cmp_shape s t) a in
      rw (cmp_scalar-same k l c, cmp_shape-same s t d, cmp_fields-same f g b)

pub compare_same : (t u : Ty) → compare t u ≡ same → t ≡ u
unfolding compare
compare_same (ty s k) (ty t l) h = let (a, b) = then_by-same (cmp_scalar k l) (cmp_shape s t) h in rw (cmp_scalar-same k l a, cmp_shape-same s t b)
