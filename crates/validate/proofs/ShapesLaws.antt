-- `check_shape` on shapes by value: one law for each way out of a function.
use Prim.Native.Nat.{ℕ, ◌+◌}
use native.Mathlib.Omega.{arith}
use mathlib.Core.Bool.{Bool, true, false}
use mathlib.Core.List.{List, [], reverse}
use mathlib.Core.Option.{none, some}
use mathlib.Core.Path.{◌≡◌, refl, sym, ◌∙◌, ap}
use lib.ListN.{length, drop}
use lib.Dec.{eqb, leb}
use Rattle.model.specs.Types.{Dim, Shape, shape}
use Rattle.record.specs.Answers.{dims_of, shape_for}
use Rattle.record.specs.declared.Dims.{Dims}
use Rattle.record.specs.declared.DynShape.{DynShape}
use Rattle.format.specs.Outcome.{accepted, refused}
use Rattle.rules.specs.Sizes.{compatible}
use Rattle.rules.specs.Shapes.{is_any, rank, merge_from}
use Rattle.validation.specs.CheckShape.{Side, unsided, left, right, agree, equal_dim, sizes_agree, count_test, names_all, clash, mismatch, shape_mismatch, sided_shape, check_shape}
use Rattle.validation.proofs.CheckShapeLaws.{check_shape_match, check_shape-mismatch}

-- m sizes of a closed type, n of the spec, and whether they agree
pub closed-unsided : (o p : List Dim) {m n : ℕ} → m ≡ length p → n ≡ length o → {b : Bool} → b ≡ agree compatible p o → clash (eqb m n) b true ≡ mismatch unsided o (shape p none)
unfolding mismatch count_test sizes_agree names_all
closed-unsided o p f g a = rw (f, g, a)

module _ (o : List Dim) (t : DynShape) where
  abbrev p : List Dim
  p = dims_of t.dims

  abbrev d : List Dim
  d = dims_of t.suffix

  -- m sizes of the type, n of the spec, and whether they agree
  module _ (e : t.closed ≡ true) {b : Bool} {m n : ℕ} where
    pub left-closed : {few : Bool} → few ≡ leb n m → m ≡ length p → n ≡ length o → b ≡ agree compatible p o → clash few b true ≡ mismatch left o (shape_for t)
    unfolding mismatch count_test sizes_agree names_all
    left-closed c f g s = rw (e, c, f, g, s)

    pub right_closed : m ≡ length p → n ≡ length o → b ≡ agree compatible (reverse p) (reverse o) → clash (leb n m) b true ≡ mismatch right o (shape_for t)
    unfolding mismatch count_test sizes_agree names_all rank
    right_closed f g s = let q : m ≡ length p + 0 = omega (arith, f) in rw (e, q, g, s)

  module _ (e : t.closed ≡ false) {b : Bool} where
    -- l and m sizes of the type
    module _ {l m n : ℕ} (x : l ≡ length p) (f : m ≡ length d) (g : n ≡ length o) where
      pub unsided_open : b ≡ sizes_agree unsided o (shape p (some d)) → clash (leb (l + m) n) b (leb n (l + m)) ≡ mismatch unsided o (shape_for t)
      unfolding mismatch count_test names_all
      unsided_open s = rw (e, x, f, g, s)

      pub right_open : b ≡ agree compatible (reverse d) (reverse o) → clash (leb n (l + m)) b true ≡ mismatch right o (shape_for t)
      unfolding mismatch count_test sizes_agree names_all rank
      right_open s = rw (e, x, f, g, s)

    pub left_open : {few : Bool} → few ≡ true → b ≡ agree compatible p o → clash few b true ≡ mismatch left o (shape_for t)
    unfolding mismatch count_test sizes_agree names_all
    left_open c s = rw (e, c, s)

-- an open type without a side: its opening sizes, then its closing ones
module _ (o p d : List Dim) {a : Bool} (f : a ≡ agree equal_dim p o) where
  pub opening_decides : a ≡ false → a ≡ sizes_agree unsided o (shape p (some d))
  unfolding sizes_agree
  opening_decides h = rw (← f, h)

  pub closing_decide : {b : Bool} → a ≡ true → b ≡ agree equal_dim (reverse d) (reverse (drop (length p) o)) → b ≡ sizes_agree unsided o (shape p (some d))
  unfolding sizes_agree
  closing_decide h g = rw (← f, h, g)

-- ---- with what excuses it

module _ (side : Side) (o : List Dim) (c : _) (t : Shape) {a : Bool} (f : a ≡ is_any (shape o c)) where
  pub excused_spec : a ≡ true → none ≡ shape_mismatch side (shape o c) t
  unfolding shape_mismatch
  excused_spec h = rw (← f, h)

  module _ (h : a ≡ false) {b : Bool} (g : b ≡ is_any t) where
    pub excused_type : b ≡ true → none ≡ shape_mismatch side (shape o c) t
    unfolding shape_mismatch
    excused_type k = rw (← f, h, ← g, k)

    pub not_excused : b ≡ false → mismatch side o t ≡ shape_mismatch side (shape o c) t
    unfolding shape_mismatch
    not_excused k = rw (← f, h, ← g, k)

-- ---- the answer

module _ (side : Side) (s t : Shape) where
  pub clashed : {n : ℕ} → some n ≡ shape_mismatch side s t → refused n 0 ≡ check_shape side s t
  clashed e = sym (check_shape-mismatch side s t (sym e))

  pub merged : {u : Shape} → none ≡ shape_mismatch side s t → u ≡ merge_from t (sided_shape side s) → accepted u ≡ check_shape side s t
  merged e m = ap accepted m ∙ sym (check_shape_match side s t (sym e))

-- ---- what is merged

pub sided_not : (s : Shape) → s ≡ sided_shape unsided s
unfolding sided_shape
sided_not s = refl

none_of : (d : Dims) → d.count ≡ 0 → dims_of d ≡ []
none_of d e = rw e

module _ (s : DynShape) (d : Dims) (e : d.count ≡ 0) where
  pub sided_left : shape (dims_of s.dims) (some (dims_of d)) ≡ sided_shape left (shape_for s)
  unfolding sided_shape
  sided_left = rw (none_of d e)

  pub sided_right : shape (dims_of d) (some (dims_of s.dims)) ≡ sided_shape right (shape_for s)
  unfolding sided_shape
  sided_right = rw (none_of d e)
