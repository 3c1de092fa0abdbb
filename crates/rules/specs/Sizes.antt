-- Two sizes (document 01, "shape.rs": the methods of `Dim` and its `BitOr`): their order, which is no chain, the larger of them,
-- whether they are compatible, and their join.
use Rattle.std.specs.Prelude.{ℕ, Bool, true, false, ◌||◌, cond, eqb, ltb}
use Rattle.model.specs.Types.{Dim, static, unknown}

-- What a comparison answers of the first against the second.
pub data Order : Type 0 where
  less same more : Order

abbrev pub cmp_number : ℕ → ℕ → Order
cmp_number m n = cond (ltb m n) less (cond (eqb m n) same more)

-- The later of two in order; where they are the same, the second.
abbrev pub later_by {ℓ} : {A : Type ℓ} → Order → A → A → A
later_by less a b = b
later_by same a b = b
later_by more a b = a

-- ---- the order

-- `Dim`'s order: two statics compare as numbers, 1 < ?, and ? < every static but 1.
unfoldable pub cmp_dim : Dim → Dim → Order
cmp_dim (static m) (static n) = cmp_number m n
cmp_dim (static m) unknown = cond (eqb m 1) less more
cmp_dim unknown (static n) = cond (eqb n 1) more less
cmp_dim unknown unknown = same

-- `cmp_defined` puts ? below all statics.
unfoldable pub cmp_defined : Dim → Dim → Order
cmp_defined (static m) (static n) = cmp_number m n
cmp_defined (static m) unknown = more
cmp_defined unknown (static n) = less
cmp_defined unknown unknown = same

-- The larger size, in `Dim`'s order.
unfoldable pub larger : Dim → Dim → Dim
larger d e = later_by (cmp_dim d e) d e

-- ---- tests

abbrev pub is_one : Dim → Bool
is_one (static n) = eqb n 1
is_one unknown = false

-- Equal, or either ?.
unfoldable pub compatible : Dim → Dim → Bool
compatible (static m) (static n) = eqb m n
compatible (static m) unknown = true
compatible unknown e = true

-- Equal, or either 1 or ?.
unfoldable pub row_compatible : Dim → Dim → Bool
row_compatible d e = compatible d e || is_one d || is_one e

-- ---- the join

-- Equal statics stay, all else is ?.
unfoldable pub join_dim : Dim → Dim → Dim
join_dim (static m) (static n) = cond (eqb m n) (static m) unknown
join_dim (static m) unknown = unknown
join_dim unknown e = unknown
