-- Pervading (document 01, "mod.rs": `pervade_dyn_shapes`), index by index: 1 against absent is ?; 1 or absent yields to the other;
-- ? yields; equal statics stay; else the larger, if the smaller's side is filled. The first shape's fill is f, the second's g. Sheets have
-- a rule of their own (`PervadeInSheets`).
use Rattle.std.specs.Prelude.{ℕ, suc, Bool, cond, List, [], ◌∷◌}
use Rattle.std.proofs.Math.Option.{Option, none, some}
use Rattle.model.specs.Types.{Dim, static, unknown, Shape, shape}
use Rattle.rules.specs.Sizes.{Order, less, same, more, cmp_dim, is_one}

-- ---- one index

-- A size against an absent one.
unfoldable pub against_absent : Dim → Dim
against_absent d = cond (is_one d) unknown d

abbrev pub filled : Bool → Dim → Option Dim
filled f d = cond f (some d) none

-- Two static sizes, neither of them 1: what their order makes of them.
abbrev pub by_order : Bool → Bool → Order → Dim → Dim → Option Dim
by_order f g less d e = filled f e
by_order f g same d e = some d
by_order f g more d e = filled g d

abbrev pub neither_one : Bool → Bool → Dim → Dim → Option Dim
neither_one f g unknown e = some e
neither_one f g (static m) unknown = some (static m)
neither_one f g (static m) (static n) = by_order f g (cmp_dim (static m) (static n)) (static m) (static n)

-- Two sizes; none where the index refuses.
unfoldable pub together : Bool → Bool → Dim → Dim → Option Dim
together f g d e = cond (is_one d) (some e) (cond (is_one e) (some d) (neither_one f g d e))

-- A rule for one index: what is given by what stands there on either side, a size or none; none where the index refuses.
abbrev pub IndexRule : Type 0
IndexRule = Option Dim → Option Dim → Option Dim

-- At no index of the walk both are absent.
abbrev pub pervade_at : Bool → Bool → IndexRule
pervade_at f g none none = none
pervade_at f g none (some e) = some (against_absent e)
pervade_at f g (some d) none = some (against_absent d)
pervade_at f g (some d) (some e) = together f g d e

-- ---- all indices

-- The sizes, or the first index that refuses, where the walk stops.
pub data Pervaded : Type 0 where
  sizes : List Dim → Pervaded
  clash : ℕ → Pervaded

-- what an index gives, then what the indices after it give
abbrev pub then_rest : Option Dim → Pervaded → Pervaded
then_rest none r = clash 0
then_rest (some d) (sizes ds) = sizes (d ∷ ds)
then_rest (some d) (clash i) = clash (suc i)

-- The walk over the indices of two lists, by any rule for one index.
unfoldable pub walk : IndexRule → List Dim → List Dim → Pervaded
walk rule [] [] = sizes []
walk rule [] (e ∷ p) = then_rest (rule none (some e)) (walk rule [] p)
walk rule (d ∷ o) [] = then_rest (rule (some d) none) (walk rule o [])
walk rule (d ∷ o) (e ∷ p) = then_rest (rule (some d) (some e)) (walk rule o p)

abbrev pub pervade_dims : Bool → Bool → List Dim → List Dim → Pervaded
pervade_dims f g o p = walk (pervade_at f g) o p

-- ---- closing sizes, and shapes

-- An absent closing list yields to the other's, an empty one to a named one only; two named ones give an empty one.
unfoldable pub pervade_closing : Option (List Dim) → Option (List Dim) → Option (List Dim)
pervade_closing none d = d
pervade_closing (some c) none = some c
pervade_closing (some []) (some d) = some d
pervade_closing (some (x ∷ c)) (some []) = some (x ∷ c)
pervade_closing (some (x ∷ c)) (some (y ∷ d)) = some []

abbrev pub closed_by : Option (List Dim) → Pervaded → Option Shape
closed_by c (sizes o) = some (shape o c)
closed_by c (clash i) = none

-- The pervading of two shapes; none is a mismatch.
unfoldable pub pervade : Bool → Bool → Shape → Shape → Option Shape
pervade f g (shape o c) (shape p d) = closed_by (pervade_closing c d) (pervade_dims f g o p)
