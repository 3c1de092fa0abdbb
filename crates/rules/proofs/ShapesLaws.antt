-- Laws about shapes: how long each list rule's result is, and that row, merge and join keep to the limits.
use Rattle.std.specs.Prelude.{max, min, List, [], ◌∷◌, reverse, ◌≡◌, length}
use Rattle.std.proofs.Common.{arith, length-take}
use Rattle.std.proofs.Math.Option.{Option, none, some}
use Rattle.std.proofs.lemmas.List.{length-reverse}
use Rattle.model.specs.Types.{Dim, unknown, Shape, shape}
use Rattle.model.specs.Within.{All, Each, DimWithin, DimsWithin, ShapeWithin}
use Rattle.rules.specs.Shapes.{row_shape, merge_dims, merge_closing, merge_from, join_dims, join_longer, join_ends, join_closing, join_shapes}
use Rattle.rules.proofs.SizesLaws.{larger-within, join_dim-within}
use Rattle.rules.proofs.Lists.{all_take, all-reverse}

-- ---- row

pub row_shape-within : (s : Shape) → ShapeWithin s → ShapeWithin (row_shape s)
unfolding row_shape
row_shape-within (shape (d ∷ o) c) h = ((omega (arith, h.0.0), h.0.1.1), h.1)
row_shape-within (shape [] (some (d ∷ c))) h = (h.0, (omega (arith, h.1.0), h.1.1.1))
row_shape-within (shape [] (some [])) h = h
row_shape-within (shape [] none) h = h

-- ---- merge

pub merge_length : (o p : List Dim) → length (merge_dims o p) ≡ max (length o) (length p)
unfolding merge_dims
merge_length [] p = omega arith
merge_length (d ∷ o) [] = omega arith
merge_length (d ∷ o) (e ∷ p) = let h = merge_length o p in omega arith

merge_all : (o p : List Dim) → All DimWithin o → All DimWithin p → All DimWithin (merge_dims o p)
unfolding merge_dims
merge_all [] p h k = k
merge_all (d ∷ o) [] h k = h
merge_all (d ∷ o) (e ∷ p) h k = (larger-within d e h.0 k.0, merge_all o p h.1 k.1)

pub merge_dims-within : (o p : List Dim) → DimsWithin o → DimsWithin p → DimsWithin (merge_dims o p)
merge_dims-within o p h k = (omega (arith, merge_length o p), merge_all o p h.1 k.1)

pub merge_closing-within : (c d : Option (List Dim)) → Each DimsWithin c → Each DimsWithin d → Each DimsWithin (merge_closing c d)
unfolding merge_closing
merge_closing-within none d h k = k
merge_closing-within (some []) none h k = tt
merge_closing-within (some (x ∷ c)) none h k = h
merge_closing-within (some c) (some d) h k = merge_dims-within c d h k

pub merge_within : (s t : Shape) → ShapeWithin s → ShapeWithin t → ShapeWithin (merge_from s t)
unfolding merge_from
merge_within (shape o c) (shape p d) h k = (merge_dims-within o p h.0 k.0, merge_closing-within c d h.1 k.1)

-- ---- join

pub join-length : (o p : List Dim) → length (join_dims o p) ≡ min (length o) (length p)
unfolding join_dims
join-length [] p = omega arith
join-length (d ∷ o) [] = omega arith
join-length (d ∷ o) (e ∷ p) = let h = join-length o p in omega arith

join-all : (o p : List Dim) → All DimWithin o → All DimWithin (join_dims o p)
unfolding join_dims
join-all [] p h = tt
join-all (d ∷ o) [] h = tt
join-all (d ∷ o) (e ∷ p) h = (join_dim-within d e h.0, join-all o p h.1)

pub join_dims-within : (o p : List Dim) → DimsWithin o → DimsWithin (join_dims o p)
join_dims-within o p h = (omega (arith, join-length o p), join-all o p h.1)

pub join_longer-length : (o p : List Dim) → length (join_longer o p) ≡ max (length o) (length p)
unfolding join_longer
join_longer-length [] [] = omega arith
join_longer-length [] (e ∷ p) = let h = join_longer-length [] p in omega arith
join_longer-length (d ∷ o) [] = let h = join_longer-length o [] in omega arith
join_longer-length (d ∷ o) (e ∷ p) = let h = join_longer-length o p in omega arith

longer-all : (o p : List Dim) → All DimWithin o → All DimWithin (join_longer o p)
unfolding join_longer
longer-all [] [] h = tt
longer-all [] (e ∷ p) h = (join_dim-within unknown e tt, longer-all [] p tt)
longer-all (d ∷ o) [] h = (join_dim-within d unknown h.0, longer-all o [] h.1)
longer-all (d ∷ o) (e ∷ p) h = (join_dim-within d e h.0, longer-all o p h.1)

pub join_ends-length : (c d : List Dim) → length (join_ends c d) ≡ max (length c) (length d)
unfolding join_ends
join_ends-length c d =
    let l = join_longer-length (reverse c) (reverse d) in
    simp (length-take) (omega (arith, length-reverse c, length-reverse d))

pub join_ends-within : (c d : List Dim) → DimsWithin c → DimsWithin d → DimsWithin (join_ends c d)
unfolding join_ends
join_ends-within c d h k =
    (omega (arith, join_ends-length c d), all_take DimWithin (max (length c) (length d)) (unknown ∷ join_longer (reverse c) (reverse d)) (tt, longer-all (reverse c) (reverse d) (all-reverse DimWithin c h.1)))

pub join_closing-within : (c d : Option (List Dim)) → Each DimsWithin c → Each DimsWithin d → Each DimsWithin (join_closing c d)
unfolding join_closing
join_closing-within none d h k = tt
join_closing-within (some c) none h k = tt
join_closing-within (some c) (some d) h k = join_ends-within c d h k

pub join-within : (s t : Shape) → ShapeWithin s → ShapeWithin t → ShapeWithin (join_shapes s t)
unfolding join_shapes
join-within (shape o c) (shape p d) h k = (join_dims-within o p h.0, join_closing-within c d h.1 k.1)
