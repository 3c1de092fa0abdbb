-- What each public call on sizes and shapes answers (document 01: "shape.rs", pervading in "mod.rs", "Record bytes" and the refusals).
-- A call on shapes takes whole types and writes a shape by its record.
use Rattle.std.specs.Prelude.{ℕ, Bool, ◌||◌, cond, List, eqb, leb}
use Rattle.std.proofs.Math.Option.{Option, none, some}
use Rattle.model.specs.Limits.{max_size, ones}
use Rattle.model.specs.Refusals.{oversized, unpervaded}
use Rattle.model.specs.Types.{Dim, Shape, shape_of}
use Rattle.format.specs.Records.{dim_of, write_shape}
use Rattle.format.specs.Outcome.{Outcome, accepted, refused, bound, both, lone}
use Rattle.rules.specs.Sizes.{Order, cmp_dim, cmp_defined, larger, compatible, row_compatible, join_dim}
use Rattle.rules.specs.Shapes.{is_scalar, is_any, row_count, rank, row_shape, Compatibility, compatible_with, merge_from, join_shapes}
use Rattle.rules.specs.Pervade as rules

-- ---- sizes handed in as numbers

abbrev pub is_size : ℕ → Bool
is_size n = eqb n ones || leb n max_size

-- the number at a place
abbrev pub size_at : ℕ → ℕ → Outcome Dim
size_at place n = cond (is_size n) (accepted (dim_of n)) (refused oversized place)

abbrev pub on_sizes : {C : Type 0} → (Dim → Dim → C) → ℕ → ℕ → Outcome C
on_sizes f a b = both (λ d e. accepted (f d e)) (size_at 0 a) (size_at 1 b)

abbrev pub cmp_call : ℕ → ℕ → Outcome Order
cmp_call a b = on_sizes cmp_dim a b

abbrev pub cmp_defined_call : ℕ → ℕ → Outcome Order
cmp_defined_call a b = on_sizes cmp_defined a b

abbrev pub max_call : ℕ → ℕ → Outcome Dim
max_call a b = on_sizes larger a b

abbrev pub join_sizes_call : ℕ → ℕ → Outcome Dim
join_sizes_call a b = on_sizes join_dim a b

abbrev pub compatible_call : ℕ → ℕ → Outcome Bool
compatible_call a b = on_sizes compatible a b

abbrev pub row_compatible_call : ℕ → ℕ → Outcome Bool
row_compatible_call a b = on_sizes row_compatible a b

-- ---- shapes of types handed in as bytes

abbrev pub on_shape : {C : Type 0} → (Shape → Outcome C) → List ℕ → Outcome C
on_shape f a = bound (λ t. f (shape_of t)) (lone a)

abbrev pub on_shapes : {C : Type 0} → (Shape → Shape → Outcome C) → List ℕ → List ℕ → Outcome C
on_shapes f a b = both (λ t u. f (shape_of t) (shape_of u)) (lone a) (lone b)

abbrev pub recorded : Shape → Outcome (List ℕ)
recorded s = accepted (write_shape s)

abbrev pub merge_call : List ℕ → List ℕ → Outcome (List ℕ)
merge_call a b = on_shapes (λ s t. recorded (merge_from s t)) a b

abbrev pub join_shapes_call : List ℕ → List ℕ → Outcome (List ℕ)
join_shapes_call a b = on_shapes (λ s t. recorded (join_shapes s t)) a b

abbrev pub row_call : List ℕ → Outcome (List ℕ)
row_call a = on_shape (λ s. recorded (row_shape s)) a

-- a mismatch is refused at place 0
abbrev pub pervaded : Option Shape → Outcome (List ℕ)
pervaded none = refused unpervaded 0
pervaded (some s) = recorded s

abbrev pub pervade_call : Bool → Bool → List ℕ → List ℕ → Outcome (List ℕ)
pervade_call f g a b = on_shapes (λ s t. pervaded (rules.pervade f g s t)) a b

-- document 02, 2026-07
abbrev pub compatible_shapes_call : List ℕ → List ℕ → Outcome Compatibility
compatible_shapes_call a b = on_shapes (λ s t. accepted (compatible_with s t)) a b

abbrev pub is_any_call : List ℕ → Outcome Bool
is_any_call a = on_shape (λ s. accepted (is_any s)) a

abbrev pub is_scalar_call : List ℕ → Outcome Bool
is_scalar_call a = on_shape (λ s. accepted (is_scalar s)) a

abbrev pub row_count_call : List ℕ → Outcome Dim
row_count_call a = on_shape (λ s. accepted (row_count s)) a

abbrev pub rank_call : List ℕ → Outcome ℕ
rank_call a = on_shape (λ s. accepted (rank s)) a
