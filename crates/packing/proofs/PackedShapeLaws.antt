-- A shape's bytes, in either layout: its counts, and then all its sizes, opening and closing ones as one list.
use Rattle.std.specs.Prelude.{ℕ, ◌+◌, ◌≤◌, List, [], ◌∷◌, ◌++◌, ◌≡◌, refl, length}
use Rattle.std.proofs.Common.{arith, append_assoc, sym, ◌∙◌, ap, lit<, length-append}
use Rattle.model.specs.Limits.{max_sizes}
use Rattle.model.specs.Types.{Dim, Shape, shape}
use Rattle.model.specs.Within.{All, DimWithin, ShapeWithin}
use Rattle.format.specs.Records.{write_shape, count_of, list_of, list_count}
use Rattle.format.specs.Suffices.{length-bytes_of}
use Rattle.format.specs.WriteRead.{closing-within, list_count_ok}
use Rattle.packing.specs.Packed.{pack_shape}
use Rattle.packing.specs.Layouts.{Layout, as_record, as_packed, size_length, size_number, size_in, sizes_in, counts_in, counts_length, shape_in}

-- ---- sizes

pub length-size_in : (v : Layout) (d : Dim) → length (size_in v d) ≡ size_length v
length-size_in v d = length-bytes_of (size_length v) (size_number v d)

pub sizes_in-none : (v : Layout) → sizes_in v [] ≡ []
sizes_in-none as_record = refl
sizes_in-none as_packed = refl

pub sizes_in-first : (v : Layout) (d : Dim) (ds : List Dim) → sizes_in v (d ∷ ds) ≡ size_in v d ++ sizes_in v ds
sizes_in-first as_record d ds = refl
sizes_in-first as_packed d ds = refl

sizes_in_append : (v : Layout) (ds es : List Dim) → sizes_in v (ds ++ es) ≡ sizes_in v ds ++ sizes_in v es
sizes_in_append v [] es = ap (λ x. x ++ sizes_in v es) (sym (sizes_in-none v))
sizes_in_append v (d ∷ ds) es =
    sizes_in-first v d (ds ++ es)
    ∙ ap (λ x. size_in v d ++ x) (sizes_in_append v ds es)
    ∙ sym (append_assoc (size_in v d) (sizes_in v ds) (sizes_in v es))
    ∙ ap (λ x. x ++ sizes_in v es) (sym (sizes_in-first v d ds))

all_append : (ds es : List Dim) → All DimWithin ds → All DimWithin es → All DimWithin (ds ++ es)
all_append [] es a b = b
all_append (d ∷ ds) es a b = (a.0, all_append ds es a.1 b)

-- ---- a shape

-- its counts, as their bytes are, and its sizes
abbrev pub opening_count : Shape → ℕ
opening_count (shape o c) = length o

abbrev pub closing_count : Shape → ℕ
closing_count (shape o c) = count_of c

abbrev pub sizes_of : Shape → List Dim
sizes_of (shape o c) = o ++ list_of c

pub shape_in-parts : (v : Layout) (o : Shape) → shape_in v o ≡ counts_in v (opening_count o) (closing_count o) ++ sizes_in v (sizes_of o)
unfolding write_shape pack_shape
shape_in-parts as_record (shape o c) = ap (λ x. counts_in as_record (length o) (count_of c) ++ x) (sym (sizes_in_append as_record o (list_of c)))
shape_in-parts as_packed (shape o c) = ap (λ x. counts_in as_packed (length o) (count_of c) ++ x) (sym (sizes_in_append as_packed o (list_of c)))

pub length-counts_in : (v : Layout) (m n : ℕ) → length (counts_in v m n) ≡ counts_length v
length-counts_in as_record m n = refl
length-counts_in as_packed m n = refl

pub sizes-within : (o : Shape) → ShapeWithin o → All DimWithin (sizes_of o)
sizes-within (shape o c) h = all_append o (list_of c) h.0.1 (closing-within c h.1).1

pub sizes-counted : (o : Shape) → ShapeWithin o → length (sizes_of o) ≡ opening_count o + list_count (closing_count o)
sizes-counted (shape o c) h = length-append o (list_of c) ∙ ap (λ n. length o + n) (sym (list_count_ok max_sizes (lit< tt) c (closing-within c h.1).0))

pub sizes-few : (o : Shape) → ShapeWithin o → length (sizes_of o) ≤ max_sizes + max_sizes
sizes-few (shape o c) h = omega (arith, length-append o (list_of c), h.0.0, (closing-within c h.1).0)
