-- Examples of the rules where the paper's words are easily read otherwise, beside its cases (crate `cases`). Each holds by computation.
use Rattle.std.specs.Prelude.{ℕ, true, false, List, [], ◌∷◌, map, ◌≡◌, refl}
use Rattle.std.proofs.Math.Option.{Option, none, some}
use Rattle.model.specs.Refusals.{too_many}
use Rattle.model.specs.Types.{Dim, static, unknown, Shape, shape, Kind, bool, int, num, complex, ascii, char, stream, plain, box_any, box_def, Fields, no_fields, Ty, ty, box_of, field_of}
use Rattle.format.specs.Records.{code}
use Rattle.format.specs.Outcome.{accepted, refused}
use Rattle.rules.specs.Sizes.{less, more, cmp_dim, cmp_defined, larger, compatible, row_compatible, join_dim}
use Rattle.rules.specs.Shapes.{scalar_shape, any_shape, is_scalar, row_count, rank, row_shape, says_yes, says_no, failing_from, compatible_dims, compatible_with, compatible_shapes}
use Rattle.rules.specs.Shapes.{merge_dims, merge_closing, merge_from, join_dims, join_longer, join_ends, join_closing, join_shapes}
use Rattle.rules.specs.Order.{code_of, cmp_list, cmp_shape, cmp_name, cmp_scalar, compare}
use Rattle.rules.specs.Scalars.{superset_codes, superset_of, compatible_codes, compatible_scalars, compatible_with_boxes, union, unrefine_kind, unrefine}
use Rattle.rules.specs.Pervade.{against_absent, together, walk, pervade_closing, pervade}
use Rattle.rules.specs.PervadeInSheets.{in_sheets_at, pervade_in_sheets}
use Rattle.rules.specs.Types.{any_ty, field_in, first_field, last_field, nth_field, row_scalar, row_by, into_row, into_last_row, into_nth_row, unboxed, boxes, copies, copies_for, as_boxes}

-- ---- how examples are written

-- [sizes], and [..sizes]
abbrev pub closed : List Dim → Shape
closed o = shape o none

abbrev pub ending : List Dim → Shape
ending c = shape [] (some c)

-- [sizes] of static sizes, and [sizes..]
abbrev pub statics : List ℕ → Shape
statics ns = closed (map static ns)

abbrev pub starting : List ℕ → Shape
starting ns = shape (map static ns) (some [])

-- a kind under a shape
abbrev pub of : Kind → Shape → Ty
of k s = ty s (plain k)

-- ---- sizes and shapes

-- Only 1 stands below ?.
pub larger-unknown : (larger (static 2) unknown ≡ static 2) × (larger unknown (static 2) ≡ static 2) × (larger unknown (static 1) ≡ unknown)
unfolding cmp_dim larger
larger-unknown = (refl, refl, refl)

-- `cmp_defined` puts ? below all statics, 1 among them.
pub defined_unknown : (n : ℕ) → (cmp_defined unknown (static n) ≡ less) × (cmp_defined (static n) unknown ≡ more)
unfolding cmp_defined
defined_unknown n = (refl, refl)

-- Sizes are compatible if equal or either is ?; for a row also if either is 1.
pub compatible-one :
    (row_compatible (static 1) (static 3) ≡ true)
    × (row_compatible (static 3) (static 1) ≡ true)
    × (row_compatible (static 2) (static 3) ≡ false)
    × (compatible (static 1) (static 3) ≡ false)
    × (compatible (static 3) unknown ≡ true)
unfolding compatible row_compatible
compatible-one = (refl, refl, refl, refl, refl)

-- The row count of [] is 1, of [..3] ?, of [2..3] 2. Rank is both counts added: 3 of [2..3 4].
pub rows-counted :
    (row_count scalar_shape ≡ static 1)
    × (row_count (ending (static 3 ∷ [])) ≡ unknown)
    × (row_count (shape (static 2 ∷ []) (some (static 3 ∷ []))) ≡ static 2)
unfolding row_count
rows-counted = (refl, refl, refl)

pub rank-both : rank (shape (static 2 ∷ []) (some (static 3 ∷ static 4 ∷ []))) ≡ 3
unfolding rank
rank-both = refl

-- `compatible_with` (document 02, 2026-07): of several indices that fail the greatest is named, be it the last or not: 2 for [2 3 4] with [2 5 6],
-- 1 for [5 3 4] with [2 6 4], 0 for [2 3] with [5 1].
pub greatest-named :
    (compatible_with (statics (2 ∷ 3 ∷ 4 ∷ [])) (statics (2 ∷ 5 ∷ 6 ∷ [])) ≡ says_no (some 2))
    × (compatible_with (statics (5 ∷ 3 ∷ 4 ∷ [])) (statics (2 ∷ 6 ∷ 4 ∷ [])) ≡ says_no (some 1))
    × (compatible_with (statics (2 ∷ 3 ∷ [])) (statics (5 ∷ 1 ∷ [])) ≡ says_no (some 0))
unfolding compatible row_compatible failing_from compatible_dims compatible_with
greatest-named = (refl, refl, refl)

-- Where the counts of opening sizes differ none is named: not of [2] with [5 3], of which index 0 would fail, nor of [2..3] with [2 3].
pub none_named :
    (compatible_with (statics (2 ∷ [])) (statics (5 ∷ 3 ∷ [])) ≡ says_no none)
    × (compatible_with (shape (static 2 ∷ []) (some (static 3 ∷ []))) (statics (2 ∷ 3 ∷ [])) ≡ says_no none)
unfolding compatible row_compatible failing_from compatible_dims compatible_with
none_named = (refl, refl)

-- Yes to [] with itself, to [2 3] with [1 ?], and to [2..3] with [2..4] and with [2], since closing sizes are not looked at.
pub yes-said :
    (compatible_with scalar_shape scalar_shape ≡ says_yes)
    × (compatible_with (statics (2 ∷ 3 ∷ [])) (closed (static 1 ∷ unknown ∷ [])) ≡ says_yes)
    × (compatible_with (shape (static 2 ∷ []) (some (static 3 ∷ []))) (shape (static 2 ∷ []) (some (static 4 ∷ []))) ≡ says_yes)
    × (compatible_with (shape (static 2 ∷ []) (some (static 3 ∷ []))) (statics (2 ∷ [])) ≡ says_yes)
unfolding compatible row_compatible failing_from compatible_dims compatible_with
yes-said = (refl, refl, refl, refl)

-- Closing sizes merge from the front too, the larger at a shared index: [..2 3] and [..5] give [..5 3].
pub merge-closing :
    (merge_from (ending (static 2 ∷ static 3 ∷ [])) (ending (static 5 ∷ [])) ≡ ending (static 5 ∷ static 3 ∷ []))
    × (merge_from (ending (static 5 ∷ [])) (ending (static 2 ∷ static 3 ∷ [])) ≡ ending (static 5 ∷ static 3 ∷ []))
unfolding cmp_dim larger merge_dims merge_closing merge_from
merge-closing = (refl, refl)

-- Past the shorter list a closing size is ?: [..4] with [..2 3 4] gives [..? 4 ?].
pub join-ends : join_shapes (ending (static 4 ∷ [])) (ending (static 2 ∷ static 3 ∷ static 4 ∷ [])) ≡ ending (unknown ∷ static 4 ∷ unknown ∷ [])
unfolding join_dim join_dims join_longer join_ends join_closing join_shapes
join-ends = refl

-- 1 is ? only where the other has no size: [2 1] with [1] gives [2 ?], and [1] with [1] gives [1].
pub pervade-one :
    (pervade false false (statics (2 ∷ 1 ∷ [])) (statics (1 ∷ [])) ≡ some (closed (static 2 ∷ unknown ∷ [])))
    × (pervade false false (statics (1 ∷ [])) (statics (1 ∷ [])) ≡ some (statics (1 ∷ [])))
unfolding against_absent together walk pervade_closing pervade
pervade-one = (refl, refl)

-- The smaller's side is the one to be filled: [5] with [2] gives [5] if the second is.
pub pervade-filled :
    (pervade true false (statics (5 ∷ [])) (statics (2 ∷ [])) ≡ none)
    × (pervade false true (statics (5 ∷ [])) (statics (2 ∷ [])) ≡ some (statics (5 ∷ [])))
    × (pervade true false (statics (2 ∷ [])) (statics (5 ∷ [])) ≡ some (statics (5 ∷ [])))
unfolding cmp_dim together walk pervade_closing pervade
pervade-filled = (refl, refl, refl)

-- ---- pervading in sheets (document 02, 2026-01)

-- [?]
abbrev unknown_size : Shape
unknown_size = closed (unknown ∷ [])

-- [12], filled, with [?], [..] and [..3] is ?, whichever stands first; with both filled too.
pub twelve-unknown :
    (pervade_in_sheets true false (statics (12 ∷ [])) unknown_size ≡ some unknown_size)
    × (pervade_in_sheets false true unknown_size (statics (12 ∷ [])) ≡ some unknown_size)
    × (pervade_in_sheets true true (statics (12 ∷ [])) unknown_size ≡ some unknown_size)
    × (pervade_in_sheets true false (statics (12 ∷ [])) any_shape ≡ some (shape (unknown ∷ []) (some [])))
    × (pervade_in_sheets true false (statics (12 ∷ [])) (ending (static 3 ∷ [])) ≡ some (shape (unknown ∷ []) (some (static 3 ∷ []))))
unfolding together walk pervade_closing in_sheets_at pervade_in_sheets
twelve-unknown = (refl, refl, refl, refl, refl)

-- It stays 12 with [1..] and with [], which is closed; and where the other side is the filled one.
pub twelve-stays :
    (pervade_in_sheets true false (statics (12 ∷ [])) (starting (1 ∷ [])) ≡ some (starting (12 ∷ [])))
    × (pervade_in_sheets true false (statics (12 ∷ [])) scalar_shape ≡ some (statics (12 ∷ [])))
    × (pervade_in_sheets false true (statics (12 ∷ [])) unknown_size ≡ some (statics (12 ∷ [])))
    × (pervade_in_sheets false true (statics (12 ∷ [])) any_shape ≡ some (starting (12 ∷ [])))
unfolding against_absent together walk pervade_closing in_sheets_at pervade_in_sheets
twelve-stays = (refl, refl, refl, refl)

-- 0 is a static size other than 1: [0] filled with [?] is ?, and with [1] stays 0, since 1 yields.
pub none_filled :
    (pervade_in_sheets true false (statics (0 ∷ [])) unknown_size ≡ some unknown_size)
    × (pervade_in_sheets true true (statics (0 ∷ [])) (statics (1 ∷ [])) ≡ some (statics (0 ∷ [])))
unfolding together walk pervade_closing in_sheets_at pervade_in_sheets
none_filled = (refl, refl)

-- 1 yields to ? as ever; and an index that gives ? does not save a later one that refuses.
pub one-filled :
    (pervade_in_sheets true false (statics (1 ∷ [])) unknown_size ≡ some unknown_size)
    × (pervade_in_sheets true false (statics (12 ∷ 4 ∷ [])) (closed (unknown ∷ static 3 ∷ [])) ≡ none)
unfolding cmp_dim together walk pervade_closing in_sheets_at pervade_in_sheets
one-filled = (refl, refl)

-- The separate call says 12 with [?] and with [..].
pub twelve-apart :
    (pervade true false (statics (12 ∷ [])) unknown_size ≡ some (statics (12 ∷ [])))
    × (pervade true false (statics (12 ∷ [])) any_shape ≡ some (starting (12 ∷ [])))
unfolding against_absent together walk pervade_closing pervade
twelve-apart = (refl, refl)

-- ---- scalars

-- Char is over Ascii, and Ascii not over Char. A Stream and a Box are compatible, though neither is over the other.
pub char-over-ascii : (superset_of (plain char) (plain ascii) ≡ true) × (superset_of (plain ascii) (plain char) ≡ false)
unfolding code code_of superset_codes superset_of
char-over-ascii = (refl, refl)

pub stream_with_box :
    (compatible_scalars (plain stream) box_any ≡ true)
    × (compatible_scalars box_any (plain stream) ≡ true)
    × (superset_of (plain stream) box_any ≡ false)
    × (superset_of box_any (plain stream) ≡ false)
unfolding code code_of superset_codes superset_of compatible_codes compatible_scalars
stream_with_box = (refl, refl, refl, refl)

-- Every box is over every box, so that the first is given: box Any with Def, Def with box Any.
pub union-boxes : (n : Option (List ℕ)) (f : Fields) → (union box_any (box_def n f) ≡ box_any) × (union (box_def n f) box_any ≡ box_def n f)
unfolding code code_of superset_codes superset_of union
union-boxes n f = (refl, refl)

-- The union of two All boxes is All of the later type, whichever stands first: of Int [2] and Num [2] it is Num [2], of Num [1] and
-- Num [?] it is Num [?]. It is box Any if their scalars are not compatible, or their shapes.
pub union-later :
    (union (box_of (of int (statics (2 ∷ [])))) (box_of (of num (statics (2 ∷ [])))) ≡ box_of (of num (statics (2 ∷ []))))
    × (union (box_of (of num (statics (2 ∷ [])))) (box_of (of int (statics (2 ∷ [])))) ≡ box_of (of num (statics (2 ∷ []))))
    × (union (box_of (of num (closed (unknown ∷ [])))) (box_of (of num (statics (1 ∷ [])))) ≡ box_of (of num (closed (unknown ∷ []))))
unfolding cmp_dim compatible row_compatible failing_from compatible_dims compatible_with compatible_shapes code code_of cmp_list cmp_shape cmp_scalar compare superset_codes compatible_codes compatible_scalars compatible_with_boxes union
union-later = (refl, refl, refl)

pub union-unlike :
    (union (box_of (of num scalar_shape)) (box_of (of char scalar_shape)) ≡ box_any)
    × (union (box_of (of num (statics (2 ∷ [])))) (box_of (of num (statics (3 ∷ [])))) ≡ box_any)
unfolding compatible row_compatible failing_from compatible_dims compatible_with compatible_shapes code code_of superset_codes compatible_codes compatible_scalars compatible_with_boxes union
union-unlike = (refl, refl)

-- Complex stays, Ascii becomes Char, Bool becomes Num; in boxes too.
pub unrefined :
    (unrefine (plain complex) ≡ plain complex)
    × (unrefine (plain ascii) ≡ plain char)
    × (unrefine (box_of (of bool scalar_shape)) ≡ box_of (of num scalar_shape))
unfolding unrefine_kind unrefine
unrefined = (refl, refl, refl)

-- ---- the order

-- Scalar first, then shape: Int [3] before Num [2]. Box Any, All, Def.
pub order-scalars :
    (compare (of int (statics (3 ∷ []))) (of num (statics (2 ∷ []))) ≡ less)
    × (cmp_scalar box_any (box_of any_ty) ≡ less)
    × (cmp_scalar (box_of any_ty) (box_def none no_fields) ≡ less)
    × (cmp_scalar (box_def none no_fields) (box_of any_ty) ≡ more)
unfolding code code_of cmp_scalar compare
order-scalars = (refl, refl, refl, refl)

-- No name before a name, though it be empty; names by bytes, not by length: b after aa.
pub order-names :
    (cmp_scalar (box_def none (field_of any_ty no_fields)) (box_def (some []) no_fields) ≡ less)
    × (cmp_scalar (box_def (some (98 ∷ [])) no_fields) (box_def (some (97 ∷ 97 ∷ [])) no_fields) ≡ more)
unfolding cmp_list cmp_name cmp_scalar
order-names = (refl, refl)

-- Opening sizes before closing ones: [2..4] before [3]. Closed before open: [2] before [2..]. By the first difference, then length: [2]
-- before [2 0], [3] after [2 4].
pub order-shapes :
    (cmp_shape (shape (static 2 ∷ []) (some (static 4 ∷ []))) (statics (3 ∷ [])) ≡ less)
    × (cmp_shape (statics (2 ∷ [])) (starting (2 ∷ [])) ≡ less)
    × (cmp_shape (statics (2 ∷ [])) (statics (2 ∷ 0 ∷ [])) ≡ less)
    × (cmp_shape (statics (3 ∷ [])) (statics (2 ∷ 4 ∷ [])) ≡ more)
unfolding cmp_dim cmp_list cmp_shape
order-shapes = (refl, refl, refl, refl)

-- ---- rows, contents and fields

-- a Def of Num [] and Char [], under a shape
abbrev pair : Shape → Ty
pair s = ty s (box_def none (field_of (of num scalar_shape) (field_of (of char scalar_shape) no_fields)))

-- At rank 1 a Def's row is All of a field: the second for n = 1, the first again if n is too large; [..] of Any if there is none.
pub nth-rows :
    (into_nth_row 1 (pair (statics (2 ∷ []))) ≡ ty scalar_shape (box_of (of char scalar_shape)))
    × (into_nth_row 2 (pair (statics (2 ∷ []))) ≡ ty scalar_shape (box_of (of num scalar_shape)))
    × (into_nth_row 0 (ty (statics (2 ∷ [])) (box_def none no_fields)) ≡ ty scalar_shape (box_of any_ty))
unfolding rank row_shape field_in first_field nth_field row_scalar row_by
nth-rows = (refl, refl, refl)

-- Its row is of the first and its last row of the last; at rank 2 a Def stays.
pub def-rows :
    (into_row (pair (statics (2 ∷ []))) ≡ ty scalar_shape (box_of (of num scalar_shape)))
    × (into_last_row (pair (statics (2 ∷ []))) ≡ ty scalar_shape (box_of (of char scalar_shape)))
    × (into_row (pair (statics (2 ∷ 3 ∷ []))) ≡ pair (statics (3 ∷ [])))
unfolding rank row_shape first_field last_field row_scalar row_by
def-rows = (refl, refl, refl)

-- `unboxed` of a Def is its first field; under a shape other than [] it stays. Of box Any it is [..] of Any.
pub def-unboxed :
    (unboxed (pair scalar_shape) ≡ of num scalar_shape)
    × (unboxed (pair (statics (2 ∷ []))) ≡ pair (statics (2 ∷ [])))
    × (unboxed (ty scalar_shape box_any) ≡ any_ty)
unfolding is_scalar first_field unboxed
def-unboxed = (refl, refl, refl)

-- ? rows give one copy, no rows none, 32 are refused; a Def lists its own fields, whatever its rows.
pub boxes-copied :
    (as_boxes (ty (closed (unknown ∷ [])) box_any) ≡ accepted (some (boxes none (field_of any_ty no_fields))))
    × (as_boxes (ty (statics (0 ∷ [])) (box_of any_ty)) ≡ accepted (some (boxes none no_fields)))
    × (as_boxes (ty (statics (32 ∷ [])) box_any) ≡ refused too_many 0)
    × (as_boxes (ty (statics (32 ∷ [])) (box_def none no_fields)) ≡ accepted (some (boxes none no_fields)))
    × (as_boxes any_ty ≡ accepted none)
unfolding row_count copies copies_for as_boxes
boxes-copied = (refl, refl, refl, refl, refl)
