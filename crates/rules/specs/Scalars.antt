-- Scalars (document 01, "scalar.rs"): `superset_of`, `compatible_with`, `compatible_with_boxes`, `union` and `unrefine`.
-- What goes by kinds alone goes by their codes and, where it goes by the paper's order, by the places of these.
use Rattle.std.specs.Prelude.{ℕ, Bool, ◌&&◌, ◌||◌, cond, eqb, leb}
use Rattle.model.specs.Types.{Kind, bool, nat, int, num, complex, ascii, char, stream, any, Scalar, plain, box_any, box_all, box_def, Fields, no_fields, field, Ty, ty, box_of}
use Rattle.format.specs.Records.{code, box_code}
use Rattle.rules.specs.Sizes.{later_by}
use Rattle.rules.specs.Shapes.{compatible_shapes}
use Rattle.rules.specs.Order.{code_of, kind_place, compare}

-- ---- kinds, by their codes

-- of two kinds up to Complex in the order, the later is over the earlier
abbrev pub over_number : ℕ → ℕ → Bool
over_number k l = leb (kind_place k) (kind_place (code complex)) && leb (kind_place l) (kind_place k)

-- Any over all; Complex, Num, Int, Nat, Bool each over the later ones; Char over Ascii; each over its own kind.
unfoldable pub superset_codes : ℕ → ℕ → Bool
unfolding kind_place
superset_codes k l = eqb k (code any) || over_number k l || (eqb k (code char) && eqb l (code ascii)) || eqb k l

abbrev pub stream_or_box : ℕ → Bool
stream_or_box k = eqb k (code stream) || eqb k box_code

-- Either over the other, or each a Stream or a Box.
unfoldable pub compatible_codes : ℕ → ℕ → Bool
compatible_codes k l = superset_codes k l || superset_codes l k || (stream_or_box k && stream_or_box l)

-- ---- scalars: any Box over any Box

unfoldable pub superset_of : Scalar → Scalar → Bool
superset_of k l = superset_codes (code_of k) (code_of l)

-- `compatible_with`
unfoldable pub compatible_scalars : Scalar → Scalar → Bool
compatible_scalars k l = compatible_codes (code_of k) (code_of l)

-- Two All boxes are asked for their contents, all others by kind.
unfoldable pub compatible_with_boxes : Scalar → Scalar → Bool
compatible_with_boxes (plain k) l = compatible_scalars (plain k) l
compatible_with_boxes box_any l = compatible_scalars box_any l
compatible_with_boxes (box_def n f) l = compatible_scalars (box_def n f) l
compatible_with_boxes (box_all s k) (plain l) = compatible_scalars (box_all s k) (plain l)
compatible_with_boxes (box_all s k) box_any = compatible_scalars (box_all s k) box_any
compatible_with_boxes (box_all s k) (box_def n g) = compatible_scalars (box_all s k) (box_def n g)
compatible_with_boxes (box_all s k) (box_all t l) = compatible_with_boxes k l && compatible_shapes s t

-- ---- union

-- The first that is equal or a superset (equal ones are supersets of each other), else the second if superset, else Any.
abbrev pub wider : Scalar → Scalar → Scalar
wider k l = cond (superset_of k l) k (cond (superset_of l k) l (plain any))

-- The later type in order.
abbrev pub later_ty : Ty → Ty → Ty
later_ty t u = later_by (compare t u) t u

-- Of two All boxes the later content if their contents are compatible, else box Any.
unfoldable pub union : Scalar → Scalar → Scalar
union (plain k) l = wider (plain k) l
union box_any l = wider box_any l
union (box_def n f) l = wider (box_def n f) l
union (box_all s k) (plain l) = wider (box_all s k) (plain l)
union (box_all s k) box_any = wider (box_all s k) box_any
union (box_all s k) (box_def n g) = wider (box_all s k) (box_def n g)
union (box_all s k) (box_all t l) = cond (compatible_with_boxes k l && compatible_shapes s t) (box_of (later_ty (ty s k) (ty t l))) box_any

-- ---- unrefine

-- Int, Nat and Bool become Num, Ascii becomes Char.
unfoldable pub unrefine_kind : Kind → Kind
unrefine_kind bool = num
unrefine_kind nat = num
unrefine_kind int = num
unrefine_kind num = num
unrefine_kind complex = complex
unrefine_kind ascii = char
unrefine_kind char = char
unrefine_kind stream = stream
unrefine_kind any = any

-- Unrefining reaches into boxes.
unfoldable mutual
  pub unrefine : Scalar → Scalar
  unrefine (plain k) = plain (unrefine_kind k)
  unrefine box_any = box_any
  unrefine (box_all s k) = box_all s (unrefine k)
  unrefine (box_def n f) = box_def n (unrefine_fields f)

  pub unrefine_fields : Fields → Fields
  unrefine_fields no_fields = no_fields
  unrefine_fields (field s k f) = field s (unrefine k) (unrefine_fields f)
