-- The records of document 01, "Record bytes": what is written for a shape, a scalar and a type, and how each is read.
-- Reading judges a mark and a size once all their bytes are there, and a count, a code or a byte of a name as it is read.
-- A refusal names the first byte of the record begun or due (the innermost one with a mark of its own), and for more types or
-- depth than allowed that of the type.
use Rattle.std.specs.Prelude.{ℕ, zero, suc, ◌-◌, Bool, ◌&&◌, ◌||◌, cond, List, [], ◌∷◌, ◌++◌, length, get_or, eqb, leb}
use Rattle.std.proofs.Math.Option.{Option, none, some}
use Rattle.model.specs.Limits.{max_size, ones, max_sizes, max_name, max_fields, first_printing, last_printing, max_types, max_depth}
use Rattle.model.specs.Refusals.{unmarked, out_of_range, oversized, too_many}
use Rattle.model.specs.Types.{Dim, static, unknown, Shape, shape, Kind, bool, nat, int, num, complex, ascii, char, stream, any, Scalar, plain, box_any, box_all, box_def, Fields, no_fields, field, Ty, ty, box_of, field_of, field_count, types}
use Rattle.format.specs.Reader.{Reader, ◌>>=◌, ◌>>◌, give, stop, need, here, byte, judged, number, bytes_of}

-- ---- marks and codes

-- The two bytes that start a record.
pub data Mark : Type 0 where
  mark : ℕ → ℕ → Mark

abbrev pub shape_mark : Mark
shape_mark = mark 0x53 0x48

abbrev pub scalar_mark : Mark
scalar_mark = mark 0x53 0x43

abbrev pub box_mark : Mark
box_mark = mark 0x42 0x58

abbrev pub mark_bytes : Mark → List ℕ
mark_bytes (mark a b) = a ∷ b ∷ []

-- The byte that stands for a missing count: of closing sizes in a closed shape, of a name where there is none.
abbrev pub absent : ℕ
absent = 255

-- The code of each kind, and of a box, in the paper's order.
unfoldable pub code : Kind → ℕ
code bool = 0
code nat = 1
code int = 2
code num = 3
code complex = 4
code ascii = 5
code char = 6
code stream = 7
code any = 9

abbrev pub box_code : ℕ
box_code = 8

unfoldable pub kind_of : ℕ → Option Kind
kind_of n = get_or (some bool ∷ some nat ∷ some int ∷ some num ∷ some complex ∷ some ascii ∷ some char ∷ some stream ∷ none ∷ some any ∷ []) n none

-- ---- writing

abbrev pub dim_number : Dim → ℕ
dim_number (static n) = n
dim_number unknown = ones

abbrev pub write_dims : List Dim → List ℕ
write_dims [] = []
write_dims (d ∷ ds) = bytes_of 8 (dim_number d) ++ write_dims ds

-- of a list that may be absent: its count, and what it holds
abbrev pub count_of : {A : Type 0} → Option (List A) → ℕ
count_of none = absent
count_of (some xs) = length xs

abbrev pub list_of : {A : Type 0} → Option (List A) → List A
list_of none = []
list_of (some xs) = xs

unfoldable pub write_shape : Shape → List ℕ
write_shape (shape o c) = mark_bytes shape_mark ++ (length o ∷ count_of c ∷ (write_dims o ++ write_dims (list_of c)))

-- a box's record up to its form: 0 Any, 1 All, 2 Def
abbrev pub box_start : ℕ → List ℕ
box_start form = mark_bytes scalar_mark ++ (box_code ∷ (mark_bytes box_mark ++ (form ∷ [])))

unfoldable mutual
  unfolding code

  pub write_scalar : Scalar → List ℕ
  write_scalar (plain k) = mark_bytes scalar_mark ++ (code k ∷ [])
  write_scalar box_any = box_start 0
  write_scalar (box_all s k) = box_start 1 ++ (write_shape s ++ write_scalar k)
  write_scalar (box_def n f) = box_start 2 ++ (count_of n ∷ (list_of n ++ (field_count f ∷ write_fields f)))

  pub write_fields : Fields → List ℕ
  write_fields no_fields = []
  write_fields (field s k f) = (write_shape s ++ write_scalar k) ++ write_fields f

-- A type is its shape's record, then its scalar's.
unfoldable pub write_ty : Ty → List ℕ
write_ty (ty s k) = write_shape s ++ write_scalar k

-- ---- reading

abbrev pub dim_of : ℕ → Dim
dim_of n = cond (eqb n ones) unknown (static n)

abbrev pub is_count : ℕ → ℕ → Bool
is_count most n = leb n most

-- a count, or the byte for a list that is absent
abbrev pub is_optional : ℕ → ℕ → Bool
is_optional most n = leb n most || eqb n absent

abbrev pub list_count : ℕ → ℕ
list_count n = cond (eqb n absent) 0 n

abbrev pub optional : {A : Type 0} → ℕ → List A → Option (List A)
optional n xs = cond (eqb n absent) none (some xs)

abbrev pub is_printing : ℕ → Bool
is_printing b = leb first_printing b && leb b last_printing

-- one of a box's three forms, by its code
abbrev pub form : {A : Type 0} → ℕ → A → A → A → A → A
form zero a b c d = a
form (suc zero) a b c d = b
form (suc (suc zero)) a b c d = c
form (suc (suc (suc n))) a b c d = d

abbrev pub or_stop : {A : Type 0} → Option A → ℕ → ℕ → Reader A
or_stop none k p = stop k p
or_stop (some a) k p = give a

module _ (s : List ℕ) where
  unfoldable pub read_mark : Mark → ℕ → Reader (Unit {0})
  read_mark (mark a b) p = do
    x ← byte s p
    y ← byte s p
    need (eqb x a && eqb y b) unmarked p

  unfoldable pub read_dim : ℕ → Reader Dim
  read_dim p = do
    n ← number s 8 p
    need (eqb n ones || leb n max_size) oversized p
    give (dim_of n)

  unfoldable pub read_dims : ℕ → ℕ → Reader (List Dim)
  read_dims zero p = give []
  read_dims (suc k) p = do
    d ← read_dim p
    ds ← read_dims k p
    give (d ∷ ds)

  unfoldable pub shape_from : ℕ → Reader Shape
  shape_from p = do
    read_mark shape_mark p
    m ← judged s (is_count max_sizes) p
    n ← judged s (is_optional max_sizes) p
    o ← read_dims m p
    c ← read_dims (list_count n) p
    give (shape o (optional n c))

  abbrev pub read_shape : Reader Shape
  read_shape = here shape_from

  unfoldable pub read_name : ℕ → ℕ → Reader (List ℕ)
  read_name zero p = give []
  read_name (suc k) p = do
    b ← judged s is_printing p
    n ← read_name k p
    give (b ∷ n)

  -- In what follows `go n` reads a type of at most n types, and n is how many types may still stand here.
  unfoldable pub read_fields : (ℕ → Reader Ty) → ℕ → ℕ → Reader Fields
  read_fields go zero n = give no_fields
  read_fields go (suc k) n = do
    t ← go n
    f ← read_fields go k (n - types t)
    give (field_of t f)

  unfoldable pub def_from : (ℕ → Reader Ty) → ℕ → ℕ → Reader Scalar
  def_from go n p = do
    c ← judged s (is_optional max_name) p
    name ← read_name (list_count c) p
    k ← judged s (is_count max_fields) p
    f ← read_fields go k n
    give (box_def (optional c name) f)

  abbrev pub all_from : (ℕ → Reader Ty) → ℕ → Reader Scalar
  all_from go n = do
    t ← go n
    give (box_of t)

  unfoldable pub box_from : (ℕ → Reader Ty) → ℕ → ℕ → Reader Scalar
  box_from go n p = do
    read_mark box_mark p
    c ← byte s p
    form c (give box_any) (all_from go n) (def_from go n p) (stop out_of_range p)

  abbrev pub plain_from : ℕ → ℕ → Reader Scalar
  plain_from c p = do
    k ← or_stop (kind_of c) out_of_range p
    give (plain k)

  unfoldable pub scalar_from : (ℕ → Reader Ty) → ℕ → ℕ → Reader Scalar
  scalar_from go n p = do
    read_mark scalar_mark p
    c ← byte s p
    cond (eqb c box_code) (here (box_from go n)) (plain_from c p)

  -- A type of at most n types, at most d deep: one more of either is refused before its bytes are looked at.
  unfoldable pub read_ty : ℕ → ℕ → Reader Ty
  read_ty zero n = here (stop too_many)
  read_ty (suc d) zero = here (stop too_many)
  read_ty (suc d) (suc n) = do
    t ← read_shape
    k ← here (scalar_from (read_ty d) n)
    give (ty t k)

  -- A type that stands at a place inside other bytes.
  abbrev pub read_type : Reader Ty
  read_type = read_ty max_depth max_types
