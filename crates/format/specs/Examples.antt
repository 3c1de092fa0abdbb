-- The bytes of document 01 as they stand there, once: marks, codes, forms and the bytes of a name; what a lone type is refused with, by
-- the examples of its table; which of two inputs is refused first; and what a result buffer holds. Each holds by computation.
use Rattle.std.specs.Prelude.{ℕ, zero, suc, true, false, List, [], ◌∷◌, ◌++◌, map, ◌≡◌, refl}
use Rattle.std.proofs.Math.Option.{none, some}
use Rattle.model.specs.Refusals.{ended, unmarked, out_of_range, oversized, too_many, trailing, too_short}
use Rattle.model.specs.Types.{static, unknown, shape, bool, nat, int, num, complex, ascii, char, stream, any, plain, box_any, box_all, box_def, no_fields, field, ty}
use Rattle.format.specs.Reader.{byte, judged, number, bytes_of}
use Rattle.format.specs.Records.{shape_mark, scalar_mark, box_mark, mark_bytes, absent, code, box_code, kind_of, is_printing, write_shape, write_scalar, read_mark, read_dim, read_dims, shape_from, box_from, scalar_from, read_ty}
use Rattle.format.specs.Outcome.{Outcome, accepted, refused, both, lone, delivery, deliver}

-- ---- marks, codes and forms

-- shape 53 48, scalar 53 43, box 42 58
pub marks_are : (mark_bytes shape_mark ≡ 0x53 ∷ 0x48 ∷ []) × (mark_bytes scalar_mark ≡ 0x53 ∷ 0x43 ∷ []) × (mark_bytes box_mark ≡ 0x42 ∷ 0x58 ∷ [])
marks_are = (refl, refl, refl)

-- Bool 0, Nat 1, Int 2, Num 3, Complex 4, Ascii 5, Char 6, Stream 7, Box 8, Any 9
pub codes_are : map code (bool ∷ nat ∷ int ∷ num ∷ complex ∷ ascii ∷ char ∷ stream ∷ []) ++ (box_code ∷ code any ∷ []) ≡ 0 ∷ 1 ∷ 2 ∷ 3 ∷ 4 ∷ 5 ∷ 6 ∷ 7 ∷ 8 ∷ 9 ∷ []
unfolding code
codes_are = refl

-- 255 for closed, and for no name
pub absent-is : ◌≡◌ {A = ℕ} absent 255
absent-is = refl

-- opening count, closing count, then sizes, opening first, low byte first, all ones for ?: [258..?], and [] closed
pub shape-bytes :
    (write_shape (shape (static 258 ∷ []) (some (unknown ∷ []))) ≡ 0x53 ∷ 0x48 ∷ 1 ∷ 1 ∷ 2 ∷ 1 ∷ 0 ∷ 0 ∷ 0 ∷ 0 ∷ 0 ∷ 0 ∷ 255 ∷ 255 ∷ 255 ∷ 255 ∷ 255 ∷ 255 ∷ 255 ∷ 255 ∷ [])
    × (write_shape (shape [] none) ≡ 0x53 ∷ 0x48 ∷ 0 ∷ 255 ∷ [])
unfolding bytes_of write_shape
shape-bytes = (refl, refl)

-- a box is 0 Any, 1 All of a type, 2 Def: a name's length and its bytes, or 255, a field count and the fields
pub box-bytes :
    (write_scalar box_any ≡ 0x53 ∷ 0x43 ∷ 8 ∷ 0x42 ∷ 0x58 ∷ 0 ∷ [])
    × (write_scalar (box_all (shape [] none) (plain num)) ≡ 0x53 ∷ 0x43 ∷ 8 ∷ 0x42 ∷ 0x58 ∷ 1 ∷ 0x53 ∷ 0x48 ∷ 0 ∷ 255 ∷ 0x53 ∷ 0x43 ∷ 3 ∷ [])
    × (write_scalar (box_def (some (110 ∷ [])) no_fields) ≡ 0x53 ∷ 0x43 ∷ 8 ∷ 0x42 ∷ 0x58 ∷ 2 ∷ 1 ∷ 110 ∷ 0 ∷ [])
    × (write_scalar (box_def none (field (shape [] none) (plain num) no_fields)) ≡ 0x53 ∷ 0x43 ∷ 8 ∷ 0x42 ∷ 0x58 ∷ 2 ∷ 255 ∷ 1 ∷ 0x53 ∷ 0x48 ∷ 0 ∷ 255 ∷ 0x53 ∷ 0x43 ∷ 3 ∷ [])
unfolding code write_shape write_scalar
box-bytes = (refl, refl, refl, refl)

-- name bytes 32 to 126
pub printing_are : map is_printing (31 ∷ 32 ∷ 126 ∷ 127 ∷ []) ≡ false ∷ true ∷ true ∷ false ∷ []
printing_are = refl

-- ---- a lone type, refused

-- n times [] of an All box, and nothing in the last
abbrev boxes : ℕ → List ℕ
boxes zero = []
boxes (suc n) = 0x53 ∷ 0x48 ∷ 0 ∷ 255 ∷ 0x53 ∷ 0x43 ∷ 8 ∷ 0x42 ∷ 0x58 ∷ 1 ∷ boxes n

-- [] Num
abbrev one_num : List ℕ
one_num = 0x53 ∷ 0x48 ∷ 0 ∷ 255 ∷ 0x53 ∷ 0x43 ∷ 3 ∷ []

pub one-num : lone one_num ≡ accepted (ty (shape [] none) (plain num))
unfolding lone read_ty shape_from scalar_from read_mark read_dims judged byte kind_of
one-num = refl

-- 1 to 6 by the table: bytes that end, no mark, a count out of range, a size of 2^60, a ninth depth, [] Num and then 00. A kind and a
-- form that are none are 3 as well, the form at its box. The ninth depth is refused before its bytes are looked at, of which there
-- are none.
pub lone-refused :
    (lone (0x53 ∷ 0x48 ∷ 0x01 ∷ []) ≡ refused ended 0)
    × (lone (0x58 ∷ 0x58 ∷ []) ≡ refused unmarked 0)
    × (lone (0x53 ∷ 0x48 ∷ 0x09 ∷ []) ≡ refused out_of_range 0)
    × (lone (0x53 ∷ 0x48 ∷ 0 ∷ 255 ∷ 0x53 ∷ 0x43 ∷ 10 ∷ []) ≡ refused out_of_range 4)
    × (lone (0x53 ∷ 0x48 ∷ 0 ∷ 255 ∷ 0x53 ∷ 0x43 ∷ 8 ∷ 0x42 ∷ 0x58 ∷ 3 ∷ []) ≡ refused out_of_range 7)
    × (lone (0x53 ∷ 0x48 ∷ 1 ∷ 255 ∷ 0 ∷ 0 ∷ 0 ∷ 0 ∷ 0 ∷ 0 ∷ 0 ∷ 0x10 ∷ []) ≡ refused oversized 0)
    × (lone (boxes 8) ≡ refused too_many 80)
    × (lone (one_num ++ (0 ∷ [])) ≡ refused trailing 7)
unfolding lone read_ty shape_from scalar_from box_from read_mark read_dims read_dim judged byte number kind_of
lone-refused = (refl, refl, refl, refl, refl, refl, refl, refl)

-- ---- two inputs

-- Both refused, the first's refusal is answered, whatever is asked of them.
pub both-refused : {A B C : Type 0} (f : A → B → Outcome C) → both f (refused unmarked 7) (refused ended 0) ≡ refused unmarked 7
both-refused f = refl

-- ---- a result buffer

-- Three bytes to the front of four, the fourth stays; of three; into two; and a refusal.
pub delivered :
    (deliver (accepted (1 ∷ 2 ∷ 3 ∷ [])) (9 ∷ 9 ∷ 9 ∷ 9 ∷ []) ≡ delivery (accepted 3) (1 ∷ 2 ∷ 3 ∷ 9 ∷ []))
    × (deliver (accepted (1 ∷ 2 ∷ 3 ∷ [])) (9 ∷ 9 ∷ 9 ∷ []) ≡ delivery (accepted 3) (1 ∷ 2 ∷ 3 ∷ []))
    × (deliver (accepted (1 ∷ 2 ∷ 3 ∷ [])) (9 ∷ 9 ∷ []) ≡ delivery (refused too_short 0) (9 ∷ 9 ∷ []))
    × (deliver (refused unmarked 7) (9 ∷ 9 ∷ []) ≡ delivery (refused unmarked 7) (9 ∷ 9 ∷ []))
unfolding deliver
delivered = (refl, refl, refl, refl)
