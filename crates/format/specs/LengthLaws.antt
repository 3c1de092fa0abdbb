-- The length of the type that begins some bytes: of a type that was written it is that of its bytes, whatever follows them; a lone type has all
-- bytes; and where a length is answered, so many bytes are there, and they are a type's.
use Rattle.std.specs.Prelude.{ℕ, ◌+◌, ◌≤◌, List, [], ◌++◌, ◌≡◌, refl, length, drop}
use Rattle.std.proofs.Common.{arith, append-nil, ap, ◌∙◌}
use Rattle.model.specs.Limits.{max_bytes}
use Rattle.model.specs.Types.{Ty}
use Rattle.model.specs.Within.{Within}
use Rattle.format.specs.Reader.{Bytes, Read, got, stopped}
use Rattle.format.specs.Records.{write_ty, read_type}
use Rattle.format.specs.Outcome.{accepted, lone, place_after, type_length}
use Rattle.format.specs.ReadWrite.{read_write, lone_write}
use Rattle.format.specs.WriteRead.{write_read}
use Rattle.format.specs.Suffices.{suffices}

pub length-written : (t : Ty) → Within t → (rest : List ℕ) → type_length (write_ty t ++ rest) ≡ accepted (length (write_ty t))
unfolding type_length
length-written t within rest =
    let from_0 : 0 + length (write_ty t) ≡ length (write_ty t) = omega arith in
    ap place_after ((write_read (write_ty t ++ rest) t within).run 0 rest refl) ∙ ap accepted from_0

pub length-lone : (s : List ℕ) → Bytes s → (t : Ty) → lone s ≡ accepted t → type_length s ≡ accepted (length s)
length-lone s bytes t e =
    let (same, within) = lone_write s bytes t e in
    let front : type_length (write_ty t) ≡ accepted (length (write_ty t)) = rw append-nil at (length-written t within []) in
    rw same at front

-- Whatever the bytes are.
pub length_front : (s : List ℕ) → Bytes s → (n : ℕ) → type_length s ≡ accepted n
    → (t : Ty) × Within t × (s ≡ write_ty t ++ drop n s) × (n ≡ length (write_ty t)) × (n ≤ max_bytes)
unfolding type_length
length_front s bytes n e = go (read_type s 0) refl e
  where
    go : (r : Read Ty) → read_type s 0 ≡ r → place_after r ≡ accepted n → (t : Ty) × Within t × (s ≡ write_ty t ++ drop n s) × (n ≡ length (write_ty t)) × (n ≤ max_bytes)
    go (stopped k p) h e = let z : ◌≡◌ {A = ℕ} 0 1 = cc in absurd (omega arith)
    go (got t next) h e =
        let same : next ≡ n = cc in
        let (took, within) = read_write s bytes 0 t next h in
        let bytes_are : s ≡ write_ty t ++ drop next s = took.is in
        let written : type_length s ≡ accepted (length (write_ty t)) = rw (← bytes_are) at (length-written t within (drop next s)) in
        let long : next ≡ length (write_ty t) = cc in
        (t, within, rw (← same) bytes_are, rw (← same) long, omega (arith, same, long, suffices t within))
