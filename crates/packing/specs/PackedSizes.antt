-- A size as a number: packed it is the seven low bytes of its record's number, and the packed number tells the record's.
use Rattle.std.specs.Prelude.{ℕ, ◌+◌, ◌*◌, cond, List, ◌≡◌, refl, eqb, get_or}
use Rattle.std.proofs.Common.{arith, ne_eqb}
use Rattle.model.specs.Limits.{ones}
use Rattle.model.specs.Types.{Dim, static, unknown}
use Rattle.model.specs.Within.{DimWithin}
use Rattle.format.specs.Reader.{bytes_of}
use Rattle.format.specs.Records.{dim_number}
use Rattle.packing.specs.Packed.{packed_size, packed_ones, packed_number}

-- seven bytes from a place on, low byte first
abbrev pub seven_bytes : List ℕ → ℕ → ℕ
seven_bytes s at =
    get_or s at 0 + 256 * (get_or s (at + 1) 0 + 256 * (get_or s (at + 2) 0 + 256 * (get_or s (at + 3) 0 + 256 * (get_or s (at + 4) 0 + 256 * (get_or s (at + 5) 0 + 256 * get_or s (at + 6) 0)))))

-- the record's number, by the packed one
abbrev pub unpacked_number : ℕ → ℕ
unpacked_number n = cond (eqb n packed_ones) ones n

pub low_seven : (d : Dim) → bytes_of packed_size (dim_number d) ≡ bytes_of packed_size (packed_number d)
unfolding bytes_of
low_seven (static n) = refl
low_seven unknown = refl

pub unpacked-number : (d : Dim) → DimWithin d → unpacked_number (packed_number d) ≡ dim_number d
unpacked-number (static n) h = rw (ne_eqb n packed_ones (λ e. omega arith))
unpacked-number unknown h = refl
