-- The numbers of the papers as they stand there, once: the sixteen refusals, by document 01's table and what document 02 adds to it, and
-- the limits of a type (the bytes of a name: `format`, Examples). Everything else cites the names.
use Rattle.std.specs.Prelude.{ℕ, ◌-◌, ◌^◌, List, [], ◌∷◌, ◌≡◌, refl}
use Rattle.model.specs.Limits.{max_size, ones, max_sizes, max_name, max_fields, max_types, max_depth, max_bytes}
use Rattle.model.specs.Refusals.{ended, unmarked, out_of_range, oversized, too_many, trailing, too_short, unpervaded, wrong_scalar, wrong_shape, underflow, overflow, not_a_size, wrong_count, undeclared, too_many_names, refusals}

-- bytes end; no mark; out of range; size above 2^53; over the limits; bytes after a lone type; buffer too short; pervading, scalar and
-- shape mismatch; step lacks types; seventh type or 65th step; no size; a count that cannot fit; name never declared; seventeenth name
pub refusals-numbered :
    ◌≡◌ {A = List ℕ}
    (ended ∷ unmarked ∷ out_of_range ∷ oversized ∷ too_many ∷ trailing ∷ too_short ∷ unpervaded ∷ wrong_scalar ∷ wrong_shape ∷ underflow ∷ overflow ∷ not_a_size ∷ wrong_count ∷ undeclared ∷ too_many_names ∷ [])
    (1 ∷ 2 ∷ 3 ∷ 4 ∷ 5 ∷ 6 ∷ 7 ∷ 8 ∷ 9 ∷ 10 ∷ 11 ∷ 12 ∷ 13 ∷ 14 ∷ 15 ∷ 16 ∷ [])
refusals-numbered = refl

-- and there are no others
pub refusals-all : refusals ≡ 1 ∷ 2 ∷ 3 ∷ 4 ∷ 5 ∷ 6 ∷ 7 ∷ 8 ∷ 9 ∷ 10 ∷ 11 ∷ 12 ∷ 13 ∷ 14 ∷ 15 ∷ 16 ∷ []
refusals-all = refl

-- a size up to 2^53; eight bytes, all ones, for ?
pub sizes-limited : ◌≡◌ {A = List ℕ} (max_size ∷ ones ∷ []) ((2 ^ 53) ∷ (256 ^ 8 - 1) ∷ [])
sizes-limited = refl

-- eight sizes, a name of 16 bytes, 31 fields, 32 types, eight deep, 4,992 bytes
pub types-limited : ◌≡◌ {A = List ℕ} (max_sizes ∷ max_name ∷ max_fields ∷ max_types ∷ max_depth ∷ max_bytes ∷ []) (8 ∷ 16 ∷ 31 ∷ 32 ∷ 8 ∷ 4992 ∷ [])
types-limited = refl
