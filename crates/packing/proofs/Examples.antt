-- How types lie in the scratch, in numbers, once: seven bytes a size, 4,288 for any type; no marks, and what stands in their record beside
-- them in its order. Each holds by computation.
use Rattle.std.specs.Prelude.{ℕ, List, [], ◌∷◌, ◌≡◌, refl}
use Rattle.std.proofs.Math.Option.{none, some}
use Rattle.model.specs.Types.{static, unknown, shape, num, any, plain, box_any, box_all, box_def, no_fields, field, ty}
use Rattle.format.specs.Reader.{bytes_of}
use Rattle.format.specs.Records.{code}
use Rattle.machine.specs.SheetLimits.{max_packed}
use Rattle.packing.specs.Packed.{packed_size, packed_ones, pack_shape, pack_scalar, pack_ty}

pub packing_limited : ◌≡◌ {A = List ℕ} (packed_size ∷ packed_ones ∷ max_packed ∷ []) (7 ∷ 72057594037927935 ∷ 4288 ∷ [])
packing_limited = refl

-- low byte first, all ones for ?: [258 2^53..?] Num
pub sizes_packed :
    pack_ty (ty (shape (static 258 ∷ static 9007199254740992 ∷ []) (some (unknown ∷ []))) (plain num))
    ≡ 2 ∷ 1 ∷ 2 ∷ 1 ∷ 0 ∷ 0 ∷ 0 ∷ 0 ∷ 0 ∷ 0 ∷ 0 ∷ 0 ∷ 0 ∷ 0 ∷ 0 ∷ 32 ∷ 255 ∷ 255 ∷ 255 ∷ 255 ∷ 255 ∷ 255 ∷ 255 ∷ 3 ∷ []
unfolding bytes_of code pack_shape pack_scalar pack_ty
sizes_packed = refl

-- an empty closing list, and none: [..] Any, [] Any
pub closings_packed : (pack_ty (ty (shape [] (some [])) (plain any)) ≡ 0 ∷ 0 ∷ 9 ∷ []) × (pack_ty (ty (shape [] none) (plain any)) ≡ 0 ∷ 255 ∷ 9 ∷ [])
unfolding code pack_shape pack_scalar pack_ty
closings_packed = (refl, refl)

-- a box of anything; an All box of [] Num; a Def of the name 'n' and no field, and one of no name with the field [] Num
pub boxes_packed :
    (pack_scalar box_any ≡ 8 ∷ 0 ∷ [])
    × (pack_scalar (box_all (shape [] none) (plain num)) ≡ 8 ∷ 1 ∷ 0 ∷ 255 ∷ 3 ∷ [])
    × (pack_scalar (box_def (some (110 ∷ [])) no_fields) ≡ 8 ∷ 2 ∷ 1 ∷ 110 ∷ 0 ∷ [])
    × (pack_scalar (box_def none (field (shape [] none) (plain num) no_fields)) ≡ 8 ∷ 2 ∷ 255 ∷ 1 ∷ 0 ∷ 255 ∷ 3 ∷ [])
unfolding code pack_shape pack_scalar
boxes_packed = (refl, refl, refl, refl)
