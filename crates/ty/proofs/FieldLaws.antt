-- Fields: where there is none, and the bytes of one that stands at a place.
use Prim.Native.Nat.{ℕ, zero, suc, ◌+◌, ◌≤◌}
use native.Mathlib.Omega.{arith}
use mathlib.Core.Path.{◌≡◌, refl}
use mathlib.Core.List.{List, ◌++◌}
use mathlib.Core.Option.{none}
use lib.ListN.{length, take, drop}
use Rattle.model.specs.Types.{Fields, no_fields, field, Ty, ty, field_count}
use Rattle.format.specs.Records.{write_ty}
use Rattle.format.specs.Views.{Stands, stands-within, stands-part}
use Rattle.rules.specs.Types.{field_in, stretch_in}
use Rattle.rules.proofs.ViewsLaws.{type_least}

pub no_stretch : (at n : ℕ) (f : Fields) → field_count f ≤ n → stretch_in at n f ≡ none
unfolding stretch_in
no_stretch at n no_fields h = refl
no_stretch at zero (field s k f) h = absurd (omega arith)
no_stretch at (suc n) (field s k f) h = no_stretch (at + length (write_ty (ty s k))) n f (omega arith)

pub no_field : (n : ℕ) (f : Fields) → field_count f ≤ n → field_in n f ≡ none
unfolding field_in
no_field n no_fields h = refl
no_field zero (field s k f) h = absurd (omega arith)
no_field (suc n) (field s k f) h = no_field n f (omega arith)

-- It begins with a part that says nothing, and that shows whose bytes stand there.
pub bytes_there : (s : List ℕ) (at : ℕ) (t : Ty) → Stands s at (write_ty t)
    → (write_ty t ++ drop (at + length (write_ty t)) s ≡ write_ty t ++ drop (at + length (write_ty t)) s) × (at + length (write_ty t) ≤ length s) × (take (length (write_ty t)) (drop at s) ≡ write_ty t)
bytes_there s at t h = (refl, stands-within s at (write_ty t) (type_least t) h, stands-part s at (write_ty t) h)
