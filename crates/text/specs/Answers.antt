-- What the answers of this crate say, in the terms of the definitions.
use Rattle.std.specs.Prelude.{ℕ, List, Result, Ok, Err, Some, None}
use Rattle.std.specs.Prelude as code
use Rattle.std.proofs.Math.Option.{Option, none, some}
use Rattle.text.specs.Place.{Placing, placed, no_room, not_hex}
use Rattle.text.specs.declared.DecodeError.{DecodeError}
use Rattle.text.specs.declared.DecodeError.TheVariants.{NoRoom, NotHex}

abbrev pub number_of : code.Option ℕ → Option ℕ
number_of (Some n) = some n
number_of None = none

-- a digit's worth, more than any where it is none
abbrev pub worth_of : code.Option ℕ → ℕ
worth_of (Some d) = d
worth_of None = 16

-- the place after what was put into a buffer, or that it has no room there
abbrev pub placing : code.Option ℕ → List ℕ → Placing
placing (Some next) buffer = placed next buffer
placing None buffer = no_room buffer

abbrev pub decoding : Result ℕ DecodeError → List ℕ → Placing
decoding (Ok next) buffer = placed next buffer
decoding (Err NoRoom) buffer = no_room buffer
decoding (Err NotHex) buffer = not_hex buffer
