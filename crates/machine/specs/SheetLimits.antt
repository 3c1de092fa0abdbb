-- The limits of a sheet (document 01, "The sheet, added"; document 02, 2026-04 to 2026-06), each named once and derived from its parts
-- where it has some. Definitions and theorems cite the names and never the numbers, which Examples sets beside the names.
use Rattle.std.specs.Prelude.{ℕ, ◌*◌}
use Rattle.model.specs.Limits.{max_bytes}

-- steps of a sheet
abbrev pub max_steps : ℕ
max_steps = 64

-- types on the stack: "six becomes the limit"
abbrev pub max_stack : ℕ
max_stack = 6

-- names in force: "up to 16 different names"; how long one may be stands in `model` (Limits)
abbrev pub max_names : ℕ
max_names = 16

-- bytes of scratch that suffice for any type there; its parts are `packing`'s (PackedLaws)
abbrev pub max_packed : ℕ
max_packed = 4288

-- bytes of scratch that a call asks for and zeroes: "a scratch of 25,728 a sheet", for each type on the stack as many
abbrev pub scratch_bytes : ℕ
scratch_bytes = max_stack * max_packed

-- bytes of a result that is never too short for so many types: "4,992 result bytes for each type left"
abbrev pub result_bytes : ℕ → ℕ
result_bytes types = types * max_bytes

-- bytes of a sheet that the program reads
abbrev pub program_bytes : ℕ
program_bytes = 49152
