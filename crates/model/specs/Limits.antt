-- Every limit of a type in document 01, named once; those of a sheet stand in `machine` (SheetLimits). Definitions and theorems cite
-- the names and never the numbers.
use Rattle.std.specs.Prelude.{ℕ}

-- the largest static size, 2^53
abbrev pub max_size : ℕ
max_size = 9007199254740992

-- the number that stands for an unknown size: eight bytes, all ones
abbrev pub ones : ℕ
ones = 18446744073709551615

-- opening sizes of a shape; closing sizes of a shape
abbrev pub max_sizes : ℕ
max_sizes = 8

-- bytes of a name, a Def's or a table's (document 02, 2026-06); fields of a Def
abbrev pub max_name : ℕ
max_name = 16

abbrev pub max_fields : ℕ
max_fields = 31

-- the first and the last printing character of ASCII, between which every byte of a name is
abbrev pub first_printing : ℕ
first_printing = 32

abbrev pub last_printing : ℕ
last_printing = 126

-- types in one type, itself counted; the outermost is at depth 1
abbrev pub max_types : ℕ
max_types = 32

abbrev pub max_depth : ℕ
max_depth = 8

-- bytes that suffice for any type
abbrev pub max_bytes : ℕ
max_bytes = 4992
