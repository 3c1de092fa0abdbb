-- Room that suffices for a text, by how many types it shows and how many bytes these take.
use Rattle.std.specs.Prelude.{ℕ, ◌+◌, ◌*◌}
use Rattle.machine.specs.SheetLimits.{max_stack, result_bytes}

-- a number of 64 bits in decimal
abbrev pub number_room : ℕ
number_room = 20

-- a word of three characters and two numbers with a space between them
abbrev pub head_room : ℕ
head_room = 3 + number_room + 1 + number_room

-- a line of a type of so many bytes, behind so many bytes between lines
abbrev pub line_room : ℕ → ℕ → ℕ
line_room between bytes = between + number_room + 1 + 2 * bytes

-- all lines of so many types
abbrev pub lines_room : ℕ → ℕ → ℕ → ℕ
lines_room between types bytes = types * (between + number_room + 1) + 2 * bytes

-- the whole text
abbrev pub text_room : ℕ → ℕ → ℕ → ℕ
text_room between types bytes = head_room + lines_room between types bytes

-- what the program prints, a line feed after it
abbrev pub print_room : ℕ
print_room = text_room 1 max_stack (result_bytes max_stack) + 1
