-- Room that suffices for a line of the table, and for the whole of it.
use Rattle.std.specs.Prelude.{ℕ, ◌+◌, ◌*◌}
use Rattle.rules.specs.KindTable.{number_count}
use Rattle.report.specs.Room.{number_room}

abbrev pub line_room : ℕ
line_room = number_room + 1

abbrev pub table_room : ℕ
table_room = number_count * line_room
