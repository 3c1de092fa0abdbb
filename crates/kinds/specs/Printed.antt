-- What the program prints of a list of numbers (document 02, 2026-02): each in decimal, on a line of its own. A text is the list of its
-- ASCII codes.
use Rattle.std.specs.Prelude.{ℕ, List, [], ◌∷◌, ◌++◌}
use Rattle.text.specs.Digits.{decimal_of}
use Rattle.report.specs.Report.{line_feed}

abbrev pub number_line : ℕ → List ℕ
number_line n = decimal_of n ++ line_feed

unfoldable pub number_lines : List ℕ → List ℕ
number_lines [] = []
number_lines (n ∷ ns) = number_line n ++ number_lines ns
