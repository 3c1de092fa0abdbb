-- Worked examples: document 01's two, a refusal, two types left, and other characters between the lines.
use Rattle.std.specs.Prelude.{ℕ, List, [], ◌∷◌, ◌++◌, ◌≡◌, refl}
use Rattle.model.specs.Types.{inside, below}
use Rattle.model.specs.Within.{All}
use Rattle.format.specs.Reader.{byte, judged, number, bytes_of}
use Rattle.format.specs.Records.{code, kind_of, write_shape, write_scalar, write_ty, read_mark, read_dim, read_dims, shape_from, read_name, read_fields, def_from, box_from, scalar_from, read_ty}
use Rattle.rules.specs.Sizes.{cmp_dim, larger, compatible, join_dim}
use Rattle.rules.specs.Order.{code_of}
use Rattle.rules.specs.Scalars.{superset_codes, superset_of, union}
use Rattle.rules.specs.Pervade.{against_absent, together, walk, pervade_closing}
use Rattle.rules.specs.PervadeInSheets.{in_sheets_at, pervade_in_sheets}
use Rattle.machine.specs.Run.{pervade_types, step, steps}
use Rattle.machine.specs.Sheet.{opcode_from, argument_from, step_from, written_from, work_from, sheet_more, sheet_from, sheet_run}
use Rattle.machine.specs.Call.{write_types}
use Rattle.text.specs.Digits.{hex_of, decimal_within}
use Rattle.report.specs.Report.{line_feed, headed, type_line, type_lines, reported}

-- A sheet's bytes, what stands between two lines, and the text.
pub data Example : Type 0 where
  the_print : List ℕ → List ℕ → List ℕ → Example

abbrev pub Shown : Example → Type 0
Shown (the_print s between text) = reported between (sheet_run s) ≡ text

-- put [3] Num; put [?] Num; pervade 0; put [] Num
abbrev put3 : List ℕ
put3 = 0x50 ∷ 0x55 ∷ 0x53 ∷ 0x48 ∷ 0x01 ∷ 0xFF ∷ 0x03 ∷ 0 ∷ 0 ∷ 0 ∷ 0 ∷ 0 ∷ 0 ∷ 0 ∷ 0x53 ∷ 0x43 ∷ 0x03 ∷ []

abbrev put? : List ℕ
put? = 0x50 ∷ 0x55 ∷ 0x53 ∷ 0x48 ∷ 0x01 ∷ 0xFF ∷ 0xFF ∷ 0xFF ∷ 0xFF ∷ 0xFF ∷ 0xFF ∷ 0xFF ∷ 0xFF ∷ 0xFF ∷ 0x53 ∷ 0x43 ∷ 0x03 ∷ []

abbrev pervade0 : List ℕ
pervade0 = 0x50 ∷ 0x56 ∷ 0x00 ∷ []

abbrev put_one : List ℕ
put_one = 0x50 ∷ 0x55 ∷ 0x53 ∷ 0x48 ∷ 0x00 ∷ 0xFF ∷ 0x53 ∷ 0x43 ∷ 0x03 ∷ []

-- the types of two of them as text: `534801ff0300000000000000534303`, `534800ff534303`
abbrev text3 : List ℕ
text3 =
    53 ∷ 51 ∷ 52 ∷ 56 ∷ 48 ∷ 49 ∷ 102 ∷ 102
    ∷ 48 ∷ 51 ∷ 48 ∷ 48 ∷ 48 ∷ 48 ∷ 48 ∷ 48 ∷ 48 ∷ 48 ∷ 48 ∷ 48 ∷ 48 ∷ 48 ∷ 48 ∷ 48
    ∷ 53 ∷ 51 ∷ 52 ∷ 51 ∷ 48 ∷ 51 ∷ []

abbrev text_one : List ℕ
text_one = 53 ∷ 51 ∷ 52 ∷ 56 ∷ 48 ∷ 48 ∷ 102 ∷ 102 ∷ 53 ∷ 51 ∷ 52 ∷ 51 ∷ 48 ∷ 51 ∷ []

unfoldable pub examples : List Example
examples =
    -- Put [3] Num, put [?] Num, pervade 0. `ok 1 15` / `0 534801ff0300000000000000534303`
    the_print (put3 ++ (put? ++ pervade0)) line_feed (111 ∷ 107 ∷ 32 ∷ 49 ∷ 32 ∷ 49 ∷ 53 ∷ 10 ∷ 48 ∷ 32 ∷ text3)
    -- The empty sheet. `ok 0 0`
    ∷ the_print ([]) line_feed (111 ∷ 107 ∷ 32 ∷ 48 ∷ 32 ∷ 48 ∷ [])
    -- A row first. `no 11 0`
    ∷ the_print (0x52 ∷ 0x57 ∷ []) line_feed (110 ∷ 111 ∷ 32 ∷ 49 ∷ 49 ∷ 32 ∷ 48 ∷ [])
    -- Two types left, the bottom first, and a bar between the lines. `ok 2 22 | 0 534801ff0300000000000000534303 | 1 534800ff534303`
    ∷ the_print (put3 ++ put_one) (32 ∷ 124 ∷ 32 ∷ []) (111 ∷ 107 ∷ 32 ∷ 50 ∷ 32 ∷ 50 ∷ 50 ∷ 32 ∷ 124 ∷ 32 ∷ 48 ∷ 32 ∷ text3 ++ (32 ∷ 124 ∷ 32 ∷ 49 ∷ 32 ∷ text_one))
    -- A refusal's place has as many digits as it takes. `no 2 17`
    ∷ the_print (put3 ++ (0x58 ∷ 0x58 ∷ [])) line_feed (110 ∷ 111 ∷ 32 ∷ 50 ∷ 32 ∷ 49 ∷ 55 ∷ [])
    ∷ []

pub examples_shown : All Shown examples
unfolding examples inside below byte judged number bytes_of code kind_of write_shape write_scalar write_ty
    read_mark read_dim read_dims shape_from read_name read_fields def_from box_from scalar_from read_ty
    cmp_dim larger compatible join_dim code_of superset_codes superset_of union against_absent together walk pervade_closing in_sheets_at pervade_in_sheets
    pervade_types step steps opcode_from argument_from step_from written_from work_from sheet_more sheet_from sheet_run write_types
    hex_of decimal_within headed type_line type_lines reported
examples_shown = (refl, (refl, (refl, (refl, (refl, tt)))))
