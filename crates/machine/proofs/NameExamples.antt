-- Worked examples of named tables (document 02, 2026-06): which type a use puts, what comes first of several refusals, and which place is
-- named.
use Rattle.std.specs.Prelude.{ℕ, false, List, [], ◌∷◌, ◌++◌, map, ◌≡◌, refl, replicate}
use Rattle.model.specs.Refusals.{ended, unmarked, out_of_range, overflow, undeclared, too_many_names}
use Rattle.model.specs.Types.{Ty, inside, below}
use Rattle.model.specs.Within.{All}
use Rattle.format.specs.Reader.{byte, judged, number, bytes_of}
use Rattle.format.specs.Records.{code, kind_of, write_shape, write_scalar, write_ty, read_mark, read_dim, read_dims, shape_from, read_name, read_fields, def_from, box_from, scalar_from, read_ty}
use Rattle.format.specs.Outcome.{accepted, refused}
use Rattle.rules.specs.Scalars.{superset_codes, superset_of, union}
use Rattle.rules.specs.Order.{code_of}
use Rattle.rules.specs.Sizes.{cmp_dim, larger}
use Rattle.rules.specs.Shapes.{row_shape}
use Rattle.rules.specs.Pervade.{against_absent, together, walk, pervade_closing}
use Rattle.rules.specs.PervadeInSheets.{in_sheets_at, pervade_in_sheets}
use Rattle.rules.specs.Types.{wholly_any, row_scalar, row_by}
use Rattle.machine.specs.Steps.{Step, put, row, pervading}
use Rattle.machine.specs.Run.{pervade_types, step, steps}
use Rattle.machine.specs.Written.{TableName, WrittenStep, working, declaring, using_name, write_steps, written_out}
use Rattle.machine.specs.Names.{unfolded}
use Rattle.machine.specs.Sheet.{opcode_from, name_from, argument_from, step_from, written_from, work_from, sheet_more, skim_more, sheet_from, skim_from, sheet_run, skim}
use Rattle.machine.proofs.Examples.{nums}

pub data NameExample : Type 0 where
  -- written steps, and the types left, bottom first
  the_types : List WrittenStep → List Ty → NameExample
  -- written steps and some bytes after them, and the refusal with its place, of the run and of the reading alone
  the_refusal : List WrittenStep → List ℕ → ℕ → ℕ → NameExample
  -- written steps, and the steps that they come to
  the_steps : List WrittenStep → List Step → NameExample

abbrev pub Shown : NameExample → Type 0
Shown (the_types ws ts) = (sheet_run (write_steps ws) ≡ accepted ts) × (skim (write_steps ws) ≡ accepted ws)
Shown (the_refusal ws more k p) = (sheet_run (write_steps ws ++ more) ≡ refused k p) × (skim (write_steps ws ++ more) ≡ refused k p)
Shown (the_steps ws xs) = (unfolded [] ws ≡ xs) × (skim (write_steps ws) ≡ accepted ws)

-- ---- how the examples are written

-- names of one byte and of two: A, B, AB
abbrev A : TableName
A = 65 ∷ []

abbrev B : TableName
B = 66 ∷ []

abbrev AB : TableName
AB = 65 ∷ 66 ∷ []

-- A is declared as [] Num, in eleven bytes: its mark, 01 41, and from place 4 on the record
abbrev declare_a : WrittenStep
declare_a = declaring A (nums [])

-- sixteen names of one byte, eleven bytes for each
abbrev sixteen : List WrittenStep
sixteen = map (λ b. declaring (b ∷ []) (nums [])) (65 ∷ 66 ∷ 67 ∷ 68 ∷ 69 ∷ 70 ∷ 71 ∷ 72 ∷ 73 ∷ 74 ∷ 75 ∷ 76 ∷ 77 ∷ 78 ∷ 79 ∷ 80 ∷ [])

-- six puts of [] Num, nine bytes for each
abbrev full : List WrittenStep
full = written_out (replicate 6 (put (nums [])))

-- ---- the examples

-- Which type a use puts.
unfoldable pub use_examples : List NameExample
use_examples =
    -- It is put as often as it is used, and worked on like any other; a declaration alone leaves nothing.
    the_types (declaring A (nums (3 ∷ [])) ∷ using_name A ∷ using_name A ∷ working (pervading false false) ∷ []) (nums (3 ∷ []) ∷ [])
    ∷ the_types (declare_a ∷ []) []
    ∷ the_steps (declaring A (nums (2 ∷ 3 ∷ [])) ∷ using_name A ∷ working row ∷ using_name A ∷ []) (put (nums (2 ∷ 3 ∷ [])) ∷ row ∷ put (nums (2 ∷ 3 ∷ [])) ∷ [])
    -- "A later declaration of the same name supersedes the earlier for the uses after it; earlier puts keep theirs."
    ∷ the_steps (declaring A (nums (2 ∷ [])) ∷ using_name A ∷ declaring A (nums (3 ∷ [])) ∷ using_name A ∷ []) (put (nums (2 ∷ [])) ∷ put (nums (3 ∷ [])) ∷ [])
    ∷ the_types (declaring A (nums (2 ∷ [])) ∷ using_name A ∷ declaring A (nums (3 ∷ [])) ∷ using_name A ∷ []) (nums (2 ∷ []) ∷ nums (3 ∷ []) ∷ [])
    -- A name is its bytes, all of them: AB is neither A nor B.
    ∷ the_types (declaring AB (nums (2 ∷ [])) ∷ declaring A (nums (3 ∷ [])) ∷ declaring B (nums (4 ∷ [])) ∷ using_name AB ∷ using_name B ∷ using_name A ∷ [])
    (nums (2 ∷ []) ∷ nums (4 ∷ []) ∷ nums (3 ∷ []) ∷ [])
    -- A declaration may stand on a full stack.
    ∷ the_types (full ++ (declare_a ∷ [])) (replicate 6 (nums []))
    -- Sixteen names, and one of them declared again.
    ∷ the_types (sixteen ++ (declaring B (nums (7 ∷ [])) ∷ using_name A ∷ using_name B ∷ [])) (nums [] ∷ nums (7 ∷ []) ∷ [])
    -- A name of one byte 32 and of sixteen bytes 126.
    ∷ the_types (declaring (32 ∷ []) (nums []) ∷ declaring (replicate 16 126) (nums (1 ∷ [])) ∷ using_name (replicate 16 126) ∷ using_name (32 ∷ []) ∷ []) (nums (1 ∷ []) ∷ nums [] ∷ [])
    -- A declaration and a use count as steps: 64 of them.
    ∷ the_types (replicate 63 declare_a ++ (using_name A ∷ [])) (nums [] ∷ [])
    ∷ []

-- What is refused.
unfoldable pub unknown_examples : List NameExample
unknown_examples =
    -- 15: no name at all, another name, the beginning of one, one that goes on, a name that is declared only later.
    the_refusal (using_name A ∷ []) [] undeclared 0
    ∷ the_refusal (declare_a ∷ using_name B ∷ []) [] undeclared 11
    ∷ the_refusal (declaring AB (nums []) ∷ using_name A ∷ []) [] undeclared 12
    ∷ the_refusal (declare_a ∷ using_name AB ∷ []) [] undeclared 11
    ∷ the_refusal (using_name A ∷ declare_a ∷ []) [] undeclared 0
    -- The stack comes before the name, and the name is read before it is looked up.
    ∷ the_refusal full (0x55 ∷ 0x53 ∷ 0x01 ∷ 0x41 ∷ []) overflow 54
    ∷ the_refusal full (0x55 ∷ 0x53 ∷ 0x00 ∷ []) overflow 54
    ∷ the_refusal [] (0x55 ∷ 0x53 ∷ 0x02 ∷ 0x41 ∷ []) ended 0
    ∷ the_refusal [] (0x55 ∷ 0x53 ∷ 0x02 ∷ 0x41 ∷ 0x7F ∷ []) out_of_range 0
    -- 16: a seventeenth name, once its type is read; one whose type is damaged or missing gets that refusal, at its own place.
    ∷ the_refusal (sixteen ++ (declaring AB (nums []) ∷ [])) [] too_many_names 176
    ∷ the_refusal sixteen (0x4E ∷ 0x4D ∷ 0x01 ∷ 0x51 ∷ 0x53 ∷ 0x48 ∷ 0x09 ∷ []) out_of_range 180
    ∷ the_refusal sixteen (0x4E ∷ 0x4D ∷ 0x01 ∷ 0x51 ∷ []) ended 180
    -- A declaration or a use as step 65 is refused before its mark is looked at.
    ∷ the_refusal (replicate 64 declare_a) (0x4E ∷ []) overflow 704
    ∷ the_refusal (replicate 64 declare_a) (0x55 ∷ 0x53 ∷ 0x01 ∷ 0x42 ∷ []) overflow 704
    ∷ []

-- Names that cannot be, at the step's mark: lengths 0 and 17, bytes 31 and 127, bytes that end; each byte is judged before the next is wanted.
unfoldable pub damaged_examples : List NameExample
damaged_examples =
    the_refusal [] (0x4E ∷ 0x4D ∷ []) ended 0
    ∷ the_refusal (declare_a ∷ []) (0x4E ∷ 0x4D ∷ 0x00 ∷ []) out_of_range 11
    ∷ the_refusal (declare_a ∷ []) (0x4E ∷ 0x4D ∷ 0x11 ∷ []) out_of_range 11
    ∷ the_refusal (declare_a ∷ []) (0x4E ∷ 0x4D ∷ 0x02 ∷ 0x1F ∷ []) out_of_range 11
    ∷ the_refusal (declare_a ∷ []) (0x4E ∷ 0x4D ∷ 0x02 ∷ 0x20 ∷ 0x7F ∷ []) out_of_range 11
    ∷ the_refusal (declare_a ∷ []) (0x4E ∷ 0x4D ∷ 0x02 ∷ 0x20 ∷ []) ended 11
    ∷ the_refusal (declare_a ∷ []) (0x4E ∷ 0x4D ∷ 0x01 ∷ 0x7E ∷ []) ended 15
    ∷ the_refusal (declare_a ∷ []) (0x4E ∷ 0x4D ∷ 0x01 ∷ 0x7E ∷ 0x58 ∷ 0x58 ∷ []) unmarked 15
    ∷ the_refusal (declare_a ∷ []) (0x55 ∷ 0x53 ∷ []) ended 11
    ∷ the_refusal (declare_a ∷ []) (0x55 ∷ 0x53 ∷ 0x11 ∷ []) out_of_range 11
    ∷ []

pub name_examples_shown : All Shown use_examples × All Shown unknown_examples × All Shown damaged_examples
unfolding use_examples unknown_examples damaged_examples inside below byte judged number bytes_of code kind_of write_shape write_scalar write_ty read_mark read_dim read_dims shape_from
    read_name read_fields def_from box_from scalar_from read_ty cmp_dim larger row_shape code_of superset_codes superset_of union against_absent together walk pervade_closing
    in_sheets_at pervade_in_sheets wholly_any row_scalar row_by write_steps unfolded pervade_types step steps opcode_from name_from argument_from step_from written_from work_from
    sheet_more skim_more sheet_from skim_from sheet_run skim
name_examples_shown = (
  ((refl, refl), ((refl, refl), ((refl, refl), ((refl, refl), ((refl, refl), ((refl, refl), ((refl, refl), ((refl, refl), ((refl, refl), ((refl, refl), tt)))))))))),
  ((refl, refl), ((refl, refl), ((refl, refl), ((refl, refl), ((refl, refl), ((refl, refl), ((refl, refl), ((refl, refl), ((refl, refl), ((refl, refl), ((refl, refl), ((refl, refl), ((refl, refl), ((refl, refl), tt)))))))))))))),
  ((refl, refl), ((refl, refl), ((refl, refl), ((refl, refl), ((refl, refl), ((refl, refl), ((refl, refl), ((refl, refl), ((refl, refl), ((refl, refl), tt)))))))))),
)
