-- Worked examples of the sheet: the papers' own, and those where their words are easily read otherwise. What comes
-- first of several refusals, which place is named, which side is the first, and what stands at the bottom.
use Rattle.std.specs.Prelude.{ℕ, ◌≤◌, Bool, true, false, List, [], ◌∷◌, ◌++◌, map, ◌↔◌, ◌≡◌, length, replicate}
use Rattle.std.proofs.Common.{arith, le-ltb}
use Rattle.std.proofs.Math.Option.{Option, none, some}
use Rattle.std.proofs.Math.Path.{refl}
use Rattle.model.specs.Refusals.{ended, unmarked, out_of_range, too_short, unpervaded, wrong_scalar, wrong_shape, wrong_count, underflow, overflow}
use Rattle.model.specs.Types.{static, unknown, Shape, shape, Kind, num, char, plain, box_any, box_all, Ty, ty, inside, below}
use Rattle.model.specs.Within.{All}
use Rattle.format.specs.Reader.{byte, judged, number, bytes_of}
use Rattle.format.specs.Records.{mark_bytes, code, kind_of, write_shape, write_scalar, write_ty, read_mark, read_dim, read_dims, shape_from, read_name, read_fields, def_from, box_from, scalar_from, read_ty}
use Rattle.format.specs.Outcome.{accepted, refused, mapped}
use Rattle.rules.specs.Sizes.{cmp_dim, larger, compatible, join_dim}
use Rattle.rules.specs.Shapes.{is_any, rank, row_shape, merge_dims, merge_closing, merge_from, join_dims, join_longer, join_ends, join_closing, join_shapes}
use Rattle.rules.specs.Order.{code_of}
use Rattle.rules.specs.Scalars.{superset_codes, superset_of, union}
use Rattle.rules.specs.Pervade.{against_absent, together, walk, pervade_closing}
use Rattle.rules.specs.PervadeInSheets.{in_sheets_at, pervade_in_sheets}
use Rattle.rules.specs.Types.{join_types, wholly_any, row_scalar, row_by}
use Rattle.validation.specs.CheckShape.{agree, equal_dim, sizes_agree, count_test, names_all, mismatch, shape_mismatch, sided_shape, check_shape}
use Rattle.validation.specs.AsFields.{keeps_limits}
use Rattle.validation.specs.CheckScalar.{on_all, check_scalar}
use Rattle.validation.specs.Validate.{validate}
use Rattle.machine.specs.SheetLimits.{max_steps, max_stack, max_names, scratch_bytes, result_bytes, program_bytes}
use Rattle.machine.specs.Steps.{Step, put, row, pervading, join, validating, mark_of, opcodes, takes, lays, flag_byte, max_flag}
use Rattle.machine.specs.Run.{pervade_types, step, steps}
use Rattle.machine.specs.Written.{write_steps, written_out}
use Rattle.machine.specs.Names.{unfolded}
use Rattle.machine.specs.Sheet.{opcode_from, name_from, argument_from, step_from, written_from, work_from, sheet_more, skim_more, sheet_from, skim_from, sheet_run, skim}
use Rattle.machine.specs.Call.{tally, called, write_types, zeroed, hand_over, sheet_call}
use Rattle.machine.specs.WellFormed.{WellFormed, types_left}
use Rattle.machine.specs.Real.{RealShape, fits, real_pervade, the_top, the_one_below, Feeds, real_step, real_run}
use Rattle.machine.specs.Conditions.{Alike, PutOrPervade}

pub data Example : Type 0 where
  -- a sheet's bytes, and the bytes of the types left
  the_bytes : List ℕ → List ℕ → Example
  -- steps, written as they are worked, and the types left, bottom first
  the_types : List Step → List Ty → Example
  -- a sheet's bytes, and its refusal with the place
  the_refusal : List ℕ → ℕ → ℕ → Example
  -- a sheet's bytes, and the steps that are read with the rules passed over
  the_steps : List ℕ → List Step → Example
  -- a sheet's bytes, and the refusal of that reading with the place
  the_unread : List ℕ → ℕ → ℕ → Example

-- the bytes of steps that are written as they are worked
abbrev pub bytes_of_steps : List Step → List ℕ
bytes_of_steps xs = write_steps (written_out xs)

abbrev pub Shown : Example → Type 0
Shown (the_bytes s w) = mapped write_types (sheet_run s) ≡ accepted w
Shown (the_types xs ts) = sheet_run (bytes_of_steps xs) ≡ accepted ts
Shown (the_refusal s k p) = sheet_run s ≡ refused k p
Shown (the_steps s xs) = skim s ≡ accepted (written_out xs)
Shown (the_unread s k p) = skim s ≡ refused k p

-- ---- limits, marks and flags as they stand in the paper, once

-- 64 steps, a stack of six, 16 names, 25,728 bytes for the scratch, 4,992 of a result for each type left, and 49,152 for the program
pub sheet-limited : ◌≡◌ {A = List ℕ} (max_steps ∷ max_stack ∷ max_names ∷ scratch_bytes ∷ result_bytes 1 ∷ program_bytes ∷ []) (64 ∷ 6 ∷ 16 ∷ 25728 ∷ 4992 ∷ 49152 ∷ [])
sheet-limited = refl

-- what each takes and what it lays down
pub heights_are : ◌≡◌ {A = List (ℕ × ℕ)} (map (λ c. (takes c, lays c)) opcodes) ((0, 1) ∷ (1, 1) ∷ (2, 1) ∷ (2, 1) ∷ (1, 1) ∷ (0, 0) ∷ (0, 1) ∷ [])
heights_are = refl

-- 50 55 put, 52 57 row, 50 56 pervade, 4A 4E join, 56 41 validate, 4E 4D declare, 55 53 use
pub marks_are :
    map (λ c. mark_bytes (mark_of c)) opcodes
    ≡ (0x50 ∷ 0x55 ∷ []) ∷ (0x52 ∷ 0x57 ∷ []) ∷ (0x50 ∷ 0x56 ∷ []) ∷ (0x4A ∷ 0x4E ∷ []) ∷ (0x56 ∷ 0x41 ∷ []) ∷ (0x4E ∷ 0x4D ∷ []) ∷ (0x55 ∷ 0x53 ∷ []) ∷ []
marks_are = refl

-- bit 0 fills the top, bit 1 the one below, and 3 both
pub flags_are : ◌≡◌ {A = List ℕ} (flag_byte false false ∷ flag_byte true false ∷ flag_byte false true ∷ flag_byte true true ∷ max_flag ∷ []) (0 ∷ 1 ∷ 2 ∷ 3 ∷ 3 ∷ [])
flags_are = refl

-- ---- how the examples are written

-- a kind under [sizes], and Num
abbrev pub of : Kind → List ℕ → Ty
of k ns = ty (shape (map static ns) none) (plain k)

abbrev pub nums : List ℕ → Ty
nums ns = of num ns

-- the record of [n] Num
abbrev record3 : List ℕ
record3 = 0x53 ∷ 0x48 ∷ 0x01 ∷ 0xFF ∷ 0x03 ∷ 0 ∷ 0 ∷ 0 ∷ 0 ∷ 0 ∷ 0 ∷ 0 ∷ 0x53 ∷ 0x43 ∷ 0x03 ∷ []

abbrev record? : List ℕ
record? = 0x53 ∷ 0x48 ∷ 0x01 ∷ 0xFF ∷ 0xFF ∷ 0xFF ∷ 0xFF ∷ 0xFF ∷ 0xFF ∷ 0xFF ∷ 0xFF ∷ 0xFF ∷ 0x53 ∷ 0x43 ∷ 0x03 ∷ []

-- put [] Num, which takes nine bytes
abbrev put_num : Step
put_num = put (nums [])

-- six puts, two pervadings, two puts
abbrev up_again : List Step
up_again = replicate 6 put_num ++ (replicate 2 (pervading false false) ++ replicate 2 put_num)

-- [?] Num
abbrev unknown_nums : Ty
unknown_nums = ty (shape (unknown ∷ []) none) (plain num)

-- ---- the examples

unfoldable pub examples : List Example
examples =
    -- Put [3] Num, put [?] Num, pervade 0; and the empty sheet.
    the_bytes ((0x50 ∷ 0x55 ∷ record3) ++ ((0x50 ∷ 0x55 ∷ record?) ++ (0x50 ∷ 0x56 ∷ 0x00 ∷ []))) record3
    ∷ the_bytes [] []
    -- The types left are written bottom first.
    ∷ the_types (put (nums (2 ∷ [])) ∷ put (nums (3 ∷ [])) ∷ []) (nums (2 ∷ []) ∷ nums (3 ∷ []) ∷ [])
    -- Bit 0 fills the top, bit 1 the one below.
    ∷ the_types (put (nums (4 ∷ [])) ∷ put (nums (3 ∷ [])) ∷ pervading true false ∷ []) (nums (4 ∷ []) ∷ [])
    ∷ the_types (put (nums (3 ∷ [])) ∷ put (nums (4 ∷ [])) ∷ pervading false true ∷ []) (nums (4 ∷ []) ∷ [])
    ∷ the_refusal (bytes_of_steps (put (nums []) ∷ put (nums (4 ∷ [])) ∷ put (nums (3 ∷ [])) ∷ pervading false true ∷ [])) unpervaded 43
    -- 12 on top, filled, meets ? below it and is ?; it stays 12 where the one below is filled.
    ∷ the_types (put unknown_nums ∷ put (nums (12 ∷ [])) ∷ pervading true false ∷ []) (unknown_nums ∷ [])
    ∷ the_types (put unknown_nums ∷ put (nums (12 ∷ [])) ∷ pervading false true ∷ []) (nums (12 ∷ []) ∷ [])
    -- The top is the first: of box Any and box All, the one that stands on top.
    ∷ the_types (put (ty (shape [] none) (box_all (shape [] none) (plain num))) ∷ put (ty (shape [] none) box_any) ∷ pervading false false ∷ []) (ty (shape [] none) box_any ∷ [])
    ∷ the_types (put (ty (shape [] none) box_any) ∷ put (ty (shape [] none) (box_all (shape [] none) (plain num))) ∷ join ∷ []) (ty (shape [] none) (box_all (shape [] none) (plain num)) ∷ [])
    -- Row, join, validate.
    ∷ the_types (put (nums (2 ∷ 3 ∷ [])) ∷ row ∷ []) (nums (3 ∷ []) ∷ [])
    ∷ the_types (put (nums (2 ∷ [])) ∷ put (nums (2 ∷ 3 ∷ [])) ∷ join ∷ []) (nums (2 ∷ []) ∷ [])
    ∷ the_types (put (nums (3 ∷ [])) ∷ validating unknown_nums ∷ []) (nums (3 ∷ []) ∷ [])
    ∷ the_refusal (bytes_of_steps (put (of char []) ∷ validating (nums []) ∷ [])) wrong_scalar 9
    ∷ the_refusal (bytes_of_steps (put (nums (3 ∷ [])) ∷ validating (nums (2 ∷ [])) ∷ [])) wrong_shape 17
    -- A mark is judged once both its bytes are there; the place is the step's mark.
    ∷ the_refusal (0x58 ∷ []) ended 0
    ∷ the_refusal (0x58 ∷ 0x58 ∷ []) unmarked 0
    -- Inside a type the place is its reader's; a flag belongs to its step's mark.
    ∷ the_refusal (0x50 ∷ 0x55 ∷ []) ended 2
    ∷ the_refusal (bytes_of_steps (put (nums []) ∷ put (nums []) ∷ []) ++ (0x50 ∷ 0x56 ∷ [])) ended 18
    ∷ the_refusal (bytes_of_steps (put (nums []) ∷ put (nums []) ∷ []) ++ (0x50 ∷ 0x56 ∷ 0x04 ∷ [])) out_of_range 18
    -- The stack comes before the step's bytes.
    ∷ the_refusal (0x52 ∷ 0x57 ∷ []) underflow 0
    ∷ the_refusal (0x50 ∷ 0x56 ∷ 0x09 ∷ []) underflow 0
    ∷ the_refusal (0x56 ∷ 0x41 ∷ []) underflow 0
    -- 64 steps and no byte more; one byte more is step 65, whatever it is.
    ∷ the_types (put (nums []) ∷ replicate 63 row) (nums [] ∷ [])
    ∷ the_refusal (bytes_of_steps (put (nums []) ∷ replicate 63 row) ++ (0x52 ∷ [])) overflow 135
    -- Read to the end, a rule's refusal is passed over.
    ∷ the_steps (bytes_of_steps (put (nums (3 ∷ [])) ∷ put (nums (4 ∷ [])) ∷ pervading false false ∷ row ∷ [])) (put (nums (3 ∷ [])) ∷ put (nums (4 ∷ [])) ∷ pervading false false ∷ row ∷ [])
    ∷ []

-- Six on the stack (document 02, 2026-04).
unfoldable pub stack_examples : List Example
stack_examples =
    -- Six types may lie there, and a row, a pervading, a join and a validation may still be worked.
    the_types (replicate 6 put_num) (replicate 6 (nums []))
    ∷ the_types (replicate 6 put_num ++ (row ∷ validating (nums []) ∷ pervading false false ∷ join ∷ [])) (replicate 4 (nums []))
    -- The put of a seventh is 12 at its mark, whether its type is whole, damaged or missing; 1 and 2 for its mark come before.
    ∷ the_refusal (bytes_of_steps (replicate 7 put_num)) overflow 54
    ∷ the_refusal (bytes_of_steps (replicate 6 put_num) ++ (0x50 ∷ 0x55 ∷ 0x53 ∷ 0x48 ∷ 0x09 ∷ [])) overflow 54
    ∷ the_refusal (bytes_of_steps (replicate 6 put_num) ++ (0x50 ∷ 0x55 ∷ [])) overflow 54
    ∷ the_refusal (bytes_of_steps (replicate 6 put_num) ++ (0x50 ∷ [])) ended 54
    ∷ the_refusal (bytes_of_steps (replicate 6 put_num) ++ (0x50 ∷ 0x58 ∷ [])) unmarked 54
    -- Up to six, down and up again, and then one too many.
    ∷ the_types up_again (replicate 6 (nums []))
    ∷ the_refusal (bytes_of_steps (up_again ++ (put_num ∷ []))) overflow 78
    -- Seven puts manage with six places if two are pervaded before the last; all put first they do not, on the reading alone too.
    ∷ the_types (replicate 6 put_num ++ (pervading false false ∷ put_num ∷ replicate 5 (pervading false false))) (nums [] ∷ [])
    ∷ the_unread (bytes_of_steps (replicate 7 put_num ++ replicate 6 (pervading false false))) overflow 54
    ∷ []

unfoldable pub mismatch_examples : List Example
mismatch_examples =
    -- 14 is at the step's mark too, of the type itself and of what a box holds.
    the_refusal (bytes_of_steps (put (ty (shape (static 2 ∷ []) (some [])) (plain num)) ∷ validating (nums (2 ∷ 3 ∷ [])) ∷ [])) wrong_count 17
    ∷ the_refusal (bytes_of_steps (put (ty (shape [] none) (box_all (shape (static 2 ∷ static 3 ∷ []) none) (plain num))) ∷ validating (ty (shape [] none) (box_all (shape (static 2 ∷ []) none) (plain num))) ∷ [])) wrong_count 35
    ∷ []

pub examples_shown : All Shown examples × All Shown stack_examples × All Shown mismatch_examples
unfolding examples stack_examples mismatch_examples inside below byte judged number bytes_of code kind_of write_shape write_scalar write_ty read_mark read_dim read_dims shape_from read_name
    read_fields def_from box_from scalar_from read_ty cmp_dim larger compatible join_dim is_any rank row_shape merge_dims merge_closing merge_from join_dims
    join_longer join_ends join_closing join_shapes code_of superset_codes superset_of union against_absent together walk pervade_closing in_sheets_at
    pervade_in_sheets join_types wholly_any row_scalar row_by agree equal_dim sizes_agree count_test names_all mismatch shape_mismatch sided_shape check_shape keeps_limits on_all check_scalar validate
    write_steps pervade_types step steps opcode_from name_from argument_from step_from written_from work_from sheet_more skim_more sheet_from skim_from sheet_run skim write_types
examples_shown = (
  (refl, (refl, (refl, (refl, (refl, (refl, (refl, (refl, (refl, (refl, (refl, (refl, (refl, (refl, (refl, (refl, (refl, (refl, (refl, (refl, (refl, (refl, (refl, (refl, (refl, (refl, tt)))))))))))))))))))))))))),
  (refl, (refl, (refl, (refl, (refl, (refl, (refl, (refl, (refl, (refl, (refl, tt))))))))))),
  (refl, (refl, tt)),
)

-- ---- the whole call

-- put [] Num, and its record
abbrev one_sheet : List ℕ
one_sheet = 0x50 ∷ 0x55 ∷ 0x53 ∷ 0x48 ∷ 0x00 ∷ 0xFF ∷ 0x53 ∷ 0x43 ∷ 0x03 ∷ []

abbrev one_record : List ℕ
one_record = 0x53 ∷ 0x48 ∷ 0x00 ∷ 0xFF ∷ 0x53 ∷ 0x43 ∷ 0x03 ∷ []

-- A scratch that is too short is found first and stays as lent, one of no bytes and one of two.
pub call-no-scratch : (s result : List ℕ) → (sheet_call s result [] ≡ called (refused too_short 0) result []) × (sheet_call s result (7 ∷ 7 ∷ []) ≡ called (refused too_short 0) result (7 ∷ 7 ∷ []))
unfolding sheet_call
call-no-scratch s result = (refl, refl)

module _ (scratch : List ℕ) (enough : scratch_bytes ≤ length scratch) where
  -- An empty sheet needs no result.
  pub call_empty : sheet_call [] [] scratch ≡ called (accepted (tally 0 0)) [] (zeroed scratch)
  unfolding sheet_call sheet_run sheet_from sheet_more hand_over write_types
  call_empty = rw (le-ltb (length scratch) scratch_bytes enough)

  -- The bytes go to the front of the result, and one past them stays.
  pub call-one : sheet_call one_sheet (replicate 8 7) scratch ≡ called (accepted (tally 1 7)) (one_record ++ (7 ∷ [])) (zeroed scratch)
  unfolding sheet_call sheet_run sheet_from sheet_more work_from written_from step_from opcode_from argument_from step steps hand_over write_types byte judged number bytes_of code
      kind_of write_shape write_scalar write_ty read_mark read_dim read_dims shape_from scalar_from read_ty
  call-one = rw (le-ltb (length scratch) scratch_bytes enough)

  -- A refusal writes nothing to the result: a row first.
  pub call-refused : sheet_call (0x52 ∷ 0x57 ∷ []) (replicate 8 7) scratch ≡ called (refused underflow 0) (replicate 8 7) (zeroed scratch)
  unfolding sheet_call sheet_run sheet_from sheet_more work_from written_from step_from opcode_from hand_over byte
  call-refused = rw (le-ltb (length scratch) scratch_bytes enough)

  -- A result that is one byte too short stays as lent, and is found at the sheet's length.
  pub call-short : sheet_call one_sheet (replicate 6 7) scratch ≡ called (refused too_short 9) (replicate 6 7) (zeroed scratch)
  unfolding sheet_call sheet_run sheet_from sheet_more work_from written_from step_from opcode_from argument_from step steps hand_over write_types byte judged number bytes_of code
      kind_of write_shape write_scalar write_ty read_mark read_dim read_dims shape_from scalar_from read_ty
  call-short = rw (le-ltb (length scratch) scratch_bytes enough)

-- ---- well-formed

abbrev two_left : List Step
two_left = put_num ∷ put_num ∷ []

-- [3] and [4] pervaded: the rule refuses them, and one type is left on the reading.
abbrev one_type_left : List Step
one_type_left = put (nums (3 ∷ [])) ∷ put (nums (4 ∷ [])) ∷ pervading false false ∷ []

module _ (result scratch : List ℕ) where
  -- Lent so much scratch and so much of a result, and no less, steps that are read back make a well-formed sheet.
  lent_exactly : (xs : List Step) (n : ℕ) → skim (bytes_of_steps xs) ≡ accepted (written_out xs) → unfolded [] (written_out xs) ≡ xs → result_bytes (types_left xs) ≡ n
      → ((25728 ≤ length scratch) × (n ≤ length result)) ↔ WellFormed (bytes_of_steps xs) result scratch xs
  lent_exactly xs n read comes e =
      (λ l. record { written = written_out xs; read = read; comes_to = comes; scratch_holds = omega (arith, l.0); result_holds = omega (arith, l.1) }, λ w. (omega (arith, w.scratch_holds), omega (arith, w.result_holds)))

  -- "The scratch asked for and 4,992 result bytes for each type left", and not one fewer: of a sheet that leaves two and of one that leaves one.
  pub well_formed_lent :
      (((25728 ≤ length scratch) × (9984 ≤ length result)) ↔ WellFormed (bytes_of_steps two_left) result scratch two_left)
      × (((25728 ≤ length scratch) × (4992 ≤ length result)) ↔ WellFormed (bytes_of_steps one_type_left) result scratch one_type_left)
  unfolding byte judged number bytes_of code kind_of write_shape write_scalar write_ty read_mark read_dim read_dims shape_from scalar_from read_ty write_steps
      opcode_from name_from argument_from step_from written_from skim_more skim_from skim unfolded
  well_formed_lent = (lent_exactly two_left 9984 refl refl refl, lent_exactly one_type_left 4992 refl refl refl)

-- ---- real shapes

pub data RealExample : Type 0 where
  -- a shape and a real shape, and whether it fits
  the_fit : Shape → RealShape → Bool → RealExample
  -- which of two real shapes are filled, the two, and their real pervading
  the_real : Bool → Bool → RealShape → RealShape → Option RealShape → RealExample
  -- some steps, what they are fed, and the real shapes left, top first
  the_run : (xs : List Step) → Feeds xs → Option (List RealShape) → RealExample

-- put [?], put [3..], join, row, validate [5]
abbrev five_steps : List Step
five_steps = put unknown_nums ∷ put (ty (shape (static 3 ∷ []) (some [])) (plain num)) ∷ join ∷ row ∷ validating (nums (5 ∷ [])) ∷ []

-- put [?], put [12], pervade with the top filled
abbrev twelve_filled : List Step
twelve_filled = put unknown_nums ∷ put (nums (12 ∷ [])) ∷ pervading true false ∷ []

abbrev pub RealShown : RealExample → Type 0
RealShown (the_fit s r b) = fits s r ≡ b
RealShown (the_real f g r q z) = real_pervade f g r q ≡ z
RealShown (the_run xs f z) = real_run xs f [] ≡ z

unfoldable pub real_examples : List RealExample
real_examples =
    -- Closed admits nothing more, ? fits any size, open ends with the closing sizes without overlap.
    the_fit (shape (static 2 ∷ unknown ∷ []) none) (2 ∷ 0 ∷ []) true
    ∷ the_fit (shape (static 2 ∷ []) none) (2 ∷ 3 ∷ []) false
    ∷ the_fit (shape (static 2 ∷ []) (some [])) (2 ∷ 3 ∷ []) true
    ∷ the_fit (shape (static 2 ∷ []) (some (static 3 ∷ []))) (2 ∷ 5 ∷ 3 ∷ []) true
    ∷ the_fit (shape (static 3 ∷ []) (some (static 3 ∷ []))) (3 ∷ []) false
    ∷ the_fit (shape [] (some [])) [] true
    -- 1 against absent is 1, 1 yields also to 0, equals stay, else it stops.
    ∷ the_real false false (1 ∷ []) [] (some (1 ∷ []))
    ∷ the_real false false (0 ∷ 2 ∷ []) (1 ∷ 2 ∷ 7 ∷ []) (some (0 ∷ 2 ∷ 7 ∷ []))
    ∷ the_real false false (1 ∷ 3 ∷ []) (3 ∷ 1 ∷ []) (some (3 ∷ 3 ∷ []))
    ∷ the_real false false (3 ∷ []) (4 ∷ []) none
    -- Filled, the smaller grows to the larger, and the larger never shrinks; 1 still yields to 0, and absent yields.
    ∷ the_real true false (3 ∷ []) (4 ∷ []) (some (4 ∷ []))
    ∷ the_real false true (3 ∷ []) (4 ∷ []) none
    ∷ the_real false true (4 ∷ []) (3 ∷ []) (some (4 ∷ []))
    ∷ the_real true true (0 ∷ 1 ∷ 0 ∷ []) (1 ∷ 0 ∷ 5 ∷ []) (some (0 ∷ 0 ∷ 5 ∷ []))
    ∷ the_real true true (1 ∷ []) (2 ∷ 3 ∷ []) (some (2 ∷ 3 ∷ []))
    -- A join keeps the top or the one below; a scalar's row is a scalar; a validation stops what does not fit.
    ∷ the_run five_steps (4 ∷ [], (3 ∷ 5 ∷ [], (the_top, (tt, (tt, tt))))) (some ((5 ∷ []) ∷ []))
    ∷ the_run five_steps (4 ∷ [], (3 ∷ 5 ∷ [], (the_one_below, (tt, (tt, tt))))) none
    -- A pervading hands its fills on: 12 marks on top grow to 20 below, and 9 below do not grow to 12.
    ∷ the_run twelve_filled (20 ∷ [], (12 ∷ [], (tt, tt))) (some ((20 ∷ []) ∷ []))
    ∷ the_run twelve_filled (9 ∷ [], (12 ∷ [], (tt, tt))) none
    ∷ []

pub real_examples_shown : All RealShown real_examples
unfolding real_examples fits real_pervade real_step real_run
real_examples_shown = (refl, (refl, (refl, (refl, (refl, (refl, (refl, (refl, (refl, (refl, (refl, (refl, (refl, (refl, (refl, (refl, (refl, (refl, (refl, tt)))))))))))))))))))

-- ---- the conditions of demand 3

pub data ConditionExample : Type 0 where
  -- two shapes that a join may take
  the_alike : Shape → Shape → ConditionExample
  the_unlike : Shape → Shape → ConditionExample
  -- a step that the second half speaks of
  the_put_or_pervade : Step → ConditionExample
  the_other : Step → ConditionExample

abbrev pub ConditionShown : ConditionExample → Type 0
ConditionShown (the_alike s t) = Alike s t
ConditionShown (the_unlike s t) = Alike s t → ⊥
ConditionShown (the_put_or_pervade x) = PutOrPervade x
ConditionShown (the_other x) = PutOrPervade x → ⊥

unfoldable pub condition_examples : List ConditionExample
condition_examples =
    -- Closed shapes of equal count, or two open ones.
    the_alike (shape (static 2 ∷ []) none) (shape (unknown ∷ []) none)
    ∷ the_unlike (shape (static 2 ∷ []) none) (shape [] none)
    ∷ the_alike (shape (static 2 ∷ []) (some [])) (shape [] (some []))
    ∷ the_unlike (shape (static 2 ∷ []) none) (shape (static 2 ∷ []) (some []))
    ∷ the_unlike (shape (static 2 ∷ []) (some [])) (shape (static 2 ∷ []) none)
    -- Puts, and pervadings with flag byte 0.
    ∷ the_put_or_pervade (put (nums []))
    ∷ the_put_or_pervade (pervading false false)
    ∷ the_other (pervading true false)
    ∷ the_other (pervading false true)
    ∷ the_other row
    ∷ the_other join
    ∷ the_other (validating (nums []))
    ∷ []

pub condition_examples_shown : All ConditionShown condition_examples
unfolding condition_examples
condition_examples_shown = (refl, (λ h. omega arith, (tt, (λ h. h, (λ h. h, (tt, (refl, (λ h. omega arith, (λ h. omega arith, (λ h. h, (λ h. h, (λ h. h, tt))))))))))))
