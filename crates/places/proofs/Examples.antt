-- Worked examples of places: document 01's own sheet, place by place; sheets that are cut, that begin with no mark or have no byte.
use Rattle.std.specs.Prelude.{ℕ, zero, suc, List, [], ◌∷◌, ◌++◌, ◌≡◌, refl, length}
use Rattle.std.proofs.Math.Option.{Option, none, some}
use Rattle.model.specs.Within.{All}
use Rattle.format.specs.Reader.{byte, judged, number}
use Rattle.format.specs.Records.{kind_of, read_mark, read_dim, read_dims, shape_from, read_name, scalar_from, read_ty}
use Rattle.machine.specs.Steps.{a_put, a_row, a_pervading, a_declaration, a_use}
use Rattle.machine.specs.Sheet.{opcode_from, name_from, argument_from}
use Rattle.places.specs.Places.{ToldStep, told_step, bare_from, step_on, step_of}

pub data PlaceExample : Type 0 where
  -- a sheet's bytes, a place, and the step that it belongs to
  the_place : List ℕ → ℕ → Option ToldStep → PlaceExample

abbrev pub PlaceShown : PlaceExample → Type 0
PlaceShown (the_place s p z) = step_of s p ≡ z

-- ---- how the examples are written

-- put [n] Num and put [?] Num, 17 bytes each, and pervade 0
abbrev put_size : ℕ → List ℕ
put_size n = 0x50 ∷ 0x55 ∷ 0x53 ∷ 0x48 ∷ 0x01 ∷ 0xFF ∷ n ∷ 0 ∷ 0 ∷ 0 ∷ 0 ∷ 0 ∷ 0 ∷ 0 ∷ 0x53 ∷ 0x43 ∷ 0x03 ∷ []

abbrev put? : List ℕ
put? = 0x50 ∷ 0x55 ∷ 0x53 ∷ 0x48 ∷ 0x01 ∷ 0xFF ∷ 0xFF ∷ 0xFF ∷ 0xFF ∷ 0xFF ∷ 0xFF ∷ 0xFF ∷ 0xFF ∷ 0xFF ∷ 0x53 ∷ 0x43 ∷ 0x03 ∷ []

abbrev pervade0 : List ℕ
pervade0 = 0x50 ∷ 0x56 ∷ 0x00 ∷ []

-- document 01's example, 37 bytes
abbrev three_steps : List ℕ
three_steps = put_size 3 ++ (put? ++ pervade0)

-- the same cut inside its second put, after the first two bytes of its shape: 21 bytes
abbrev cut_short : List ℕ
cut_short = put_size 3 ++ (0x50 ∷ 0x55 ∷ 0x53 ∷ 0x48 ∷ [])

-- so many rows, two bytes each
abbrev rows : ℕ → List ℕ
rows zero = []
rows (suc n) = 0x52 ∷ 0x57 ∷ rows n

pub places-counted : ◌≡◌ {A = List ℕ} (length three_steps ∷ length cut_short ∷ length (rows 64) ∷ []) (37 ∷ 21 ∷ 128 ∷ [])
places-counted = refl

-- ---- the examples

unfoldable pub place_examples : List PlaceExample
place_examples =
    -- From a step's mark to its last byte, all places are its own.
    the_place three_steps 0 (some (told_step 1 (some a_put)))
    ∷ the_place three_steps 2 (some (told_step 1 (some a_put)))
    ∷ the_place three_steps 16 (some (told_step 1 (some a_put)))
    ∷ the_place three_steps 17 (some (told_step 2 (some a_put)))
    ∷ the_place three_steps 33 (some (told_step 2 (some a_put)))
    ∷ the_place three_steps 34 (some (told_step 3 (some a_pervading)))
    ∷ the_place three_steps 35 (some (told_step 3 (some a_pervading)))
    ∷ the_place three_steps 36 (some (told_step 3 (some a_pervading)))
    -- Its length is no step's, as all steps are whole, and no place past it.
    ∷ the_place three_steps 37 none
    ∷ the_place three_steps 38 none
    ∷ []

unfoldable pub other_places : List PlaceExample
other_places =
    -- A step that is cut has the place after the bytes too, where what is missing would stand, and no place past that.
    the_place cut_short 16 (some (told_step 1 (some a_put)))
    ∷ the_place cut_short 19 (some (told_step 2 (some a_put)))
    ∷ the_place cut_short 21 (some (told_step 2 (some a_put)))
    ∷ the_place cut_short 22 none
    -- So has one whose bytes are no mark; all bytes after them are its own.
    ∷ the_place (0x58 ∷ 0x58 ∷ []) 0 (some (told_step 1 none))
    ∷ the_place (0x58 ∷ 0x58 ∷ []) 2 (some (told_step 1 none))
    ∷ the_place (0x58 ∷ 0x58 ∷ []) 3 none
    ∷ the_place (0x58 ∷ 0x58 ∷ three_steps) 2 (some (told_step 1 none))
    -- Half a mark is no mark.
    ∷ the_place (0x50 ∷ []) 0 (some (told_step 1 none))
    ∷ the_place (0x50 ∷ []) 1 (some (told_step 1 none))
    -- No stack and no name is asked for: a pervading that comes first, and a use of a name that was never declared.
    ∷ the_place (pervade0 ++ (0x55 ∷ 0x53 ∷ 0x01 ∷ 0x61 ∷ [])) 2 (some (told_step 1 (some a_pervading)))
    ∷ the_place (pervade0 ++ (0x55 ∷ 0x53 ∷ 0x01 ∷ 0x61 ∷ [])) 6 (some (told_step 2 (some a_use)))
    -- Nor is the limit of 64 steps: step 65 is told as any other.
    ∷ the_place (rows 64 ++ (0x52 ∷ [])) 127 (some (told_step 64 (some a_row)))
    ∷ the_place (rows 64 ++ (0x52 ∷ [])) 128 (some (told_step 65 none))
    ∷ the_place (rows 65) 128 (some (told_step 65 (some a_row)))
    -- No step, no place.
    ∷ the_place [] 0 none
    -- The desk's own: where [12] Num and [11] Num are put and pervaded, 8 at 34.
    ∷ the_place (put_size 12 ++ (put_size 11 ++ pervade0)) 34 (some (told_step 3 (some a_pervading)))
    -- Steps behind one that cannot be read have no bytes of their own: behind a type of nine sizes, a flag of four, and a name that is cut.
    ∷ the_place (0x50 ∷ 0x55 ∷ 0x53 ∷ 0x48 ∷ 9 ∷ rows 1) 5 (some (told_step 1 (some a_put)))
    ∷ the_place (0x50 ∷ 0x56 ∷ 4 ∷ rows 1) 3 (some (told_step 1 (some a_pervading)))
    ∷ the_place (0x4E ∷ 0x4D ∷ 5 ∷ 0x61 ∷ []) 4 (some (told_step 1 (some a_declaration)))
    -- A step before one that has no mark is told all the same.
    ∷ the_place (0x52 ∷ 0x57 ∷ 0x58 ∷ 0x58 ∷ []) 1 (some (told_step 1 (some a_row)))
    ∷ the_place (0x52 ∷ 0x57 ∷ 0x58 ∷ 0x58 ∷ []) 4 (some (told_step 2 none))
    -- the largest place that a host can say
    ∷ the_place three_steps 18446744073709551615 none
    ∷ []

pub place_examples_shown : All PlaceShown place_examples × All PlaceShown other_places
unfolding place_examples other_places byte judged number kind_of read_mark read_dim read_dims shape_from read_name scalar_from read_ty
    opcode_from name_from argument_from bare_from step_on step_of
place_examples_shown = (
  (refl, (refl, (refl, (refl, (refl, (refl, (refl, (refl, (refl, (refl, tt)))))))))),
  (refl, (refl, (refl, (refl, (refl, (refl, (refl, (refl, (refl, (refl, (refl, (refl, (refl, (refl, (refl, (refl, (refl, (refl, (refl, (refl, (refl, (refl, (refl, tt))))))))))))))))))))))),
)
