-- What is so of each of the listed opcodes is so of every one: a fact that can be tested is shown of all of them by one computation.
use Rattle.std.specs.Prelude.{◌≤◌, Bool, true, ◌&&◌, List, [], ◌∷◌, ◌≡◌, refl, length, eqb, leb}
use Rattle.std.proofs.Common.{eqb-true, leb-true}
use Rattle.model.specs.Within.{All}
use Rattle.format.specs.Records.{mark_bytes}
use Rattle.validation.proofs.OutcomeLaws.{both_true}
use Rattle.machine.specs.Steps.{Opcode, a_put, a_row, a_pervading, a_join, a_validating, a_declaration, a_use, opcodes, mark_of, takes, lays}

abbrev all_pass : (Opcode → Bool) → List Opcode → Bool
all_pass test [] = true
all_pass test (c ∷ cs) = test c && all_pass test cs

each-listed : (test : Opcode → Bool) (cs : List Opcode) → all_pass test cs ≡ true → All (λ c. test c ≡ true) cs
each-listed test [] h = tt
each-listed test (c ∷ cs) h = let (a, b) = both_true (test c) (all_pass test cs) h in (a, each-listed test cs b)

-- The list has every one.
listed : (P : Opcode → Type 0) → All P opcodes → (c : Opcode) → P c
listed P h a_put = h.0
listed P h a_row = h.1.0
listed P h a_pervading = h.1.1.0
listed P h a_join = h.1.1.1.0
listed P h a_validating = h.1.1.1.1.0
listed P h a_declaration = h.1.1.1.1.1.0
listed P h a_use = h.1.1.1.1.1.1.0

pub each-opcode : (test : Opcode → Bool) → all_pass test opcodes ≡ true → (c : Opcode) → test c ≡ true
each-opcode test h c = listed (λ c. test c ≡ true) (each-listed test opcodes h) c

-- ---- facts

-- A mark has two bytes.
pub mark-two : (c : Opcode) → length (mark_bytes (mark_of c)) ≡ 2
mark-two c = eqb-true (length (mark_bytes (mark_of c))) 2 (each-opcode (λ c. eqb (length (mark_bytes (mark_of c))) 2) refl c)

-- No step takes more than two types or lays down more than one.
pub takes-few : (c : Opcode) → takes c ≤ 2
takes-few c = leb-true (takes c) 2 (each-opcode (λ c. leb (takes c) 2) refl c)

pub lays-few : (c : Opcode) → lays c ≤ 1
lays-few c = leb-true (lays c) 1 (each-opcode (λ c. leb (lays c) 1) refl c)
