-- What the worked sheets of demand 3 share: how they are written, that they are bytes and keep the limits, buffers for them, and a
-- condition along the stacks that the rules come to.
use Rattle.std.specs.Prelude.{ℕ, zero, suc, ◌≤◌, Bool, true, ◌&&◌, List, [], ◌∷◌, ◌≡◌, length, replicate, leb, ltb}
use Rattle.std.proofs.Common.{arith, leb-true, ltb-true}
use Rattle.std.proofs.Math.Option.{none}
use Rattle.std.proofs.lemmas.List.{length-replicate}
use Rattle.model.specs.Types.{Dim, static, Shape, shape, num, plain, Ty, ty, inside, below}
use Rattle.model.specs.Within.{DimsWithin, ShapeWithin, Within}
use Rattle.format.specs.Reader.{Bytes}
use Rattle.validation.proofs.OutcomeLaws.{both_true}
use Rattle.machine.specs.SheetLimits.{max_stack}
use Rattle.machine.specs.Steps.{Step, opcode_of, takes, height_past}
use Rattle.machine.specs.Run.{Ruling, gives, refuses, Stack, step}
use Rattle.machine.specs.WellFormed.{Heights}
use Rattle.machine.specs.Conditions.{Along}

-- ---- types and their bytes

-- Num under a shape, and of some sizes
abbrev pub num_of : Shape → Ty
num_of s = ty s (plain num)

abbrev pub nums : List Dim → Ty
nums ds = num_of (shape ds none)

-- the record of [n] Num, for n below 256, of [?] Num, and of [..n] Num
abbrev pub one_size : ℕ → List ℕ
one_size n = 0x53 ∷ 0x48 ∷ 0x01 ∷ 0xFF ∷ n ∷ 0 ∷ 0 ∷ 0 ∷ 0 ∷ 0 ∷ 0 ∷ 0 ∷ 0x53 ∷ 0x43 ∷ 0x03 ∷ []

abbrev pub any_size : List ℕ
any_size = 0x53 ∷ 0x48 ∷ 0x01 ∷ 0xFF ∷ 0xFF ∷ 0xFF ∷ 0xFF ∷ 0xFF ∷ 0xFF ∷ 0xFF ∷ 0xFF ∷ 0xFF ∷ 0x53 ∷ 0x43 ∷ 0x03 ∷ []

abbrev pub last_size : ℕ → List ℕ
last_size n = 0x53 ∷ 0x48 ∷ 0x00 ∷ 0x01 ∷ n ∷ 0 ∷ 0 ∷ 0 ∷ 0 ∷ 0 ∷ 0 ∷ 0 ∷ 0x53 ∷ 0x43 ∷ 0x03 ∷ []

pub num-within : (s : Shape) → ShapeWithin s → Within (num_of s)
unfolding inside below
num-within s h = record { records = (h, tt); few = omega arith; shallow = omega arith }

pub nums-within : (ds : List Dim) → DimsWithin ds → Within (nums ds)
nums-within ds h = num-within (shape ds none) (h, tt)

pub within3 : Within (nums (static 3 ∷ []))
within3 = nums-within (static 3 ∷ []) (omega arith, (omega arith, tt))

pub within4 : Within (nums (static 4 ∷ []))
within4 = nums-within (static 4 ∷ []) (omega arith, (omega arith, tt))

-- That a list is one of bytes, by computation.
abbrev pub are_bytes : List ℕ → Bool
are_bytes [] = true
are_bytes (b ∷ s) = ltb b 256 && are_bytes s

pub are-bytes : (s : List ℕ) → are_bytes s ≡ true → Bytes s
are-bytes [] h i = omega arith
are-bytes (b ∷ s) h zero = ltb-true b 256 (both_true (ltb b 256) (are_bytes s) h).0
are-bytes (b ∷ s) h (suc i) = are-bytes s (both_true (ltb b 256) (are_bytes s) h).1 i

-- That no step lacks types or lays down one too many, by computation.
abbrev pub are_heights : List Step → ℕ → Bool
are_heights [] h = true
are_heights (x ∷ xs) h = leb (takes (opcode_of x)) h && (leb (height_past (opcode_of x) h) max_stack && are_heights xs (height_past (opcode_of x) h))

pub are-heights : (xs : List Step) (h : ℕ) → are_heights xs h ≡ true → Heights xs h
are-heights [] h e = tt
are-heights (x ∷ xs) h e =
    let (a, b) = both_true (leb (takes (opcode_of x)) h) _ e in
    let (c, d) = both_true (leb (height_past (opcode_of x) h) max_stack) _ b in
    (leb-true (takes (opcode_of x)) h a, leb-true (height_past (opcode_of x) h) max_stack c, are-heights xs (height_past (opcode_of x) h) d)

-- ---- buffers

-- a buffer of zeroes
unfoldable pub zeroes : ℕ → List ℕ
zeroes n = replicate n 0

pub long-enough : (n : ℕ) → n ≤ length (zeroes n)
unfolding zeroes
long-enough n = let l : length (replicate {A = ℕ} n 0) ≡ n = length-replicate n 0 in omega arith

-- ---- along the stacks

-- Of each step with the stack that it takes, as `Along` has it, but of the stack that the rules come to.
abbrev pub on_gives : Ruling Stack → (Stack → Type 0) → Type 0
on_gives (gives st) Q = Q st
on_gives (refuses k) Q = Unit {0}

abbrev pub AsWorked : (Step → Stack → Type 0) → List Step → Stack → Type 0
AsWorked P [] st = Unit {0}
AsWorked P (x ∷ xs) st = P x st × on_gives (step x st) λ st₁. AsWorked P xs st₁

given : (a : Ruling Stack) (Q : Stack → Type 0) (st : Stack) → a ≡ gives st → on_gives a Q → Q st
given (gives st₁) Q st e h = let w : st₁ ≡ st = cc in rw (← w) h
given (refuses k) Q st e h = let z : ◌≡◌ {A = ℕ} 0 1 = cc in absurd (omega arith)

pub as-worked : (P : Step → Stack → Type 0) (xs : List Step) (st : Stack) → AsWorked P xs st → Along P xs st
as-worked P [] st h = tt
as-worked P (x ∷ xs) st h = (h.0, λ st₁ e. as-worked P xs st₁ (given (step x st) (λ st₂. AsWorked P xs st₂) st₁ e h.1))
