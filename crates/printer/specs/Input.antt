-- What the program prints of its input (document 01, "The sheet program reads standard input"), told by what reading it left in a
-- buffer. Of an input that could not be read to its end nothing is printed, and no lent byte changes.
use Rattle.std.specs.Prelude.{ℕ, ◌≤◌, List, ◌≡◌, length, take, Option, Some, None}
use Rattle.io.specs.Counts.{IsPrefixLen}
use Rattle.report.specs.Laid.{Laid}
use Rattle.report.specs.Report.{printed, buffers, buffers_of, program_call}
use Rattle.streams.specs.declared.Answered.{Answered}
use Rattle.streams.specs.declared.Answered.TheVariants.{Bytes, Nothing, Failed}

-- The input's first bytes stand at the front of the buffer, so many of them; a read that answered no byte has found its end.
pub record ReadFrom (input buf : List ℕ) (count : ℕ) (last : Answered) : Type 0 where
  pub front : take count buf ≡ take count input
  pub there : count ≤ length input
  pub whole : last ≡ Nothing → count ≡ length input

-- The text of an input at the front of `out`, all behind it as lent, and both buffers as the program's call leaves them.
pub record TextOf (input : List ℕ) (r : Option ℕ) (result result₁ scratch scratch₁ out out₁ : List ℕ) : Type 0 where
  pub size : ℕ
  pub text : r ≡ Some size
  pub laid : Laid size 0 out out₁ (printed input)
  pub left : buffers result₁ scratch₁ ≡ buffers_of (program_call input result scratch)

-- No text, and all as lent.
abbrev pub NoText : Option ℕ → List ℕ → List ℕ → List ℕ → List ℕ → List ℕ → List ℕ → Type 0
NoText r result result₁ scratch scratch₁ out out₁ = (r ≡ None) × (buffers result₁ scratch₁ ≡ buffers result scratch) × (out₁ ≡ out)

-- What the last read answered decides; a text is that of whatever input was read so.
abbrev pub Prints : Answered → List ℕ → ℕ → Option ℕ → List ℕ → List ℕ → List ℕ → List ℕ → List ℕ → List ℕ → Type 0
Prints (Bytes n) buf count r result result₁ scratch scratch₁ out out₁ = (input : List ℕ) → ReadFrom input buf count (Bytes n) → TextOf input r result result₁ scratch scratch₁ out out₁
Prints Nothing buf count r result result₁ scratch scratch₁ out out₁ = (input : List ℕ) → ReadFrom input buf count Nothing → TextOf input r result result₁ scratch scratch₁ out out₁
Prints Failed buf count r result result₁ scratch scratch₁ out out₁ = NoText r result result₁ scratch scratch₁ out out₁

-- A text lies within its buffer.
abbrev pub Inside : Option ℕ → List ℕ → Type 0
Inside (Some n) out = IsPrefixLen n out
Inside None out = Unit {0}
