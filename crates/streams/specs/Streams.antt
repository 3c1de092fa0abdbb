-- What reads and writes answer, and when there is no more to move. POSIX's `read` and `write` answer how many bytes they moved, at
-- most as many as they were lent, or that they failed, here an `Err`; a read that answers 0 has found the input's end.
use Rattle.std.specs.Prelude.{ℕ, zero, suc, ◌≤◌, ◌<◌, Result, Ok, Err}
use Rattle.streams.specs.declared.Answered.{Answered}
use Rattle.streams.specs.declared.Answered.TheVariants.{Bytes, Nothing, Failed}

-- what a call answered, by name
abbrev pub answered_by : {E : Type 0} → Result ℕ E → Answered
answered_by (Ok zero) = Nothing
answered_by (Ok (suc n)) = Bytes (suc n)
answered_by (Err e) = Failed

-- Some bytes and no more than there is room for, or none.
abbrev pub AtMost : Answered → ℕ → Type 0
AtMost (Bytes n) room = (0 < n) × (n ≤ room)
AtMost Nothing room = Unit {0}
AtMost Failed room = Unit {0}

-- No bytes were moved: the input has ended, or nobody takes them, or the call failed.
abbrev pub Stopped : Answered → Type 0
Stopped (Bytes n) = ⊥
Stopped Nothing = Unit {0}
Stopped Failed = Unit {0}

-- So many bytes of a buffer are moved, the last call having answered so: all of them, or the last call moved none.
pub record ToTheEnd (count : ℕ) (last : Answered) (room : ℕ) : Type 0 where
  pub inside : count ≤ room
  pub ended : count < room → Stopped last
