-- Which step of a sheet a place belongs to, so that a refusal can be said in words: where [12] Num and [11] Num are put and pervaded, 8 at 34
-- is of step 3, a pervading. Steps are told by their bytes alone: by no count of steps, no stack, no name in force and no rule. A step has the
-- bytes from its mark up to the next step's. One that cannot be read to its end has all bytes that are left, and the place after them: what
-- is missing there is missing from it.
use Rattle.std.specs.Prelude.{ℕ, zero, suc, cond, List, length, ltb}
use Rattle.std.proofs.Math.Option.{Option, none, some}
use Rattle.format.specs.Reader.{Read, got, stopped, Reader, ◌>>=◌}
use Rattle.machine.specs.Steps.{Opcode}
use Rattle.machine.specs.Written.{WrittenStep}
use Rattle.machine.specs.Sheet.{opcode_from, argument_from}

-- A step by its number, counted from 1, and by what its mark says; none where the bytes there are no mark of a step.
pub data ToldStep : Type 0 where
  told_step : ℕ → Option Opcode → ToldStep

abbrev pub mark_of_read : Read Opcode → Option Opcode
mark_of_read (got c next) = some c
mark_of_read (stopped k p) = none

module _ (s : List ℕ) where
  -- A step by its bytes alone: its mark, and what follows, whatever the stack is.
  unfoldable pub bare_from : ℕ → Reader WrittenStep
  bare_from p = do
    c ← opcode_from s p
    argument_from s c p

  abbrev pub end_of_read : Read WrittenStep → ℕ
  end_of_read (got w next) = next
  end_of_read (stopped k p) = suc (length s)

  -- the mark of the step that begins at a place, and the first place that is not the step's
  abbrev pub mark_at : ℕ → Option Opcode
  mark_at at = mark_of_read (opcode_from s at at)

  abbrev pub end_at : ℕ → ℕ
  end_at at = end_of_read (bare_from at at)

  -- Among at most n steps, of which the first begins at `at` and has so many before it: the one that p belongs to.
  unfoldable pub step_on : ℕ → ℕ → ℕ → ℕ → Option ToldStep
  step_on zero before at p = none
  step_on (suc n) before at p =
      cond (ltb at (length s))
      (cond (ltb p (end_at at)) (some (told_step (suc before) (mark_at at))) (step_on n (suc before) (end_at at) p))
      none

  -- The step that a place belongs to. There are no more steps than bytes.
  unfoldable pub step_of : ℕ → Option ToldStep
  step_of p = step_on (length s) 0 0 p
