use native.Mathlib.Omega.{arith}
use lib.Seq.{length-take-le}
use Rattle.machine.specs.SheetLimits.{scratch_bytes}
use Rattle.run.proofs.SheetLaws.{call_short, call_runs}
use Rattle.run.proofs.sheet.measure_sheet.Goals as goal

pub returns-then-scratch-lt-SCRATCH_BYTES-clause-scratch_after : goal.returns-then-scratch-lt-SCRATCH_BYTES-clause-scratch_after
returns-then-scratch-lt-SCRATCH_BYTES-clause-scratch_after c = call_short _ _ _ c.if-scratch-lt-SCRATCH_BYTES.true

pub run_sheet-answer-requires : goal.run_sheet-answer-requires
run_sheet-answer-requires c = (c.requires, rw (length-take-le scratch_bytes c.args.scratch.now c.if-scratch-lt-SCRATCH_BYTES.false) (omega arith))

pub returns-clause-scratch_after : goal.returns-clause-scratch_after
returns-clause-scratch_after c = call_runs _ _ _ _ _ _ _ c.if-scratch-lt-SCRATCH_BYTES.false c.run_sheet-answer.auto.scratch c.run_sheet-answer.ensures.called c.clear.ensures
