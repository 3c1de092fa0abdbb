use native.Mathlib.Omega.{arith}
use Rattle.record.specs.Answers.{dims_of}
use Rattle.record.proofs.ByValue.{size-at}
use Rattle.validate.proofs.DimsLaws.{agree-more, agree-stop, agree-ended}
use Rattle.validate.proofs.dims.agree.Goals as goal

pub returns-then-not-test : goal.returns-then-not-test
returns-then-not-test g c = λ rule by.
    let a = c.args.a in
    let b = c.args.b in
    let i = c.loop-i.i in
    agree-stop rule (dims_of a) (dims_of b) i (c.loop-i.invariant rule by) (omega arith) (omega arith) (size-at a i (omega arith)) (size-at b i (omega arith))
    (by _ _ _ c.test.ensures) c.if-not-test.true

pub loop-i-preserved : goal.loop-i-preserved
loop-i-preserved g c = λ rule by.
    let a = c.args.a in
    let b = c.args.b in
    let i = c.loop-i.i in
    agree-more rule (dims_of a) (dims_of b) i (c.loop-i.invariant rule by) (omega arith) (omega arith) (size-at a i (omega arith)) (size-at b i (omega arith))
    (by _ _ _ c.test.ensures) c.if-not-test.false

pub returns : goal.returns
returns g c = λ rule by. agree-ended rule (dims_of c.args.a) (dims_of c.args.b) c.loop-i.i (c.loop-i.invariant rule by) (omega arith)
