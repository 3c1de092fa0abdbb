use native.Mathlib.Omega.{arith}
use mathlib.Core.List.{reverse}
use lib.ListN.{drop}
use Rattle.record.specs.Answers.{dims_of}
use Rattle.validate.proofs.DimsLaws.{size_rest, rest_long, agree-more, agree-stop, agree-ended}
use Rattle.validate.proofs.dims.agree_ends.Goals as goal

pub returns-then-not-test : goal.returns-then-not-test
returns-then-not-test g c = λ rule by.
    let a = c.args.a in
    let b = c.args.b in
    let i = c.loop-i.i in
    let x = size_rest a 0 c.size_count-m.ensures.0 i (omega arith) in
    let y = size_rest b c.args.skipped c.size_count-n.ensures.0 i (omega arith) in
    let m = rest_long a 0 c.size_count-m.ensures.0 in
    let n = rest_long b c.args.skipped c.size_count-n.ensures.0 in
    agree-stop rule (reverse (dims_of a)) (reverse (drop c.args.skipped (dims_of b))) i (c.loop-i.invariant rule by) (omega arith) (omega arith) x y (by _ _ _ c.test.ensures) c.if-not-test.true

pub loop-i-preserved : goal.loop-i-preserved
loop-i-preserved g c = λ rule by.
    let a = c.args.a in
    let b = c.args.b in
    let i = c.loop-i.i in
    let x = size_rest a 0 c.size_count-m.ensures.0 i (omega arith) in
    let y = size_rest b c.args.skipped c.size_count-n.ensures.0 i (omega arith) in
    let m = rest_long a 0 c.size_count-m.ensures.0 in
    let n = rest_long b c.args.skipped c.size_count-n.ensures.0 in
    agree-more rule (reverse (dims_of a)) (reverse (drop c.args.skipped (dims_of b))) i (c.loop-i.invariant rule by) (omega arith) (omega arith) x y (by _ _ _ c.test.ensures) c.if-not-test.false

pub returns : goal.returns
returns g c = λ rule by.
    let a = c.args.a in
    let b = c.args.b in
    let m = rest_long a 0 c.size_count-m.ensures.0 in
    let n = rest_long b c.args.skipped c.size_count-n.ensures.0 in
    agree-ended rule (reverse (dims_of a)) (reverse (drop c.args.skipped (dims_of b))) c.loop-i.i (c.loop-i.invariant rule by) (omega arith)
