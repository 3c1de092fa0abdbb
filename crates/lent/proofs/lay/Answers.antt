use native.Mathlib.Omega.{arith}
use borrow.Author.Rules.{rules}
use Rattle.lent.proofs.LayLaws.{paste_more}
use Rattle.lent.proofs.lay.Goals as goal

pub loop-i-preserved : goal.loop-i-preserved
loop-i-preserved c =
    let args = c.args in
    record { room = search rules; laid = paste_more args.dst.now args.src.now _ args.at c.loop-i.i c.requires (omega arith) c.loop-i.invariant.laid }
