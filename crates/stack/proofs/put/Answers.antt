use Rattle.std.proofs.Common.{◌-◌, arith, refl}
use Rattle.stack.proofs.KeepsLaws.{put-takes}
use Rattle.stack.proofs.put.Goals as goal

pub returns : goal.returns
returns c =
    let args = c.args in
    λ s h d t within long stands.
    put-takes args.ends.now args.lengths.now s h d args.k args.k c.requires.0 (omega arith) t within args.end (args.end - args.start) (omega arith) h d refl refl refl (record { from = args.start; reaches = long; stands = stands })
