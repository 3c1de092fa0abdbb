use Rattle.validate.proofs.HeadLaws.{box-laid, def-laid}
use Rattle.validate.proofs.heads.put_def.Goals as goal

pub returns : goal.returns
returns c =
    let args = c.args in
    λ label h. def-laid label h (c.name_at-end.ensures label h).ends args.out.now args.to c.requires.1 (box-laid 2 c.code.ensures c.put_box-start.ensures) c.lay.ensures args.count
