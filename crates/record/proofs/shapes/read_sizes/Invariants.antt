use Rattle.std.proofs.Common.{◌≡◌, ◌-◌}
use Rattle.format.specs.Reader.{map_read}
use Rattle.format.specs.Records.{read_dims}
use Rattle.record.specs.Answers.{nothing}
use Rattle.record.proofs.shapes.read_sizes.Given as goal

-- the rest of the sizes is read from the place reached
abbrev pub invariant-loop : goal.invariant-loop
invariant-loop l = map_read nothing (read_dims l.s (l.count - l.counter) l.place l.at) ≡ map_read nothing (read_dims l.s l.count l.place l.start)
