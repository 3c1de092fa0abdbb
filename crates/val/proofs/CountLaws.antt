-- The shape of a type that was read.
use Prim.Native.Nat.{ℕ}
use mathlib.Core.List.{List}
use mathlib.Core.Path.{◌≡◌}
use Rattle.model.specs.Limits.{max_depth}
use Rattle.format.specs.Reader.{Bytes}
use Rattle.format.specs.Outcome.{accepted, mapped, lone}
use Rattle.record.specs.Answers.{nothing}
use Rattle.known.specs.Known.{HasType}
use Rattle.known.proofs.WholeLaws.{has-type, whole-shape}

pub type_known : (s : List ℕ) → Bytes s → mapped nothing (lone s) ≡ accepted 0 → (d : ℕ) × HasType s 0 d
type_known s small good = (max_depth, has-type s small good)

pub ruleset shaped = (type_known, whole-shape)
