-- The bytes of what is written: a closed type of a plain kind, a plain scalar, and a type handed in.
use Prim.Native.Nat.{ℕ}
use mathlib.Core.List.{List}
use mathlib.Core.Option.{none}
use mathlib.Core.Path.{◌≡◌, refl, ap}
use Rattle.model.specs.Types.{Dim, shape, Kind, num, any, plain, ty}
use Rattle.format.specs.Reader.{Bytes}
use Rattle.format.specs.Records.{code, write_scalar, write_ty}
use Rattle.format.specs.ReadWrite.{lone_write}
use Rattle.format.specs.Outcome.{accepted, mapped, lone}
use Rattle.record.specs.Answers.{nothing}
use Rattle.record.proofs.LoneLaws.{passed-accepted}
use Rattle.writer.specs.Kinds.{kind_record, closed_record}

pub num_written : (ds : List Dim) → write_ty (ty (shape ds none) (plain num)) ≡ closed_record ds 3
unfolding write_ty write_scalar code
num_written ds = refl

pub any_written : (ds : List Dim) → write_ty (ty (shape ds none) (plain any)) ≡ closed_record ds 9
unfolding write_ty write_scalar code
any_written ds = refl

pub plain_written : (k : Kind) → write_scalar (plain k) ≡ kind_record (code k)
unfolding write_scalar
plain_written k = refl

-- a type that is written again is its bytes
pub same_written : (s : List ℕ) → Bytes s → mapped nothing (lone s) ≡ accepted 0 → mapped write_ty (lone s) ≡ accepted s
same_written s small accepts = passed-accepted (lone s) accepts λ t e. rw e (ap accepted (lone_write s small t e).0)
