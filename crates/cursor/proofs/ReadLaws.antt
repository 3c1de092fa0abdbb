-- A type in a sheet, as it is read.
use Prim.Native.Nat.{ℕ, ◌+◌}
use mathlib.Core.List.{List}
use mathlib.Core.Path.{◌≡◌, sym, ◌∙◌}
use lib.ListN.{length, drop}
use Rattle.model.specs.Types.{Ty}
use Rattle.format.specs.Reader.{Bytes, got}
use Rattle.format.specs.Records.{write_ty, read_type}
use Rattle.format.specs.ReadWrite.{read_write}
use Rattle.format.specs.WriteRead.{write_read}
use Rattle.names.specs.Table.{Spans}

module _ (s : List ℕ) (at : ℕ) where
  -- its bytes stand there
  pub spanned : Bytes s → (end : ℕ) (t : Ty) → read_type s at ≡ got t end → Spans s at end t
  spanned small end t e =
      let (took, within) = read_write s small at t end e in
      let again : read_type s at ≡ got t (at + length (write_ty t)) = (write_read s t within).run at (drop end s) took.is in
      let m : end ≡ at + length (write_ty t) = let x : got t end ≡ got t (at + length (write_ty t)) = sym e ∙ again in cc in
      record { within = within; stands = rw m at took; reaches = m }
