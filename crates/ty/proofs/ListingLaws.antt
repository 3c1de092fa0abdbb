-- A box as a list of types: what copies of a type deliver.
use Prim.Native.Nat.{ℕ, zero, suc}
use mathlib.Core.Bool.{Bool, true, false, cond}
use mathlib.Core.List.{List, ◌++◌}
use mathlib.Core.Option.{none, some}
use mathlib.Core.Path.{◌≡◌, refl, ◌∙◌, ap}
use lib.Dec.{leb}
use Rattle.model.specs.Limits.{max_fields}
use Rattle.model.specs.Refusals.{too_many}
use Rattle.model.specs.Types.{Dim, static, unknown, Ty}
use Rattle.format.specs.Records.{write_fields, write_ty}
use Rattle.format.specs.Outcome.{accepted, refused, deliver}
use Rattle.rules.specs.Types.{Boxes, boxes, copies, copies_for, write_boxes}
use Rattle.rules.proofs.FieldsLaws.{copies-count, copies-bytes}
use Rattle.ty.specs.Calls.{given, offered, deliver_boxes}
use Rattle.ty.specs.Copies.{repeated, copy_bytes, copy_bytes_for}

fields_repeated : (n : ℕ) (t : Ty) → write_fields (copies n t) ≡ repeated n (write_ty t)
unfolding repeated copies write_fields
fields_repeated zero t = refl
fields_repeated (suc n) t = copies-bytes n t ∙ ap (λ w. write_ty t ++ w) (fields_repeated n t)

boxes_repeated : (n : ℕ) (t : Ty) → write_boxes (boxes none (copies n t)) ≡ copy_bytes n (write_ty t)
unfolding write_boxes copy_bytes
boxes_repeated n t = rw (copies-count n t, fields_repeated n t)

pub copies_delivered : (buffer : List ℕ) (d : Dim) (t : Ty) → deliver_boxes (copies_for d t) buffer ≡ offered (deliver (copy_bytes_for d (write_ty t)) buffer)
unfolding deliver_boxes copies_for copy_bytes_for deliver
copies_delivered buffer unknown t = rw (boxes_repeated 1 t)
copies_delivered buffer (static n) t = go (leb n max_fields)
  where
    go : (b : Bool) → deliver_boxes (cond b (accepted (some (boxes none (copies n t)))) (refused too_many 0)) buffer ≡ offered (deliver (cond b (accepted (copy_bytes n (write_ty t))) (refused too_many 0)) buffer)
    go true = rw (boxes_repeated n t)
    go false = refl

-- ---- each way out

module _ (buffer : List ℕ) where
  pub given_none : deliver_boxes (accepted none) buffer ≡ given (accepted none) buffer
  unfolding deliver_boxes
  given_none = refl

  pub given_refused : (k p : ℕ) → deliver_boxes (refused k p) buffer ≡ given (refused k p) buffer
  unfolding deliver_boxes
  given_refused k p = refl

  pub given_some : (b : Boxes) → deliver_boxes (accepted (some b)) buffer ≡ offered (deliver (accepted (write_boxes b)) buffer)
  unfolding deliver_boxes
  given_some b = refl

pub ruleset listed = (given_none, given_refused, given_some, copies_delivered)
