-- A shape's record and behind it a plain scalar's.
use Prim.Native.Nat.{ℕ, ◌+◌, ◌*◌, ◌≤◌}
use native.Mathlib.Omega.{arith}
use mathlib.Core.List.{List, ◌++◌}
use mathlib.Core.Option.{none}
use mathlib.Core.Path.{◌≡◌, ◌∙◌, ap}
use lib.ListN.{length, length-append}
use Rattle.model.specs.Types.{Dim, Shape, shape}
use Rattle.format.specs.Records.{absent, write_dims, write_shape}
use Rattle.lent.specs.Over.{over}
use Rattle.writer.specs.Kinds.{kind_record, closed_record}
use Rattle.writer.proofs.Records.{head, length_record, over_behind, shape_closed}

module _ (s : Shape) (kind : ℕ) where
  pub length_plain : length (write_shape s ++ kind_record kind) ≡ length (write_shape s) + 3
  length_plain = length-append (write_shape s) (kind_record kind)

  -- at the front of a result
  pub plain_type : (out : List ℕ) (next : ℕ) → next ≡ length (write_shape s) → next + 3 ≤ length out → over (over out 0 (write_shape s)) next (kind_record kind) ≡ over out 0 (write_shape s ++ kind_record kind)
  plain_type out next place fits = over_behind out 0 (write_shape s) (kind_record kind) (omega arith) (omega arith)

-- ---- where the shape is closed

module _ (o : List Dim) (kind : ℕ) where
  pub length_closed : length (closed_record o kind) ≡ 4 + 8 * length o + 3
  length_closed = omega (arith, length_plain (shape o none) kind, length_record o none)

  pub closed_type : (out : List ℕ) (at : ℕ) → at + length (closed_record o kind) ≤ length out
      → over (over (over out at (head (length o) absent)) (at + 4) (write_dims o)) (at + 4 + 8 * length o) (kind_record kind) ≡ over out at (closed_record o kind)
  closed_type out at fits =
      let whole = length_plain (shape o none) kind in
      let long = length_record o none in
      ap (λ x. over x (at + 4 + 8 * length o) (kind_record kind)) (shape_closed out at o (omega arith))
      ∙ over_behind out at (write_shape (shape o none)) (kind_record kind) (omega arith) (omega arith)
