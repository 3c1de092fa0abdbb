-- A shape's record in its parts: what each way through the writer lays down, and what a lone type's parts are.
use Prim.Native.Nat.{ℕ, ◌+◌, ◌*◌, ◌≤◌}
use native.Mathlib.Omega.{arith}
use native.Mathlib.Numerals.{unary_clauses}
use mathlib.Core.List.{List, [], ◌∷◌, ◌++◌, append_assoc, append-nil}
use mathlib.Core.Option.{Option, none, some}
use mathlib.Core.Path.{◌≡◌, refl, ◌∙◌, ap}
use lib.ListN.{length, set, length-append}
use lib.Seq.{sets, sets-eq}
use Rattle.model.specs.Types.{Dim, Shape, shape, Ty, ty, shape_of}
use Rattle.format.specs.Records.{absent, shape_mark, scalar_mark, mark_bytes, box_code, box_start, list_of, write_dims, write_shape}
use Rattle.format.specs.Suffices.{length-write_dims}
use Rattle.format.specs.Outcome.{Outcome, accepted, refused, mapped, shape_record}
use Rattle.lent.specs.Over.{over, over-over}

abbrev pub head : ℕ → ℕ → List ℕ
head m n = mark_bytes shape_mark ++ (m ∷ n ∷ [])

-- the four bytes that begin a shape, the three of a plain scalar, and the six of a box, each stored
pub four_stores : (out : List ℕ) (at m n : ℕ) → at + 4 ≤ length out → set (set (set (set out at 0x53) (at + 1) 0x48) (at + 2) m) (at + 3) n ≡ over out at (head m n)
four_stores out at m n fits =
    let stores : set (set (set (set out at 0x53) (at + 1) 0x48) (at + 2) m) (at + 3) n ≡ sets out at (head m n) = simp unary_clauses in
    stores ∙ sets-eq (head m n) out at fits

pub three_stores : (out : List ℕ) (at kind : ℕ) → at + 3 ≤ length out → set (set (set out at 0x53) (at + 1) 0x43) (at + 2) kind ≡ over out at (mark_bytes scalar_mark ++ (kind ∷ []))
three_stores out at kind fits =
    let stores : set (set (set out at 0x53) (at + 1) 0x43) (at + 2) kind ≡ sets out at (mark_bytes scalar_mark ++ (kind ∷ [])) = simp unary_clauses in
    stores ∙ sets-eq (mark_bytes scalar_mark ++ (kind ∷ [])) out at fits

pub six_stores : (out : List ℕ) (at form : ℕ) → at + 6 ≤ length out → set (set (set (set (set (set out at 0x53) (at + 1) 0x43) (at + 2) box_code) (at + 3) 0x42) (at + 4) 0x58) (at + 5) form ≡ over out at (box_start form)
six_stores out at form fits =
    let stores : set (set (set (set (set (set out at 0x53) (at + 1) 0x43) (at + 2) box_code) (at + 3) 0x42) (at + 4) 0x58) (at + 5) form ≡ sets out at (box_start form) = simp unary_clauses in
    stores ∙ sets-eq (box_start form) out at fits

pub length_record : (o : List Dim) (c : Option (List Dim)) → length (write_shape (shape o c)) ≡ 4 + 8 * length o + 8 * length (list_of c)
unfolding write_shape
length_record o c = simp length-append (omega (arith, length-write_dims o, length-write_dims (list_of c)))

-- ---- the record laid down in parts

-- bytes right behind others
pub over_behind : (out : List ℕ) (at : ℕ) (w v : List ℕ) {next : ℕ} → next ≡ at + length w → at + length w ≤ length out → over (over out at w) next v ≡ over out at (w ++ v)
over_behind out at w v e fits = ap (λ j. over (over out at w) j v) e ∙ over-over out at w fits v

module _ (out : List ℕ) (at : ℕ) (o : List Dim) where
  pub shape_closed : at + length (write_shape (shape o none)) ≤ length out → over (over out at (head (length o) absent)) (at + 4) (write_dims o) ≡ over out at (write_shape (shape o none))
  unfolding write_shape
  shape_closed fits = rw append-nil (over_behind out at (head (length o) absent) (write_dims o) refl (omega (arith, length_record o none)))

  pub shape_open : (c : List Dim) → at + length (write_shape (shape o (some c))) ≤ length out
      → over (over (over out at (head (length o) (length c))) (at + 4) (write_dims o)) (at + 4 + 8 * length o) (write_dims c) ≡ over out at (write_shape (shape o (some c)))
  unfolding write_shape
  shape_open c fits =
      let h : List ℕ = head (length o) (length c) in
      let long : length (h ++ write_dims o) ≡ 4 + 8 * length o = simp length-append (omega (arith, length-write_dims o)) in
      let room = length_record o (some c) in
      ap (λ x. over x (at + 4 + 8 * length o) (write_dims c)) (over_behind out at h (write_dims o) refl (omega arith))
      ∙ over_behind out at (h ++ write_dims o) (write_dims c) (omega arith) (omega arith)
      ∙ ap (over out at) (append_assoc h (write_dims o) (write_dims c))

-- ---- the parts of a lone type

pub shape_record-is : (o : Outcome Ty) {s : Shape} → mapped shape_of o ≡ accepted s → mapped shape_record o ≡ accepted (write_shape s)
shape_record-is (accepted (ty t k)) {s} e = let x : t ≡ s = cc in rw x
shape_record-is (refused k p) e = let z : ◌≡◌ {A = ℕ} 0 1 = cc in absurd (omega arith)
