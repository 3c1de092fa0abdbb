-- The rows of a type: what each way through them lays down.
use Prim.Native.Nat.{ℕ, zero, suc, ◌+◌, ◌-◌, ◌≤◌, ◌<◌}
use native.Mathlib.Omega.{arith}
use mathlib.Core.Bool.{Bool, true, false, not, cond}
use mathlib.Core.List.{List, [], ◌∷◌, ◌++◌, append_assoc}
use mathlib.Core.Option.{none}
use mathlib.Core.Path.{◌≡◌, refl, sym, ◌∙◌, ap}
use denote.Enum.Bare.{sameb}
use lib.ListN.{length, take, drop, length-append}
use lib.Dec.{ltb}
use borrow.Author.Tests.{ltb-true, ltb-false}
use Rattle.model.specs.Limits.{max_depth}
use Rattle.model.specs.Types.{Dim, Shape, shape, Scalar, plain, Fields, no_fields, field, Ty, ty, box_of, shape_of, scalar_of, field_count}
use Rattle.format.specs.Reader.{Bytes}
use Rattle.format.specs.Records.{box_code, box_start, write_shape, write_scalar, write_ty}
use Rattle.format.specs.Outcome.{Outcome, accepted, refused, mapped, lone, scalar_record}
use Rattle.format.specs.Views.{rest-is}
use Rattle.limits.specs.Codes.{code_for}
use Rattle.limits.specs.contracts.codes.Kind.{the_type}
use Rattle.limits.specs.declared.codes.Kind as codes
use Rattle.limits.specs.declared.codes.Kind.TheVariants.{Box}
use Rattle.lent.specs.Delivers.{deliver_bytes, deliver_nothing}
use Rattle.lent.specs.Over.{over, over-over}
use Rattle.record.specs.Answers.{nothing}
use Rattle.record.proofs.LoneLaws.{passed-accepted}
use Rattle.rules.specs.Order.{code_of}
use Rattle.rules.proofs.ViewsLaws.{is_plain}
use Rattle.rules.specs.Shapes.{row_shape}
use Rattle.rules.specs.Types.{any_ty, field_in, first_field, last_field, nth_field, or_else, row_scalar, row_by}
use Rattle.known.specs.Known.{TypeAt, ScalarAt, opening_of, is_closed}
use Rattle.known.proofs.KnownLaws.{closed-shape}
use Rattle.known.proofs.WholeLaws.{type-there, Begins, scalar-there, scalar-inside, whole-scalar}
use Rattle.writer.specs.Kinds.{closed_record}
use Rattle.ty.specs.Rows.{chosen, index_of, reshaped}
use Rattle.ty.specs.declared.rows.Which.{Which}
use Rattle.ty.specs.declared.rows.Which.TheVariants.{First, Last, Nth}
use Rattle.ty.proofs.PartLaws.{type_known}
use Rattle.ty.proofs.ContentLaws.{first_is}

-- ---- three stretches, one after the other

pub parts_length : (u v w : List ℕ) → length (u ++ (v ++ w)) ≡ length u + length v + length w
parts_length u v w = omega (arith, length-append u (v ++ w), length-append v w)

pub parts_laid : (out u v w : List ℕ) → length u + length v + length w ≤ length out → over (over (over out 0 u) (length u) v) (length u + length v) w ≡ over out 0 (u ++ (v ++ w))
parts_laid out u v w fits =
    let start : length u ≡ 0 + length u = omega arith in
    let end : length u + length v ≡ 0 + length (u ++ v) = omega (arith, length-append u v) in
    ap (λ x. over x (length u + length v) w) (ap (λ k. over (over out 0 u) k v) start ∙ over-over out 0 u (omega arith) v)
    ∙ ap (λ k. over (over out 0 (u ++ v)) k w) end
    ∙ over-over out 0 (u ++ v) (omega (arith, length-append u v)) w
    ∙ ap (over out 0) (append_assoc u v w)

-- ---- the field that is chosen

field_any : (n : ℕ) (f : Fields) (t u : Ty) → n < field_count f → or_else (field_in n f) t ≡ or_else (field_in n f) u
unfolding field_in
field_any n no_fields t u h = absurd (omega arith)
field_any zero (field s k f) t u h = refl
field_any (suc n) (field s k f) t u h = field_any n f t u (omega arith)

field_past : (n : ℕ) (f : Fields) (t : Ty) → field_count f ≤ n → or_else (field_in n f) t ≡ t
unfolding field_in
field_past n no_fields t h = refl
field_past zero (field s k f) t h = absurd (omega arith)
field_past (suc n) (field s k f) t h = field_past n f t (omega arith)

last_is : (f : Fields) → last_field f ≡ or_else (field_in (field_count f - 1) f) any_ty
unfolding last_field field_in
last_is no_fields = refl
last_is (field s k no_fields) = refl
last_is (field s k (field t l f)) =
    let e : suc (suc (field_count f)) - 1 ≡ suc (field_count f) = omega arith in
    let d : suc (field_count f) - 1 ≡ field_count f = omega arith in
    rw e (rw d at (last_is (field t l f)))

nth_is : (n : ℕ) (f : Fields) → nth_field n f ≡ or_else (field_in (cond (ltb n (field_count f)) n 0) f) any_ty
unfolding nth_field
nth_is n f = go (ltb n (field_count f)) refl
  where
    go : (b : Bool) → ltb n (field_count f) ≡ b → or_else (field_in n f) (first_field f) ≡ or_else (field_in (cond b n 0) f) any_ty
    go true e = field_any n f (first_field f) any_ty (ltb-true n (field_count f) e)
    go false e = field_past n f (first_field f) (ltb-false n (field_count f) e) ∙ first_is f

pub chosen_is : (w : Which) (f : Fields) → chosen w f ≡ or_else (field_in (index_of w (field_count f)) f) any_ty
unfolding index_of
chosen_is First f = first_is f
chosen_is Last f = last_is f
chosen_is (Nth n) f = nth_is n f

-- ---- a field in a box

pub box_bytes : (s : Shape) (t : Ty) → write_ty (ty s (box_of t)) ≡ write_shape s ++ (box_start 1 ++ write_ty t)
unfolding write_ty write_scalar
box_bytes s (ty o k) = refl

-- ---- the scalar stays

pub keep_bytes : (s : List ℕ) → Bytes s → mapped nothing (lone s) ≡ accepted 0 → {at : ℕ} → Begins s at → (row : Shape) → accepted (write_shape row ++ take (length s - at) (drop at s)) ≡ mapped (reshaped row) (lone s)
unfolding reshaped write_ty
keep_bytes s small good {at} begins row = go (lone s) (whole-scalar s small good begins ∙ ap accepted (sym (rest-is s at)))
  where
    go : (r : Outcome Ty) {w : List ℕ} → mapped scalar_record r ≡ accepted w → accepted (write_shape row ++ w) ≡ mapped (reshaped row) r
    go (accepted (ty o k)) {w} e = let x : write_scalar k ≡ w = cc in rw x
    go (refused k p) e = let z : ◌≡◌ {A = ℕ} 0 1 = cc in absurd (omega arith)

pub ruleset kept = (type_known, scalar-inside, keep_bytes)

-- ---- the row of a closed shape with a plain scalar

rest_row : (o : List Dim) → row_shape (shape o none) ≡ shape (drop 1 o) none
unfolding row_shape
rest_row [] = refl
rest_row (d ∷ o) = refl

plain_row : (w : Which) (o : List Dim) (t : Ty) {x : ℕ} → shape_of t ≡ shape o none → x ≡ code_of (scalar_of t) → (x ≡ box_code → ⊥) → write_ty (row_by (chosen w) t) ≡ closed_record (drop 1 o) x
unfolding row_by row_scalar write_ty write_scalar code_of
plain_row w o (ty s k) shaped coded apart = is_plain k (λ e. apart (coded ∙ e)) λ l is. rw (coded ∙ ap code_of is, is, shaped, rest_row o)

not_box : (l : codes.Kind) → true ≡ not (sameb the_type l Box) → code_for l ≡ box_code → ⊥
not_box l e f = grind arith

-- its scalar begins at `at`, and its kind has the code x
module _ (s : List ℕ) (small : Bytes s) (good : mapped nothing (lone s) ≡ accepted 0) {at : ℕ} (begins : Begins s at) {x : ℕ} (kind : (d : ℕ) (k : Scalar) → ScalarAt s at d k → x ≡ code_of k) {o : List Dim} {closed : Bool}
    (opening : (d : ℕ) (t : Ty) → TypeAt s 0 d t → o ≡ opening_of (shape_of t))
    (says : (d : ℕ) (t : Ty) → TypeAt s 0 d t → closed ≡ is_closed (shape_of t)) where
  pub row-closed : closed ≡ true → (x ≡ box_code → ⊥) → (w : Which) {r : List Dim} → r ≡ drop 1 o → mapped (λ t. write_ty (row_by (chosen w) t)) (lone s) ≡ accepted (closed_record r x)
  row-closed e apart w is = passed-accepted (lone s) good λ t read.
      let shaped = closed-shape opening says max_depth t (type-there s small t read) e in
      let coded = kind (max_depth - 1) (scalar_of t) (scalar-there s small begins t read) in
      rw (read, is) (ap accepted (plain_row w o t shaped coded apart))

-- of a kind
module _ (s : List ℕ) (small : Bytes s) (good : mapped nothing (lone s) ≡ accepted 0) {at : ℕ} (begins : Begins s at) (l : codes.Kind) (kind : (d : ℕ) (k : Scalar) → ScalarAt s at d k → code_for l ≡ code_of k) {o : List Dim}
    (opening : (d : ℕ) (t : Ty) → TypeAt s 0 d t → o ≡ opening_of (shape_of t))
    (closed : (d : ℕ) (t : Ty) → TypeAt s 0 d t → true ≡ is_closed (shape_of t)) where
  pub row_closed : true ≡ not (sameb the_type l Box) → (w : Which) {r : List Dim} → r ≡ drop 1 o → accepted (closed_record r (code_for l)) ≡ mapped (λ t. write_ty (row_by (chosen w) t)) (lone s)
  row_closed apart w is = sym (row-closed s small good begins kind opening closed refl (not_box l apart) w is)

pub ruleset parted = (parts_length, parts_laid, deliver_bytes, deliver_nothing)
