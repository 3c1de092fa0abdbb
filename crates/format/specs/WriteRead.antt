-- Demand 2: written and read, the type. What `write_ty` writes for a type within the limits is read back as that type,
-- wherever it stands.
use Prim.Native.Nat.{ℕ, zero, suc, ◌-◌, ◌^◌, ◌≤◌, ◌<◌}
use Rattle.std.proofs.Common.{add-zero, sym, ap, lit<, lit≤}
use native.Mathlib.Omega.{arith}
use Rattle.std.specs.Prelude.{Bool, true, ◌||◌, ◌≡◌, length, leb}
use Rattle.std.proofs.Math.Bool.{false}
use mathlib.Core.List.{List, [], ◌∷◌, ◌++◌, append-nil}
use Rattle.std.proofs.Math.Option.{Option, none, some}
use Rattle.std.proofs.Math.Path.{refl}
use Rattle.std.proofs.Math.Dec.{eqb}
use borrow.Author.Tests.{le-leb, eq-eqb, ne_eqb, le-ltb}
use Rattle.model.specs.Limits.{ones, max_size, max_sizes, max_name, max_fields, first_printing, last_printing, max_types, max_depth}
use Rattle.model.specs.Refusals.{out_of_range}
use Rattle.model.specs.Types.{Dim, static, unknown, Shape, shape, Kind, bool, nat, int, num, complex, ascii, char, stream, any, Scalar}
use Rattle.model.specs.Types.{plain, box_any, box_all, box_def, Fields, no_fields, field, Ty, ty, field_count, inside, among, below, deepest}
use Rattle.model.specs.Within.{All, Each, DimWithin, DimsWithin, ShapeWithin, Printing, NameWithin, ScalarWithin, FieldsWithin, Within}
use Rattle.format.specs.Reader.{Read, got, Reader, give, stop, bytes_of, Reads}
use Rattle.format.specs.ReaderLaws.{reads-give, reads_bind, reads_byte, reads-judged, reads_here, reads-last, reads-number}
use Rattle.format.specs.Records.{Mark, mark, shape_mark, scalar_mark, box_mark, mark_bytes, absent, code, box_code, kind_of, dim_number, write_dims, count_of, list_of, write_shape, box_start, write_scalar, write_fields, write_ty}
use Rattle.format.specs.Records.{is_count, is_optional, list_count, optional, is_printing, form, read_mark, read_dim, read_dims, shape_from, read_name, read_fields, def_from, all_from, box_from, scalar_from, read_ty, read_type}
use Rattle.format.specs.Outcome.{accepted, alone, lone}

-- ---- codes and counts

pub kind-code : (k : Kind) → kind_of (code k) ≡ some k
unfolding kind_of code
kind-code bool = refl
kind-code nat = refl
kind-code int = refl
kind-code num = refl
kind-code complex = refl
kind-code ascii = refl
kind-code char = refl
kind-code stream = refl
kind-code any = refl

pub code-unboxed : (k : Kind) → eqb (code k) box_code ≡ false
unfolding code
code-unboxed bool = refl
code-unboxed nat = refl
code-unboxed int = refl
code-unboxed num = refl
code-unboxed complex = refl
code-unboxed ascii = refl
code-unboxed char = refl
code-unboxed stream = refl
code-unboxed any = refl

-- A list that may be absent, of at most `most` elements, where `most` is below the byte for an absent one.
module _ {A : Type 0} (most : ℕ) (small : most < absent) where
  count_ok : (c : Option (List A)) → length (list_of c) ≤ most → is_optional most (count_of c) ≡ true
  count_ok none h = go (leb absent most)
    where
      go : (t : Bool) → (t || true) ≡ true
      go true = refl
      go false = refl
  count_ok (some c) h = rw (le-leb (length c) most h)

  pub optional_ok : (c : Option (List A)) → length (list_of c) ≤ most → optional (count_of c) (list_of c) ≡ c
  optional_ok none h = refl
  optional_ok (some c) h = rw (ne_eqb (length c) absent (λ x. omega arith))

  pub list_count_ok : (c : Option (List A)) → length (list_of c) ≤ most → list_count (count_of c) ≡ length (list_of c)
  list_count_ok none h = refl
  list_count_ok (some c) h = rw (ne_eqb (length c) absent (λ x. omega arith))

pub closing-within : (c : Option (List Dim)) → Each DimsWithin c → DimsWithin (list_of c)
closing-within none h = (lit≤ tt, tt)
closing-within (some c) h = h

-- ---- records

module _ (s : List ℕ) where
  pub reads-mark : (m : Mark) (p : ℕ) → Reads s (read_mark s m p) (mark_bytes m) (tt {0})
  unfolding read_mark
  reads-mark (mark a b) p = reads_byte p _ (reads_byte p _ (record { run = λ at rest e. rw (eq-eqb a a refl, eq-eqb b b refl, add-zero) }))

  reads_dim : (p : ℕ) (d : Dim) → DimWithin d → Reads s (read_dim s p) (bytes_of 8 (dim_number d)) d
  unfolding read_dim
  reads_dim p (static n) h =
      let h₁ : n < 256 ^ 8 = omega arith in
      let h₂ : eqb n ones ≡ false = ne_eqb n ones (λ x. omega arith) in
      record { run = λ at rest e. rw ((reads-number 8 p n h₁).run at rest e, h₂, le-leb n max_size h) }
  reads_dim p unknown h = record { run = λ at rest e. rw ((reads-number 8 p ones (lit< tt)).run at rest e) }

  reads-dims : (p : ℕ) (ds : List Dim) → All DimWithin ds → Reads s (read_dims s (length ds) p) (write_dims ds) ds
  unfolding read_dims
  reads-dims p [] h = reads-give
  reads-dims p (d ∷ ds) h = reads_bind _ (reads_dim p d h.0) (reads-last _ (reads-dims p ds h.1) refl)

  reads-closing : (p : ℕ) (c : Option (List Dim)) → length (list_of c) ≤ max_sizes → All DimWithin (list_of c) → Reads s (read_dims s (list_count (count_of c)) p) (write_dims (list_of c)) (list_of c)
  reads-closing p c few each = rw (list_count_ok max_sizes (lit< tt) c few) (reads-dims p (list_of c) each)

  pub reads-shape : (p : ℕ) (t : Shape) → ShapeWithin t → Reads s (shape_from s p) (write_shape t) t
  unfolding shape_from write_shape
  reads-shape p (shape o c) h =
      let (few, each) = closing-within c h.1 in
      reads_bind _ (reads-mark shape_mark p)
      (reads-judged (is_count max_sizes) p _ (le-leb (length o) max_sizes h.0.0)
      (reads-judged (is_optional max_sizes) p _ (count_ok max_sizes (lit< tt) c few)
      (reads_bind _ (reads-dims p o h.0.1)
      (reads-last _ (reads-closing p c few each) (ap (shape o) (optional_ok max_sizes (lit< tt) c few))))))

  pub reads-name : (p : ℕ) (n : List ℕ) → All Printing n → Reads s (read_name s (length n) p) n n
  unfolding read_name
  reads-name p [] h = reads-give
  reads-name p (b ∷ n) h = reads-judged is_printing p _ (rw (le-leb first_printing b h.0.0, le-leb b last_printing h.0.1)) (reads-last _ (reads-name p n h.1) refl)

  name-within : (n : Option (List ℕ)) → Each NameWithin n → (length (list_of n) ≤ max_name) × All Printing (list_of n)
  name-within none h = (lit≤ tt, tt)
  name-within (some n) h = h

  reads-named : (p : ℕ) (n : Option (List ℕ)) → length (list_of n) ≤ max_name → All Printing (list_of n) → Reads s (read_name s (list_count (count_of n)) p) (list_of n) (list_of n)
  reads-named p n few each = rw (list_count_ok max_name (lit< tt) n few) (reads-name p (list_of n) each)

  box-start : (go : ℕ → Reader Ty) (n p c : ℕ) {w : List ℕ} {k : Scalar} → ((q : ℕ) → Reads s (form c (give box_any) (all_from s go n) (def_from s go n q) (stop out_of_range q)) w k) → Reads s (scalar_from s go n p) (box_start c ++ w) k
  unfolding scalar_from box_from
  box-start go n p c h =
      reads_bind _ (reads-mark scalar_mark p) (reads_byte p _
      (reads_here (box_from s go n) λ q. reads_bind _ (reads-mark box_mark q) (reads_byte q _ (h q))))

  -- What the reader of a scalar's contents, at most d deep, owes to a scalar with at most n types inside.
  abbrev pub Read-back : Scalar → ℕ → ℕ → Type 0
  Read-back k d n = (p : ℕ) → Reads s (scalar_from s (read_ty s d) n p) (write_scalar k) k

  pub reads-ty :
      (t : Shape)
      (k : Scalar)
      (d n : ℕ) →
      ShapeWithin t →
      below k < d →
      inside k < n →
      ((d' n' : ℕ) → below k ≤ d' → inside k ≤ n' → Read-back k d' n') →
      Reads s (read_ty s d n) (write_shape t ++ write_scalar k) (ty t k)
  unfolding read_ty
  reads-ty t k zero n o h c g = absurd (omega arith)
  reads-ty t k (suc d) zero o h c g = absurd (omega arith)
  reads-ty t k (suc d) (suc n) o h c g =
      reads_bind _ (reads_here (shape_from s) λ q. reads-shape q t o)
      (reads-last _ (reads_here (scalar_from s (read_ty s d) n) (g d n (omega arith) (omega arith))) refl)

  mutual
    unfolding write_scalar inside below scalar_from box_from def_from read_fields

    pub reads-scalar : (k : Scalar) → ScalarWithin k → (d n : ℕ) → below k ≤ d → inside k ≤ n → Read-back k d n
    reads-scalar (plain k) o d n h c p =
        reads_bind _ (reads-mark scalar_mark p) (reads_byte p _ (rw (code-unboxed k, kind-code k) reads-give))
    reads-scalar box_any o d n h c p = rw append-nil at (box-start (read_ty s d) n p 0 λ q. reads-give)
    reads-scalar (box_all t k) o d n h c p =
        box-start (read_ty s d) n p 1 λ q.
        reads-last _ (reads-ty t k d n o.0 (omega arith) (omega arith) (λ d' n' h' c' p. reads-scalar k o.1 d' n' h' c' p)) refl
    reads-scalar (box_def m f) o d n h c p =
        let (few, each) = name-within m o.0 in
        box-start (read_ty s d) n p 2 λ q.
        reads-judged (is_optional max_name) q _ (count_ok max_name (lit< tt) m few)
        (reads_bind _ (reads-named q m few each)
        (reads-judged (is_count max_fields) q _ (le-leb (field_count f) max_fields o.1)
        (reads-last _ (reads-fields f o.2 d n (omega arith) (omega arith)) (ap (λ x. box_def x f) (optional_ok max_name (lit< tt) m few)))))

    pub reads-fields : (f : Fields) → FieldsWithin f → (d n : ℕ) → deepest f ≤ d → among f ≤ n → Reads s (read_fields s (read_ty s d) (field_count f) n) (write_fields f) f
    reads-fields no_fields o d n h c = reads-give
    reads-fields (field t k f) o d n h c =
        reads_bind _ (reads-ty t k d n o.0 (omega arith) (omega arith) (λ d' n' h' c' p. reads-scalar k o.1 d' n' h' c' p))
        (reads-last _ (reads-fields f o.2 d (n - suc (inside k)) (omega arith) (omega arith)) refl)

-- ---- types

-- Written and read, the type, wherever it stands.
pub write_read : (s : List ℕ) (t : Ty) → Within t → Reads s (read_type s) (write_ty t) t
unfolding write_ty
write_read s (ty t k) w = reads-ty s t k max_depth max_types w.records.0 w.shallow w.few (λ d n h c. reads-scalar s k w.records.1 d n h c)

alone-whole : (size : ℕ) (r : Read Ty) (t : Ty) (n : ℕ) → r ≡ got t n → size ≤ n → alone size r ≡ accepted t
alone-whole size r t n e h = rw (e, le-ltb n size h)

-- Written and read alone.
pub write_lone : (t : Ty) → Within t → lone (write_ty t) ≡ accepted t
unfolding lone
write_lone t w = alone-whole (length (write_ty t)) _ t _ ((write_read (write_ty t) t w).run 0 [] (sym (append-nil (write_ty t)))) (omega arith)
