-- Demand 2: read and written, the bytes. What is read keeps every limit, and what is written for it are the bytes read.
use Prim.Native.Nat.{ℕ, zero, suc, ◌+◌, ◌-◌, ◌≤◌}
use Rattle.std.proofs.Math.Nat.{zero-add}
use native.Mathlib.Omega.{arith}
use Rattle.std.specs.Prelude.{Bool, ◌&&◌, ◌||◌, List, [], ◌∷◌, ◌++◌, drop}
use Rattle.std.proofs.Math.Bool.{true, false, cond, or-false}
use Rattle.std.proofs.Common.{append-nil, sym, ◌∙◌, drop_of_length-le}
use Rattle.std.proofs.Math.Option.{Option, none, some}
use Rattle.std.proofs.Math.Path.{◌≡◌, refl, ap}
use Rattle.std.proofs.Math.ListN.{length}
use Rattle.std.proofs.Math.Seq.{drop-append_seam}
use Rattle.std.proofs.Math.Dec.{eqb, leb, ltb}
use borrow.Author.Tests.{leb-true, eqb-true, ltb-false}
use Rattle.model.specs.Limits.{ones, max_size, max_sizes, max_name, max_fields, first_printing, last_printing, max_types, max_depth}
use Rattle.model.specs.Refusals.{unmarked, out_of_range, trailing}
use Rattle.model.specs.Types.{Dim, static, unknown, Shape, Kind, bool, nat, int, num, complex, ascii, char, stream, any, Scalar, plain, box_any, Fields, Ty, ty, box_of, field_of, field_count, inside, among, types, below, deepest, depth}
use Rattle.model.specs.Within.{All, Each, DimWithin, ShapeWithin, Printing, ScalarWithin, FieldsWithin, RecordsWithin, Within}
use Rattle.format.specs.Reader.{Bytes, Read, got, stopped, Reader, and_then, give, stop, need, here, byte, judged, number, bytes_of, Took}
use Rattle.format.specs.WriteRead.{reads-shape}
use Rattle.format.specs.ReaderLaws.{reads_here, took-none, took-join, split, gave, needed, took-byte, took-judged, took_number}
use Rattle.format.specs.Records.{Mark, mark, shape_mark, scalar_mark, box_mark, mark_bytes, absent, code, box_code, kind_of, dim_number, write_dims, count_of, list_of, write_shape, box_start, write_scalar, write_fields, write_ty, dim_of, is_count}
use Rattle.format.specs.Records.{is_optional, list_count, optional, is_printing, form, or_stop, read_mark, read_dim, read_dims, shape_from, read_shape, read_name, read_fields, def_from, all_from, box_from, plain_from, scalar_from, read_ty, read_type}
use Rattle.format.specs.Outcome.{accepted, refused, alone, lone}

-- ---- codes and counts

-- A code that has a kind is that kind's code.
code-kind : (n : ℕ) (k : Kind) → kind_of n ≡ some k → code k ≡ n
unfolding kind_of code
code-kind zero k e = let x : bool ≡ k = cc in rw (← x)
code-kind (suc zero) k e = let x : nat ≡ k = cc in rw (← x)
code-kind (suc (suc zero)) k e = let x : int ≡ k = cc in rw (← x)
code-kind (suc (suc (suc zero))) k e = let x : num ≡ k = cc in rw (← x)
code-kind (suc (suc (suc (suc zero)))) k e = let x : complex ≡ k = cc in rw (← x)
code-kind (suc (suc (suc (suc (suc zero))))) k e = let x : ascii ≡ k = cc in rw (← x)
code-kind (suc (suc (suc (suc (suc (suc zero)))))) k e = let x : char ≡ k = cc in rw (← x)
code-kind (suc (suc (suc (suc (suc (suc (suc zero))))))) k e = let x : stream ≡ k = cc in rw (← x)
code-kind (suc (suc (suc (suc (suc (suc (suc (suc zero)))))))) k e = let z : ◌≡◌ {A = ℕ} 0 1 = cc in absurd (omega arith)
code-kind (suc (suc (suc (suc (suc (suc (suc (suc (suc zero))))))))) k e = let x : any ≡ k = cc in rw (← x)
code-kind (suc (suc (suc (suc (suc (suc (suc (suc (suc (suc n)))))))))) k e = let z : ◌≡◌ {A = ℕ} 0 1 = cc in absurd (omega arith)

pub dim-number : (n : ℕ) → dim_number (dim_of n) ≡ n
dim-number n = go (eqb n ones) refl
  where
    go : (b : Bool) → eqb n ones ≡ b → dim_number (cond b unknown (static n)) ≡ n
    go true h = sym (eqb-true n ones h)
    go false h = refl

dim_within : (n : ℕ) → (eqb n ones || leb n max_size) ≡ true → DimWithin (dim_of n)
dim_within n t = go (eqb n ones) t
  where
    go : (b : Bool) → (b || leb n max_size) ≡ true → DimWithin (cond b unknown (static n))
    go true t = tt
    go false t = leb-true n max_size t

-- A list that may be absent, of at most `most` elements.
record Optional {A : Type 0} (P : A → Type 0) (most n : ℕ) (xs : List A) : Type 0 where
  count : count_of (optional n xs) ≡ n
  held : list_of (optional n xs) ≡ xs
  within : Each (λ ys. (length ys ≤ most) × All P ys) (optional n xs)

optional-back : {A : Type 0} (P : A → Type 0) (most n : ℕ) (xs : List A) → is_optional most n ≡ true → length xs ≡ list_count n → All P xs → Optional P most n xs
optional-back {A = A} P most n xs t h all = go (eqb n absent) refl xs t h all
  where
    go : (b : Bool) → eqb n absent ≡ b → (xs : List A) → (leb n most || b) ≡ true → length xs ≡ cond b 0 n → All P xs → Optional P most n xs
    go true x [] t h all = record { count = rw x (sym (eqb-true n absent x)); held = rw x; within = rw x tt }
    go true x (y ∷ ys) t h all = absurd (omega arith)
    go false x xs t h all = record { count = rw x h; held = rw x; within = rw x (rw h (leb-true n most (rw or-false at t)), all) }

printing_back : (b : ℕ) → is_printing b ≡ true → Printing b
printing_back b t = go (leb first_printing b) (leb b last_printing) refl refl t
  where
    go : (x y : Bool) → leb first_printing b ≡ x → leb b last_printing ≡ y → (x && y) ≡ true → Printing b
    go true true e f t = (leb-true first_printing b e, leb-true b last_printing f)
    go true false e f t = let z : ◌≡◌ {A = ℕ} 0 1 = cc in absurd (omega arith)
    go false y e f t = let z : ◌≡◌ {A = ℕ} 0 1 = cc in absurd (omega arith)

-- ---- what is known of what was read from place `at` up to place m: the bytes, and the limits that it keeps

record Took-scalar (s : List ℕ) (d n at : ℕ) (k : Scalar) (m : ℕ) : Type 0 where
  bytes : Took s at (write_scalar k) m
  records : ScalarWithin k
  few : inside k ≤ n
  shallow : below k ≤ d

record Took-fields (s : List ℕ) (d n at : ℕ) (f : Fields) (m : ℕ) : Type 0 where
  bytes : Took s at (write_fields f) m
  records : FieldsWithin f
  few : among f ≤ n
  shallow : deepest f ≤ d

pub record Took-ty (s : List ℕ) (d n at : ℕ) (t : Ty) (m : ℕ) : Type 0 where
  pub bytes : Took s at (write_ty t) m
  pub records : RecordsWithin t
  pub few : types t ≤ n
  pub shallow : depth t ≤ d

module _ (s : List ℕ) (small : Bytes s) where
  pub took-mark : (m : Mark) (p at : ℕ) (u : Unit {0}) (n : ℕ) → read_mark s m p at ≡ got u n → Took s at (mark_bytes m) n
  unfolding read_mark
  took-mark (mark a b) p at u n e =
      split (byte s p at) e λ x m e₁ e₂.
      split (byte s p m) e₂ λ y m' e₃ e₄.
      go x y m m' (eqb x a) (eqb y b) refl refl e₁ e₃ e₄
    where
      go : (x y m m' : ℕ) (t t' : Bool) → eqb x a ≡ t → eqb y b ≡ t' → byte s p at ≡ got x m → byte s p m ≡ got y m' → need (t && t') unmarked p m' ≡ got u n → Took s at (a ∷ b ∷ []) n
      go x y m m' true true h k e₁ e₃ e =
          let z : m' ≡ n = cc in
          rw (← eqb-true x a h, ← eqb-true y b k, ← z) (took-join (took-byte s small p at x m e₁).0 (took-byte s small p m y m' e₃).0)
      go x y m m' true false h k e₁ e₃ e = let z : ◌≡◌ {A = ℕ} 0 1 = cc in absurd (omega arith)
      go x y m m' false t h k e₁ e₃ e = let z : ◌≡◌ {A = ℕ} 0 1 = cc in absurd (omega arith)

  took_dim : (p at : ℕ) (d : Dim) (n : ℕ) → read_dim s p at ≡ got d n → Took s at (bytes_of 8 (dim_number d)) n × DimWithin d
  unfolding read_dim
  took_dim p at d n e =
      split (number s 8 p at) e λ v m e₁ e₂.
      needed (eqb v ones || leb v max_size) _ _ _ _ e₂ λ t e₃.
      gave e₃ λ x y.
      rw (← x, ← y) (rw (dim-number v) (took_number s small 8 p at v m e₁).0, dim_within v t)

  took-dims : (k p at : ℕ) (ds : List Dim) (n : ℕ) → read_dims s k p at ≡ got ds n → Took s at (write_dims ds) n × All DimWithin ds × (length ds ≡ k)
  unfolding read_dims
  took-dims zero p at ds n e = gave e λ x y. rw (← x, ← y) (took-none, tt, refl)
  took-dims (suc k) p at ds n e =
      split (read_dim s p at) e λ d m e₁ e₂.
      split (read_dims s k p m) e₂ λ r m' e₃ e₄.
      gave e₄ λ x y.
      let h = took_dim p at d m e₁ in
      let g = took-dims k p m r m' e₃ in
      rw (← x, ← y) (took-join h.0 g.0, (h.1, g.1), ap suc g.2)

  pub took-shape : (p at : ℕ) (t : Shape) (n : ℕ) → shape_from s p at ≡ got t n → Took s at (write_shape t) n × ShapeWithin t
  unfolding shape_from write_shape
  took-shape p at t n e =
      split (read_mark s shape_mark p at) e λ u m₁ e₁ e₂.
      split (judged s (is_count max_sizes) p m₁) e₂ λ a m₂ e₃ e₄.
      split (judged s (is_optional max_sizes) p m₂) e₄ λ b m₃ e₅ e₆.
      split (read_dims s a p m₃) e₆ λ o m₄ e₇ e₈.
      split (read_dims s (list_count b) p m₄) e₈ λ c m₅ e₉ e₁₀.
      gave e₁₀ λ x y.
      let i = took-judged s small (is_count max_sizes) p m₁ a m₂ e₃ in
      let j = took-judged s small (is_optional max_sizes) p m₂ b m₃ e₅ in
      let h = took-dims a p m₃ o m₄ e₇ in
      let g = took-dims (list_count b) p m₄ c m₅ e₉ in
      let k = optional-back DimWithin max_sizes b c j.1 g.2 g.1 in
      rw (← x, ← y)
      (rw (h.2, k.count, k.held) (
        took-join (took-mark shape_mark p at u m₁ e₁)
            (took-join i.0
            (took-join j.0
            (took-join h.0 g.0))),
        ((leb-true a max_sizes i.1, h.1), k.within),
      ))

  pub took-name : (k p at : ℕ) (r : List ℕ) (n : ℕ) → read_name s k p at ≡ got r n → Took s at r n × All Printing r × (length r ≡ k)
  unfolding read_name
  took-name zero p at r n e = gave e λ x y. rw (← x, ← y) (took-none, tt, refl)
  took-name (suc k) p at r n e =
      split (judged s is_printing p at) e λ b m e₁ e₂.
      split (read_name s k p m) e₂ λ r' m' e₃ e₄.
      gave e₄ λ x y.
      let i = took-judged s small is_printing p at b m e₁ in
      let h = took-name k p m r' m' e₃ in
      rw (← x, ← y) (took-join i.0 h.0, (printing_back b i.1, h.1), ap suc h.2)

  -- A reader of types that keeps these laws to depth d.
  record Keeps (d : ℕ) (go : ℕ → Reader Ty) : Type 0 where
    law : (n at : ℕ) (t : Ty) (m : ℕ) → go n at ≡ got t m → Took-ty s d n at t m

  module _ (d : ℕ) (go : ℕ → Reader Ty) (keeps : Keeps d go) where
    took-fields : (k n at : ℕ) (f : Fields) (m : ℕ) → read_fields s go k n at ≡ got f m → Took-fields s d n at f m × (field_count f ≡ k)
    unfolding read_fields write_scalar write_ty inside below
    took-fields zero n at f m e = gave e λ x y. rw (← x, ← y) (record { bytes = took-none; records = tt; few = omega arith; shallow = omega arith }, refl)
    took-fields (suc k) n at f m e =
        split (go n at) e λ t m₁ e₁ e₂.
        split (read_fields s go k (n - types t) m₁) e₂ λ g m₂ e₃ e₄.
        gave e₄ λ x y.
        let h = took-fields k (n - types t) m₁ g m₂ e₃ in
        rw (← x, ← y) (first t m₁ g (keeps.law n at t m₁ e₁) h.0, counted t g h.1)
      where
        counted : (t : Ty) (g : Fields) → field_count g ≡ k → field_count (field_of t g) ≡ suc k
        counted (ty t l) g h = ap suc h

        first : (t : Ty) (m₁ : ℕ) (g : Fields) {m₂ : ℕ} → Took-ty s d n at t m₁ → Took-fields s d (n - types t) m₁ g m₂ → Took-fields s d n at (field_of t g) m₂
        first (ty t k) m₁ g h j = record {
          bytes = took-join h.bytes j.bytes;
          records = (h.records.0, h.records.1, j.records);
          few = omega (arith, h.few, j.few);
          shallow = omega (arith, h.shallow, j.shallow);
        }

    -- The rest of a box, whose record is known up to its form.
    took-form : (c n p at₀ at : ℕ) (k : Scalar) (m : ℕ) → Took s at₀ (box_start c) at → form c (give box_any) (all_from s go n) (def_from s go n p) (stop out_of_range p) at ≡ got k m → Took-scalar s d n at₀ k m
    unfolding write_scalar write_ty inside below def_from
    took-form zero n p at₀ at k m b e = gave e λ x y. rw (← x, ← y) (record { bytes = b; records = tt; few = omega arith; shallow = omega arith })
    took-form (suc zero) n p at₀ at k m b e =
        split (go n at) e λ t m₁ e₁ e₂.
        gave e₂ λ x y.
        rw (← x, ← y) (content t m₁ (keeps.law n at t m₁ e₁))
      where
        content : (t : Ty) (m₁ : ℕ) → Took-ty s d n at t m₁ → Took-scalar s d n at₀ (box_of t) m₁
        content (ty t l) m₁ h = record { bytes = took-join b h.bytes; records = h.records; few = h.few; shallow = h.shallow }
    took-form (suc (suc zero)) n p at₀ at k m b e =
        split (judged s (is_optional max_name) p at) e λ c m₁ e₁ e₂.
        split (read_name s (list_count c) p m₁) e₂ λ name m₂ e₃ e₄.
        split (judged s (is_count max_fields) p m₂) e₄ λ j m₃ e₅ e₆.
        split (read_fields s go j n m₃) e₆ λ f m₄ e₇ e₈.
        gave e₈ λ x y.
        let i = took-judged s small (is_optional max_name) p at c m₁ e₁ in
        let l = took-judged s small (is_count max_fields) p m₂ j m₃ e₅ in
        let h = took-name (list_count c) p m₁ name m₂ e₃ in
        let o = optional-back Printing max_name c name i.1 h.2 h.1 in
        let (q, fc) = took-fields j n m₃ f m₄ e₇ in
        rw (← x, ← y)
        (record {
          bytes = rw (o.count, o.held, fc) (took-join b (took-join i.0 (took-join h.0 (took-join l.0 q.bytes))));
          records = (o.within, rw fc (leb-true j max_fields l.1), q.records);
          few = q.few;
          shallow = q.shallow;
        })
    took-form (suc (suc (suc c))) n p at₀ at k m b e = let z : ◌≡◌ {A = ℕ} 0 1 = cc in absurd (omega arith)

    took-plain :
        (c n p at₀ at : ℕ)
        (o : Option Kind)
        (k : Scalar)
        (m : ℕ) →
        kind_of c ≡ o →
        Took s at₀ (mark_bytes scalar_mark ++ (c ∷ [])) at →
        and_then (or_stop o out_of_range p at) (λ x. give (plain x)) ≡ got k m →
        Took-scalar s d n at₀ k m
    unfolding write_scalar inside below
    took-plain c n p at₀ at none k m h b e = let z : ◌≡◌ {A = ℕ} 0 1 = cc in absurd (omega arith)
    took-plain c n p at₀ at (some x) k m h b e = gave e λ w y. rw (← w, ← y) (record { bytes = rw (code-kind c x h) b; records = tt; few = omega arith; shallow = omega arith })

    took-scalar : (n p at : ℕ) (k : Scalar) (m : ℕ) → scalar_from s go n p at ≡ got k m → Took-scalar s d n at k m
    unfolding scalar_from box_from
    took-scalar n p at k m e =
        split (read_mark s scalar_mark p at) e λ u m₁ e₁ e₂.
        split (byte s p m₁) e₂ λ c m₂ e₃ e₄.
        box? c m₂ (eqb c box_code) refl (took-join (took-mark scalar_mark p at u m₁ e₁) (took-byte s small p m₁ c m₂ e₃).0) e₄
      where
        box? : (c m₂ : ℕ) (t : Bool) → eqb c box_code ≡ t → Took s at (mark_bytes scalar_mark ++ (c ∷ [])) m₂ → cond t (here (box_from s go n)) (plain_from s c p) m₂ ≡ got k m → Took-scalar s d n at k m
        box? c m₂ true h b e =
            split (read_mark s box_mark m₂ m₂) e λ u m₃ e₅ e₆.
            split (byte s m₂ m₃) e₆ λ c' m₄ e₇ e₈.
            took-form c' n m₂ at m₄ k m (took-join (rw (eqb-true c box_code h) at b) (took-join (took-mark box_mark m₂ m₂ u m₃ e₅) (took-byte s small m₂ m₃ c' m₄ e₇).0)) e₈
        box? c m₂ false h b e = took-plain c n p at m₂ (kind_of c) k m refl b e

  took-all : (d : ℕ) → Keeps d (read_ty s d)
  unfolding read_ty write_ty
  took-all zero = record { law = λ n at t m e. let z : ◌≡◌ {A = ℕ} 0 1 = cc in absurd (omega arith) }
  took-all (suc d) = record { law = λ n at t m e. go (took-all d) n at t m e }
    where
      go : Keeps d (read_ty s d) → (n at : ℕ) (t : Ty) (m : ℕ) → read_ty s (suc d) n at ≡ got t m → Took-ty s (suc d) n at t m
      go keeps zero at t m e = let z : ◌≡◌ {A = ℕ} 0 1 = cc in absurd (omega arith)
      go keeps (suc n) at t m e =
          split (read_shape s at) e λ o m₁ e₁ e₂.
          split (scalar_from s (read_ty s d) n m₁ m₁) e₂ λ k m₂ e₃ e₄.
          gave e₄ λ x y.
          let h = took-shape at at o m₁ e₁ in
          let g = took-scalar d (read_ty s d) keeps n m₁ m₁ k m₂ e₃ in
          rw (← x, ← y) (record { bytes = took-join h.0 g.bytes; records = (h.1, g.records); few = omega (arith, g.few); shallow = omega (arith, g.shallow) })

  -- Read and written, the bytes; and what is read keeps the limits on types and depth that its reader was given.
  pub took-ty : (d n at : ℕ) (t : Ty) (m : ℕ) → read_ty s d n at ≡ got t m → Took-ty s d n at t m
  took-ty d n at t m e = (took-all d).law n at t m e

  -- A type that stands inside other bytes: read and written, the bytes, within every limit.
  pub read_write : (at : ℕ) (t : Ty) (m : ℕ) → read_type s at ≡ got t m → Took s at (write_ty t) m × Within t
  read_write at t m e = let h = took-ty max_depth max_types at t m e in (h.bytes, record { records = h.records; few = h.few; shallow = h.shallow })

  -- A lone type: its bytes are all there is.
  pub lone_write : (t : Ty) → lone s ≡ accepted t → (write_ty t ≡ s) × Within t
  unfolding lone
  lone_write t e = go (read_type s 0) refl e
    where
      whole : (a : Ty) (next : ℕ) → read_type s 0 ≡ got a next → (b : Bool) → ltb next (length s) ≡ b → cond b (refused trailing next) (accepted a) ≡ accepted t → (write_ty t ≡ s) × Within t
      whole a next r true h e = let z : ◌≡◌ {A = ℕ} 0 1 = cc in absurd (omega arith)
      whole a next r false h e =
          let x : a ≡ t = cc in
          let (took, within) = read_write 0 a next r in
          rw (← x) (sym (took.is ∙ rw (drop_of_length-le s (ltb-false next (length s) h), append-nil)), within)

      go : (r : Read Ty) → read_type s 0 ≡ r → alone (length s) r ≡ accepted t → (write_ty t ≡ s) × Within t
      go (got a next) r e = whole a next r (ltb next (length s)) refl e
      go (stopped k p) r e = let z : ◌≡◌ {A = ℕ} 0 1 = cc in absurd (omega arith)

  -- The shape's record is what a lone type begins with, and its scalar's is the rest.
  pub lone_parts : (o : Shape) (k : Scalar) → lone s ≡ accepted (ty o k) → (read_shape s 0 ≡ got o (length (write_shape o))) × (drop (length (write_shape o)) s ≡ write_scalar k)
  unfolding write_ty
  lone_parts o k e =
      let (bytes, within) = lone_write (ty o k) e in
      let n : read_shape s 0 ≡ got o (0 + length (write_shape o)) = (reads_here (shape_from s) (λ p. reads-shape s p o within.records.0)).run 0 (write_scalar k) (sym bytes) in
      (rw zero-add at n, rw (← bytes) (drop-append_seam (write_shape o) (write_scalar k)))
