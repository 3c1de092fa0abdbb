-- More of what stands at a place: the shape that a type's record begins with, how far a scalar reaches, what a name's bytes are, and what a
-- scalar is by the byte of its kind and, of a box, the byte of its form.
use Rattle.std.specs.Prelude.{ℕ, ◌+◌, ◌-◌, ◌≤◌, ◌<◌, true, false, List, [], ◌∷◌, ◌≡◌, refl, length, get_or, take, drop}
use Rattle.std.proofs.Common.{arith, ◌∙◌, sym}
use Rattle.std.proofs.Math.Option.{Option, none, some}
use Rattle.model.specs.Types.{Shape, Scalar, ty}
use Rattle.model.specs.Within.{Each, NameWithin}
use Rattle.format.specs.Reader.{got}
use Rattle.format.specs.ReaderLaws.{reads_here}
use Rattle.format.specs.Records.{absent, box_code, count_of, list_of, write_shape, write_scalar, write_ty, shape_from, read_shape}
use Rattle.format.specs.WriteRead.{reads-shape}
use Rattle.format.specs.Views.{stands-first, stands-second, stands-byte, stands-within, stands-part}
use Rattle.rules.specs.Order.{code_of}
use Rattle.rules.specs.Views.{form_of}
use Rattle.rules.proofs.ViewsLaws.{scalar_least, kind-byte, form-within, form-byte, is_box-def_else}
use Rattle.known.specs.Known.{TypeAt, ScalarAt, NameAt, HasName, is_named, NameIs, SeenAny, SeenDef}
use Rattle.known.proofs.KnownLaws.{name-within}
use Rattle.known.proofs.ScalarLaws.{seen_any, name_there, count_there, seen_def}
use Rattle.known.specs.declared.Name.{Name}

-- ---- a type's shape, and how far a scalar reaches

module _ (s : List ℕ) (at d : ℕ) where
  pub type-shape : {o : Shape} {k : Scalar} → TypeAt s at d (ty o k) → read_shape s at ≡ got o (at + length (write_shape o))
  unfolding write_ty
  type-shape {o} {k} h = (reads_here (shape_from s) (λ p. reads-shape s p o h.records.0)).run at _ (stands-first s at (write_shape o) (write_scalar k) h.stands).is

  pub scalar-within : (k : Scalar) → ScalarAt s at d k → at + length (write_scalar k) ≤ length s
  scalar-within k h = stands-within s at (write_scalar k) (omega (arith, scalar_least k)) h.stands

-- ---- a name

module _ (s : List ℕ) (at : ℕ) (n : Option (List ℕ)) (h : NameAt s at n) where
  pub name-count : get_or s at 0 ≡ count_of n
  name-count = stands-byte s at (count_of n) (list_of n) h.stands

  pub name-bytes : take (length (list_of n)) (drop (at + 1) s) ≡ list_of n
  name-bytes = stands-part s (at + 1) (list_of n) (stands-second s at (count_of n ∷ []) (list_of n) h.stands)

is-unnamed : (n : Option (List ℕ)) → Each NameWithin n → count_of n ≡ absent → n ≡ none
is-unnamed none h e = refl
is-unnamed (some m) h e = absurd (omega (arith, h.0))

is-named : {C : Type 0} (n : Option (List ℕ)) → (count_of n ≡ absent → ⊥) → ((m : List ℕ) → n ≡ some m → C) → C
is-named none e f = absurd (e refl)
is-named (some m) e f = f m refl

-- one whose count is x
module _ (s : List ℕ) (at : ℕ) {x : ℕ} (count : x ≡ get_or s at 0) (n : Option (List ℕ)) (h : NameAt s at n) where
  name-is : (r : Name) → r.named ≡ is_named n → r.start ≡ at + 1 → r.end ≡ at + 1 + length (list_of n) → NameIs s at n r
  name-is r known begins ends =
      let long : r.end ≡ r.start + length (list_of n) = omega arith in
      let many : r.end - r.start ≡ length (list_of n) = omega arith in
      record {
        known = known;
        bytes = rw (many, begins) (name-bytes s at n h);
        long = long;
        ends = omega arith;
        within = omega (arith, name-within s at n h);
      }

  pub unnamed-is : x ≡ absent → (r : Name) → r.named ≡ false → r.start ≡ at + 1 → r.end ≡ at + 1 → NameIs s at n r
  unnamed-is e r known begins ends =
      let none : n ≡ none = is-unnamed n h.records (sym (count ∙ name-count s at n h) ∙ e) in
      name-is r (rw none known) begins (rw none (omega arith))

  pub named-is : (x ≡ absent → ⊥) → (r : Name) → r.named ≡ true → r.start ≡ at + 1 → r.end ≡ at + 1 + x → NameIs s at n r
  named-is e r known begins ends =
      is-named n (λ f. e (count ∙ name-count s at n h ∙ f)) λ m f.
      let many : x ≡ length (list_of n) = count ∙ name-count s at n h ∙ rw f in
      name-is r (known ∙ rw f) begins (omega arith)

  pub named-within : (x ≡ absent → ⊥) → at + 1 + x ≤ length s
  named-within e = is-named n (λ f. e (count ∙ name-count s at n h ∙ f)) λ m f.
      let many : x ≡ length (list_of n) = count ∙ name-count s at n h ∙ rw f in
      omega (arith, name-within s at n h)

-- ---- what a scalar is

-- one scalar, whose kind is x and, if it is a box, whose form is v
module _ (s : List ℕ) (at d : ℕ) (k : Scalar) (h : ScalarAt s at d k) where
  pub coded : get_or s (at + 2) 0 ≡ code_of k
  coded = kind-byte s at k h.stands

  module _ (boxed : code_of k ≡ box_code) where
    pub box-within : at + 6 ≤ length s
    box-within = form-within s at k h.stands boxed

    pub formed : get_or s (at + 5) 0 ≡ form_of k
    formed = form-byte s at k h.stands boxed

  module _ {x : ℕ} (kind : x ≡ code_of k) (boxed : x ≡ box_code) where
    box-coded : code_of k ≡ box_code
    box-coded = sym kind ∙ boxed

    module _ {v : ℕ} (form : code_of k ≡ box_code → v ≡ form_of k) where
      seen-form : form_of k ≡ v
      seen-form = sym (form box-coded)

      pub seen-any : v ≡ 0 → SeenAny at k (at + 6)
      seen-any e = seen_any s at d k h (sym (seen-form ∙ e))

      -- neither Any nor All: a Def
      module _ (e : v ≡ 0 → ⊥) (f : v ≡ 1 → ⊥) where
        def-form : 2 ≡ form_of k
        def-form = sym (is_box-def_else k box-coded (λ g. e (sym seen-form ∙ g)) (λ g. f (sym seen-form ∙ g)))

        pub name-there : HasName s (at + 6)
        name-there = name_there s at d k h def-form

        -- its name, read
        module _ (r : Name) (named : (n : Option (List ℕ)) → NameAt s (at + 6) n → NameIs s (at + 6) n r) where
          pub count-there : r.end < length s
          count-there = count_there s at d k h def-form r named

          pub seen-def : {c : ℕ} → c ≡ get_or s r.end 0 → SeenDef s at d k (at + 6) r.named (r.end + 1) c
          seen-def count = rw count (seen_def s at d k h def-form r named)
