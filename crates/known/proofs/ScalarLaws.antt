-- Scalars: how far their bytes reach, what stands in them, and which scalar it is by what was seen of them. A law that the check is to find
-- begins with a part that says nothing, and that shows whose bytes stand there.
use Prim.Native.Nat.{ℕ, suc, ◌+◌, ◌≤◌, ◌<◌}
use native.Mathlib.Omega.{arith}
use mathlib.Core.List.{List, [], ◌∷◌, ◌++◌, append_assoc}
use mathlib.Core.Option.{Option}
use mathlib.Core.Path.{◌≡◌, refl, sym, ◌∙◌, ap, subst}
use lib.ListN.{length, get_or, set, take, drop}
use lib.Seq.{take-add, set_split}
use Rattle.model.specs.Types.{Kind, Scalar, plain, box_any, box_def, Fields}
use Rattle.format.specs.Records.{box_code, code, scalar_mark, mark_bytes, write_scalar}
use Rattle.format.specs.Views.{Stands, stands-first, stands-part}
use Rattle.rules.specs.Order.{code_of}
use Rattle.rules.specs.Views.{form_of}
use Rattle.rules.proofs.ViewsLaws.{kind-within, kind-byte, form-within, form-byte, is_plain, is_box-any, is_box-all, is_box-def}
use Rattle.limits.specs.Codes.{code_for}
use Rattle.limits.specs.declared.codes.Kind as kinds
use Rattle.limits.specs.declared.codes.Kind.TheVariants.{Box}
use Rattle.lent.specs.Over.{over}
use Rattle.known.specs.Known.{ScalarAt, NameAt, FieldsAt, HasScalar, HasBox, HasName, NameIs, SeenPlain, SeenAny, SeenAll, SeenDef}
use Rattle.known.proofs.KnownLaws.{all-content, def-name, def-counted, def-within, def-fields, scalar-kind}
use Rattle.known.specs.declared.Name.{Name}

-- ---- its bytes

code_few : (k : Scalar) → code_of k ≤ 9
unfolding code_of code
code_few k = grind arith

form_few : (k : Scalar) → code_of k ≡ box_code → form_of k ≤ 2
unfolding code_of form_of code
form_few k e = grind arith

abbrev pub At_scalar : List ℕ → ℕ → Scalar → Type 0 → Type 0
At_scalar s at k P = (write_scalar k ++ drop (at + length (write_scalar k)) s ≡ write_scalar k ++ drop (at + length (write_scalar k)) s) × P

module _ (s : List ℕ) (at : ℕ) (k : Scalar) (h : Stands s at (write_scalar k)) where
  pub kind_inside : At_scalar s at k (at + 3 ≤ length s)
  kind_inside = (refl, kind-within s at k h)

  pub kind_there : At_scalar s at k ((get_or s (at + 2) 0 ≡ code_of k) × (get_or s (at + 2) 0 ≤ 9))
  kind_there = let e = kind-byte s at k h in (refl, (e, omega (arith, code_few k)))

  module _ (boxed : code_of k ≡ box_code) where
    pub form_inside : At_scalar s at k (at + 6 ≤ length s)
    form_inside = (refl, form-within s at k h boxed)

    pub form_there : At_scalar s at k ((get_or s (at + 5) 0 ≡ form_of k) × (get_or s (at + 5) 0 ≤ 2))
    form_there = let e = form-byte s at k h boxed in (refl, (e, omega (arith, form_few k boxed)))

-- ---- which scalar it is

module _ (s : List ℕ) (at d : ℕ) (k : Scalar) (h : ScalarAt s at d k) where
  pub seen_plain : {c : ℕ} → c ≡ code_of k → (c ≡ box_code → ⊥) → SeenPlain at k c (at + 3)
  unfolding code_of write_scalar
  seen_plain e other = is_plain k (λ f. other (e ∙ f)) λ l is. record { kind = l; is = is; coded = sym (e ∙ ap code_of is); ends = rw is (omega arith) }

  pub seen_any : 0 ≡ form_of k → SeenAny at k (at + 6)
  unfolding write_scalar
  seen_any e = let is : k ≡ box_any = is_box-any k (sym e) in record { is = is; ends = rw is (omega arith) }

  pub seen_all : 1 ≡ form_of k → SeenAll s at d k (at + 6)
  seen_all e = is_box-all k (sym e) λ o l is. record {
    shape = o;
    scalar = l;
    is = is;
    place = refl;
    there = all-content s at d (subst (ScalarAt s at d) is h);
  }

  module _ (e : 2 ≡ form_of k) where
    seen_parts : {C : Type 0} → ((n : Option (List ℕ)) (g : Fields) → k ≡ box_def n g → ScalarAt s at d (box_def n g) → C) → C
    seen_parts go = is_box-def k (sym e) λ n g is. go n g is (subst (ScalarAt s at d) is h)

    pub name_there : HasName s (at + 6)
    name_there = seen_parts λ n g is there. record { name = n; there = def-name s at d there }

    -- its name, read
    module _ (r : Name) (named : (n : Option (List ℕ)) → NameAt s (at + 6) n → NameIs s (at + 6) n r) where
      pub count_there : r.end < length s
      count_there = seen_parts λ n g is there. omega (arith, (named n (def-name s at d there)).ends, def-within s at d there)

      pub seen_def : SeenDef s at d k (at + 6) r.named (r.end + 1) (get_or s r.end 0)
      seen_def = seen_parts λ n g is there.
          let ends = (named n (def-name s at d there)).ends in
          record {
            label = n;
            held = g;
            is = is;
            place = refl;
            titled = def-name s at d there;
            known = (named n (def-name s at d there)).known;
            behind = ap (λ p. p + 1) ends;
            there = subst (λ p. FieldsAt s (p + 1) d g) (sym ends) (def-fields s at d there);
            counted = ap (λ p. get_or s p 0) ends ∙ def-counted s at d there;
          }

-- ---- of one that stands there, by what a call says of any

pub box_alone : (k : kinds.Kind) → (k ≡ Box → ⊥) → code_for k ≡ box_code → ⊥
box_alone k e f = grind arith

module _ (s : List ℕ) (at d : ℕ) where
  pub has_box : HasScalar s at d → ((d : ℕ) (k : Scalar) → ScalarAt s at d k → box_code ≡ code_of k) → HasBox s at d
  has_box h kinds = record { scalar = h.scalar; there = h.there; boxed = sym (kinds d h.scalar h.there) }

  module _ (h : HasBox s at d) (forms : (d : ℕ) (k : Scalar) → ScalarAt s at d k → code_of k ≡ box_code → 2 ≡ form_of k) where
    pub has_name : HasName s (at + 6)
    has_name = name_there s at d h.scalar h.there (forms d h.scalar h.there h.boxed)

    pub count_inside : (r : Name) → ((n : Option (List ℕ)) → NameAt s (at + 6) n → NameIs s (at + 6) n r) → r.end < length s
    count_inside r named = count_there s at d h.scalar h.there (forms d h.scalar h.there h.boxed) r named

-- ---- another kind where a kind stands

pub kind_changed : (s : List ℕ) (at d : ℕ) (k l : Kind) {x : ℕ} → ScalarAt s at d (plain k) → x ≡ code l → set s (at + 2) x ≡ over s at (write_scalar (plain l))
unfolding write_scalar
kind_changed s at d k l {x} h e =
    let inside : at + 2 < length s = omega (arith, scalar-kind s at d (plain k) h) in
    let mark : take 2 (drop at s) ≡ mark_bytes scalar_mark = stands-part s at (mark_bytes scalar_mark) (stands-first s at (mark_bytes scalar_mark) (code k ∷ []) h.stands) in
    let front : take (at + 2) s ≡ take at s ++ mark_bytes scalar_mark = take-add at 2 s ∙ ap (λ w. take at s ++ w) mark in
    let three : suc (at + 2) ≡ at + 3 = omega arith in
    let rest = drop (at + 3) s in
    let grouped = sym (append_assoc (take at s ++ mark_bytes scalar_mark) (code l ∷ []) rest) in
    set_split s (at + 2) x inside
    ∙ rw (front, three, e) (grouped ∙ ap (λ w. w ++ rest) (append_assoc (take at s) (mark_bytes scalar_mark) (code l ∷ [])))
