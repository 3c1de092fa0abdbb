-- Unrefining where a record stands: bytes laid over a part of what stands there, and one law for each way out of a function.
use Prim.Native.Nat.{ℕ, ◌+◌, ◌-◌, ◌≤◌, ◌<◌}
use native.Mathlib.Omega.{arith}
use native.Mathlib.Nat.{zero-add, add-zero}
use mathlib.Core.Bool.{Bool, true, false, cond}
use mathlib.Core.List.{List, [], ◌∷◌, ◌++◌, append_assoc}
use mathlib.Core.Option.{Option}
use mathlib.Core.Path.{◌≡◌, refl, sym, ◌∙◌, ap, subst}
use lib.Dec.{leb}
use lib.ListN.{length, take, drop, length-append, take-append-drop}
use lib.Seq.{take-add, paste-zero, drop-append_seam}
use borrow.Author.Tests.{leb-true}
use Rattle.model.specs.Limits.{max_depth}
use Rattle.model.specs.Refusals.{too_short}
use Rattle.model.specs.Types.{Shape, Kind, Scalar, plain, box_any, box_all, box_def, Fields, no_fields, field, Ty, ty, shape_of, field_count}
use Rattle.format.specs.Records.{code, box_start, count_of, list_of, write_shape, write_scalar, write_fields, write_ty}
use Rattle.format.specs.Outcome.{accepted, refused, Delivery, delivery, deliver}
use Rattle.format.specs.Views.{rest-is, Stands, stands-first, stands-part}
use Rattle.lent.specs.Over.{over, over-front, drop-over, over-over}
use Rattle.lent.specs.Delivers.{deliver-wrote}
use Rattle.rules.specs.Scalars.{unrefine_kind, unrefine, unrefine_fields}
use Rattle.rules.proofs.ScalarsLaws.{unrefine-field_count}
use Rattle.known.specs.Known.{ScalarAt, TypeAt, FieldsAt, HasScalar, HasType, HasFields, SeenPlain, SeenAny, SeenAll, SeenDef}
use Rattle.known.proofs.KnownLaws.{first_field, rest-fields, type-within, scalar-behind, behind-ends}
use Rattle.known.specs.Whole.{of_scalar}
use Rattle.scalar.specs.Calls.{unrefine_ty, FieldsUnrefined}
use Rattle.scalar.specs.Whole.{WholeScalar}

-- ---- bytes laid over a part of what stands there

module _ (d : List ℕ) (at : ℕ) where
  pub over-same : (w : List ℕ) → Stands d at w → over d at w ≡ d
  over-same w h = append_assoc (take at d) w (drop (at + length w) d) ∙ ap (λ x. take at d ++ x) (sym h.is) ∙ take-append-drop at d

  -- behind v, which stays
  pub over-behind : (v w w' : List ℕ) → Stands d at (v ++ w) → over d (at + length v) w' ≡ over d at (v ++ w')
  over-behind v w w' h =
      let front : take (at + length v) d ≡ take at d ++ v = take-add at (length v) d ∙ ap (λ x. take at d ++ x) (stands-part d at v (stands-first d at v w h)) in
      let end : at + length v + length w' ≡ at + length (v ++ w') = omega (arith, length-append v w') in
      rw (front, end) (ap (λ x. x ++ drop (at + length (v ++ w')) d) (append_assoc (take at d) v w'))

  -- what stands behind the bytes that were laid down still does
  pub stands-behind : (w w' v : List ℕ) → length w ≡ length w' → at + length w ≤ length d → Stands d (at + length w) v → Stands (over d at w') (at + length w) v
  stands-behind w w' v e fits h =
      let past : (k : ℕ) → drop (at + length w + k) (over d at w') ≡ drop (at + length w + k) d = λ k. rw e (drop-over d at w' (rw e at fits) k) in
      record { is = rw (add-zero (at + length w)) at (past 0) ∙ h.is ∙ ap (λ x. v ++ x) (sym (past (length v))) }

-- ---- lengths stay

mutual
  unfolding write_scalar unrefine

  pub unrefine-length : (k : Scalar) → length (write_scalar (unrefine k)) ≡ length (write_scalar k)
  unrefine-length (plain k) = refl
  unrefine-length box_any = refl
  unrefine-length (box_all o k) = simp length-append (omega (arith, unrefine-length k))
  unrefine-length (box_def n f) = simp length-append (omega (arith, unrefine_fields-length f))

  unrefine_fields-length : (f : Fields) → length (write_fields (unrefine_fields f)) ≡ length (write_fields f)
  unrefine_fields-length no_fields = refl
  unrefine_fields-length (field o k f) = simp length-append (omega (arith, unrefine-length k, unrefine_fields-length f))

unrefine_ty-length : (t : Ty) → length (write_ty (unrefine_ty t)) ≡ length (write_ty t)
unfolding write_ty
unrefine_ty-length (ty o k) = simp length-append (omega (arith, unrefine-length k))

-- ---- scalars

any-stays : (k : Scalar) → k ≡ box_any → unrefine k ≡ k
unfolding unrefine
any-stays k e = rw e

module _ (out : List ℕ) (at d : ℕ) where
  -- the scalar is unrefined, and r is the place after it
  abbrev pub Done : Scalar → ℕ → List ℕ → Type 0
  Done k r after = (r ≡ at + length (write_scalar k)) × (after ≡ over out at (write_scalar (unrefine k)))

  content-done :
      (o : Shape) (l : Scalar) →
      ScalarAt out at d (box_all o l) →
      {content r : ℕ} {after : List ℕ} →
      content ≡ at + length (box_start 1) →
      r ≡ content + length (write_ty (ty o l)) →
      after ≡ over out content (write_ty (unrefine_ty (ty o l))) →
      Done (box_all o l) r after
  unfolding write_scalar write_ty unrefine
  content-done o l h place ends laid =
      (ends ∙ omega arith, laid ∙ (ap (λ p. over out p (write_shape o ++ write_scalar (unrefine l))) place ∙ over-behind out at (box_start 1) (write_shape o ++ write_scalar l) (write_shape o ++ write_scalar (unrefine l)) h.stands))

  module _ (n : Option (List ℕ)) (f : Fields) where
    -- what stands before a Def's fields
    abbrev head : List ℕ
    head = box_start 2 ++ (count_of n ∷ (list_of n ++ (field_count f ∷ [])))

    head-length : length head ≡ 8 + length (list_of n)
    head-length = simp length-append (omega arith)

    whole-def : (w : List ℕ) → head ++ w ≡ box_start 2 ++ (count_of n ∷ (list_of n ++ (field_count f ∷ w)))
    whole-def w = simp append_assoc

    fields-done : ScalarAt out at d (box_def n f) → {start r : ℕ} {after : List ℕ} → start ≡ at + length head → r ≡ start + length (write_fields f) → after ≡ over out start (write_fields (unrefine_fields f)) → Done (box_def n f) r after
    unfolding write_scalar unrefine
    fields-done h {start} place ends laid = (
      ends ∙ simp length-append (omega (arith, place, head-length)),
      laid
          ∙ ap (λ p. over out p (write_fields (unrefine_fields f))) place
          ∙ over-behind out at head (write_fields f) (write_fields (unrefine_fields f)) (subst (Stands out at) (sym (whole-def (write_fields f))) h.stands)
          ∙ ap (over out at) (whole-def (write_fields (unrefine_fields f)))
          ∙ rw (unrefine-field_count f),
    )

  -- what was seen of it
  pub kind_there : {c end : ℕ} → HasScalar out at d → ((d : ℕ) (k : Scalar) → ScalarAt out at d k → SeenPlain at k c end) → (d : ℕ) × (k : Kind) × ScalarAt out at d (plain k)
  kind_there has looked = let x = looked d has.scalar has.there in (d, x.kind, subst (ScalarAt out at d) x.is has.there)

  pub content_there : {content : ℕ} → HasScalar out at d → ((d : ℕ) (k : Scalar) → ScalarAt out at d k → SeenAll out at d k content) → HasType out content d
  content_there has looked = let x = looked d has.scalar has.there in record { type = ty x.shape x.scalar; there = x.there }

  pub fields_there : {name start count : ℕ} {named : Bool} → HasScalar out at d → ((d : ℕ) (k : Scalar) → ScalarAt out at d k → SeenDef out at d k name named start count) → HasFields out start d count
  fields_there has looked = let x = looked d has.scalar has.there in record { fields = x.held; there = x.there; counted = sym x.counted }

  module _ (k : Scalar) (h : ScalarAt out at d k) where
    pub plain_done :
        {c end y : ℕ} {after : List ℕ} →
        SeenPlain at k c end →
        ((l : Kind) → c ≡ code l → y ≡ code (unrefine_kind l)) →
        ((d : ℕ) (k l : Kind) → ScalarAt out at d (plain k) → y ≡ code l → after ≡ over out at (write_scalar (plain l))) →
        Done k end after
    unfolding unrefine
    plain_done x coded put =
        let laid = put d x.kind (unrefine_kind x.kind) (subst (ScalarAt out at d) x.is h) (coded x.kind (sym x.coded)) in
        (x.ends, laid ∙ ap (λ l. over out at (write_scalar (unrefine l))) (sym x.is))

    pub any_done : {end : ℕ} → SeenAny at k end → Done k end out
    any_done x = (x.ends, sym (ap (λ l. over out at (write_scalar l)) (any-stays k x.is) ∙ over-same out at (write_scalar k) h.stands))

    pub all_done :
        {content r : ℕ} {after : List ℕ} →
        SeenAll out at d k content →
        ((t : Ty) → TypeAt out content d t → (r ≡ content + length (write_ty t)) × (after ≡ over out content (write_ty (unrefine_ty t)))) →
        Done k r after
    all_done {content} {r} {after} x call =
        let (ends, laid) = call (ty x.shape x.scalar) x.there in
        subst (λ l. Done l r after) (sym x.is) (content-done x.shape x.scalar (subst (ScalarAt out at d) x.is h) x.place ends laid)

    pub def_done : {name start count r : ℕ} {named : Bool} {after : List ℕ} → SeenDef out at d k name named start count → FieldsUnrefined out start count d r after → Done k r after
    def_done {name} {start} {count} {r} {named} {after} x call =
        let (ends, laid) = call x.held x.there (sym x.counted) in
        let place : start ≡ at + length (head x.label x.held) = omega (arith, x.place, x.behind, head-length x.label x.held) in
        subst (λ l. Done l r after) (sym x.is) (fields-done x.label x.held (subst (ScalarAt out at d) x.is h) place ends laid)

-- ---- types

module _ (out : List ℕ) (at d : ℕ) where
  abbrev pub DoneType : Ty → ℕ → List ℕ → Type 0
  DoneType t r after = (r ≡ at + length (write_ty t)) × (after ≡ over out at (write_ty (unrefine_ty t)))

  -- the scalar begins at p
  pub behind_done : {p r : ℕ} {after : List ℕ} →
      ((d : ℕ) (t : Ty) → TypeAt out at d t → p ≡ at + length (write_shape (shape_of t))) →
      ((k : Scalar) → ScalarAt out p (d - 1) k → Done out p (d - 1) k r after) →
      (t : Ty) →
      TypeAt out at d t →
      DoneType t r after
  unfolding write_ty
  behind_done {p} begins call (ty o k) h =
      let (ends, laid) = call k (scalar-behind out at begins d (ty o k) h) in
      (ends ∙ behind-ends out at begins d (ty o k) h, laid ∙ (ap (λ q. over out q (write_scalar (unrefine k))) (begins d (ty o k) h) ∙ over-behind out at (write_shape o) (write_scalar k) (write_scalar (unrefine k)) h.stands))

-- ---- fields, of which i are unrefined: what is left, and what that comes to

pub record FieldsLeft (out : List ℕ) (at d i count end : ℕ) (final : List ℕ) : Type 0 where
  f : Fields
  there : FieldsAt out at d f
  counted : i + field_count f ≡ count
  ends : at + length (write_fields f) ≡ end
  is : over out at (write_fields (unrefine_fields f)) ≡ final

pub fields_begun : (out : List ℕ) (at d : ℕ) (f : Fields) {count : ℕ} → FieldsAt out at d f → field_count f ≡ count → FieldsLeft out at d 0 count (at + length (write_fields f)) (over out at (write_fields (unrefine_fields f)))
fields_begun out at d f h e = record { f = f; there = h; counted = omega arith; ends = refl; is = refl }

module _ {out : List ℕ} {at d i count end : ℕ} {final : List ℕ} (l : FieldsLeft out at d i count end final) where
  pub field_there : i < count → HasType out at d
  field_there n = go l.f l.there l.counted
    where
      go : (f : Fields) → FieldsAt out at d f → i + field_count f ≡ count → HasType out at d
      go no_fields h c = absurd (omega arith)
      go (field o k f) h c = record { type = ty o k; there = first_field out at d h }

  pub fields_done : count ≤ i → (at ≡ end) × (out ≡ final)
  unfolding write_fields unrefine_fields
  fields_done n = go l.f l.counted l.ends l.is
    where
      go : (f : Fields) → i + field_count f ≡ count → at + length (write_fields f) ≡ end → over out at (write_fields (unrefine_fields f)) ≡ final → (at ≡ end) × (out ≡ final)
      go no_fields c e is = (omega arith, paste-zero out at [] ∙ is)
      go (field o k f) c e is = absurd (omega arith)

  pub fields_more : {r : ℕ} {after : List ℕ} → i < count → ((t : Ty) → TypeAt out at d t → DoneType out at d t r after) → FieldsLeft after r d (i + 1) count end final
  unfolding write_fields unrefine_fields write_ty
  fields_more {r} {after} n call = go l.f l.there l.counted l.ends l.is
    where
      go : (f : Fields) → FieldsAt out at d f → i + field_count f ≡ count → at + length (write_fields f) ≡ end → over out at (write_fields (unrefine_fields f)) ≡ final → FieldsLeft after r d (i + 1) count end final
      go no_fields h c e is = absurd (omega arith)
      go (field o k f) h c e is =
          let t = first_field out at d h in
          let (place, laid) = call (ty o k) t in
          let same : length (write_ty (ty o k)) ≡ length (write_ty (unrefine_ty (ty o k))) = sym (unrefine_ty-length (ty o k)) in
          let fits = type-within out at d (ty o k) t in
          let rest = rest-fields out at d h in
          let behind = stands-behind out at (write_ty (ty o k)) (write_ty (unrefine_ty (ty o k))) (write_fields f) same fits rest.stands in
          record {
            f = f;
            there = rw (place, laid) (record { stands = behind; records = rest.records; numbered = rest.numbered; few = rest.few; shallow = rest.shallow });
            counted = omega arith;
            ends = rw place (omega (arith, length-append (write_ty (ty o k)) (write_fields f)));
            is = rw (place, laid, same) (over-over out at (write_ty (unrefine_ty (ty o k))) (omega arith) (write_fields (unrefine_fields f)) ∙ is);
          }

-- ---- a whole type: its scalar's record, which begins at i, is handed over and unrefined where it then stands

laid-stands : (d w : List ℕ) → length w ≤ length d → Stands (over d 0 w) 0 w
laid-stands d w h = record { is = over-front d w ∙ ap (λ x. w ++ x) (sym (rw (add-zero (0 + length w)) at (drop-over d 0 w (rw zero-add h) 0) ∙ rw zero-add)) }

over-twice : (d w w' : List ℕ) → length w ≡ length w' → over (over d 0 w) 0 w' ≡ over d 0 w'
over-twice d w w' e =
    let rest : drop (length w') (w ++ drop (length w) d) ≡ drop (length w') d = rw (← e) (drop-append_seam w (drop (length w) d)) in
    over-front (over d 0 w) w'
    ∙ ap (λ x. w' ++ drop (length w') x) (over-front d w)
    ∙ ap (λ x. w' ++ x) rest
    ∙ sym (over-front d w')

-- what an answer says of bytes that were to be delivered: there was room, or as little for others as long
module _ (buffer : List ℕ) where
  abbrev Whether : Bool → List ℕ → Delivery
  Whether fits w = cond fits (delivery (accepted (length w)) (w ++ drop (length w) buffer)) (delivery (refused too_short 0) buffer)

  module _ (w : List ℕ) {after : List ℕ} where
    delivered-bytes : {n : ℕ} → delivery (accepted n) after ≡ deliver (accepted w) buffer → (length w ≤ length buffer) × (n ≡ length w) × (after ≡ over buffer 0 w)
    unfolding deliver
    delivered-bytes {n} h = go (leb (length w) (length buffer)) refl h
      where
        go : (fits : Bool) → leb (length w) (length buffer) ≡ fits → delivery (accepted n) after ≡ Whether fits w → (length w ≤ length buffer) × (n ≡ length w) × (after ≡ over buffer 0 w)
        go true e h = let laid : after ≡ w ++ drop (length w) buffer = cc in (leb-true (length w) (length buffer) e, cc, laid ∙ sym (over-front buffer w))
        go false e h = cc

    delivered-short : {k p : ℕ} → delivery (refused k p) after ≡ deliver (accepted w) buffer → (v : List ℕ) → length w ≡ length v → delivery (refused k p) after ≡ deliver (accepted v) buffer
    unfolding deliver
    delivered-short {k} {p} h v same = rw (← same) (go (leb (length w) (length buffer)) h)
      where
        go : (fits : Bool) → delivery (refused k p) after ≡ Whether fits w → delivery (refused k p) after ≡ cond fits (delivery (accepted (length w)) (v ++ drop (length w) buffer)) (delivery (refused too_short 0) buffer)
        go true h = cc
        go false h = h

module _ {s : List ℕ} {i : ℕ} (w : WholeScalar s i) where
  -- the record to the front of a buffer, as it stands and unrefined
  abbrev Handed : List ℕ → Delivery
  Handed buffer = deliver (accepted (take (length s - i) (drop i s))) buffer

  abbrev Unrefined : List ℕ → Delivery
  Unrefined buffer = deliver (of_scalar (λ k. write_scalar (unrefine k)) s) buffer

  handed : (buffer : List ℕ) → Handed buffer ≡ deliver (accepted (write_scalar w.scalar)) buffer
  handed buffer = ap (λ x. deliver (accepted x) buffer) (rest-is s i ∙ w.bytes)

  unrefined : of_scalar (λ k. write_scalar (unrefine k)) s ≡ accepted (write_scalar (unrefine w.scalar))
  unrefined = rw w.is

  pub handed_short : (buffer : List ℕ) {after : List ℕ} {k p : ℕ} → delivery (refused k p) after ≡ Handed buffer → delivery (refused k p) after ≡ Unrefined buffer
  handed_short buffer h = rw unrefined (delivered-short buffer (write_scalar w.scalar) (h ∙ handed buffer) (write_scalar (unrefine w.scalar)) (sym (unrefine-length w.scalar)))

  module _ (buffer : List ℕ) {after : List ℕ} {n : ℕ} (h : delivery (accepted n) after ≡ Handed buffer) where
    laid : (length (write_scalar w.scalar) ≤ length buffer) × (n ≡ length (write_scalar w.scalar)) × (after ≡ over buffer 0 (write_scalar w.scalar))
    laid = delivered-bytes buffer (write_scalar w.scalar) (h ∙ handed buffer)

    there : ScalarAt after 0 (max_depth - 1) w.scalar
    there = record { stands = rw laid.2 (laid-stands buffer (write_scalar w.scalar) laid.0); records = w.there.records; few = w.there.few; shallow = w.there.shallow }

    pub handed_there : HasScalar after 0 (max_depth - 1)
    handed_there = record { scalar = w.scalar; there = there }

    pub handed_done : {r : ℕ} {final : List ℕ} → ((k : Scalar) → ScalarAt after 0 (max_depth - 1) k → Done after 0 (max_depth - 1) k r final) → delivery (accepted n) final ≡ Unrefined buffer
    handed_done call =
        let long = unrefine-length w.scalar in
        let twice = ap (λ x. over x 0 (write_scalar (unrefine w.scalar))) laid.2 ∙ over-twice buffer (write_scalar w.scalar) (write_scalar (unrefine w.scalar)) (sym long) in
        deliver-wrote buffer unrefined (omega (arith, laid.0)) (laid.1 ∙ sym long) ((call w.scalar there).1 ∙ twice)
