-- Stretches of known bytes laid behind what stood before.
use Prim.Native.Nat.{ℕ, suc, ◌+◌, ◌-◌, ◌*◌, ◌≤◌, ◌<◌}
use native.Mathlib.Omega.{arith}
use mathlib.Core.Bool.{Bool}
use mathlib.Core.List.{List, ◌++◌, append_assoc, append-nil}
use mathlib.Core.Path.{◌≡◌, refl, sym, ◌∙◌, ap}
use lib.ListN.{length, take, drop, length-append}
use Rattle.model.specs.Limits.{max_types, max_depth}
use Rattle.model.specs.Types.{Shape, Scalar, Fields, no_fields, field, field_count, Ty, ty, shape_of, scalar_of, types, inside, among}
use Rattle.format.specs.Records.{write_shape, write_scalar, write_fields, write_ty}
use Rattle.format.specs.Suffices.{box_bytes, shape-suffices, scalar-suffices}
use Rattle.format.specs.Views.{Stands, stands-part}
use Rattle.lent.specs.Over.{over, take-over}
use Rattle.known.specs.Known.{TypeAt, ScalarAt, HasType, SpanIs}
use Rattle.known.proofs.KnownLaws.{type-within, scalar-behind, behind-ends}
use Rattle.known.specs.declared.Span.{Span}
use Rattle.validate.specs.Lists.{next_place, ListAt}
use Rattle.validate.specs.Walk.{type_bytes, piece, scalar_piece, type_piece, fields_piece, CopyIs, Copyable, Placeable, Going}
use Rattle.validate.specs.declared.Extent.{Extent}
use Rattle.validate.proofs.ListLaws.{types_are, has, list-first, list_rest}

-- ---- a part of a slice

-- the bytes w, which stood from `start` to `end`, laid at `to`
laid-part : {s : List ℕ} {start : ℕ} (w : List ℕ) → Stands s start w → {end : ℕ} → end ≡ start + length w → (out : List ℕ) (to : ℕ) {after : List ℕ} → to + (end - start) ≤ length out
    → after ≡ over out to (take (end - start) (drop start s)) → take (to + (end - start)) after ≡ take to out ++ w
laid-part {s} {start} w stands {end} e out to {after} room laid =
    let q : end - start ≡ length w = omega (arith, e) in
    let part : take (end - start) (drop start s) ≡ w = rw q (stands-part s start w stands) in
    let l : to + length w ≤ length out = omega (arith, q) in
    ap (λ m. take (to + m) after) q ∙ ap (take (to + length w)) (laid ∙ ap (over out to) part) ∙ take-over out to w l

copy_is : (x : Extent) {out b : List ℕ} {n limit : ℕ} → take x.end out ≡ b → x.types ≡ n → x.end ≤ limit + type_bytes * n → CopyIs x out (piece b n) limit
copy_is x {out} {b} {n} e f l = record { bytes = ap (λ w. piece w x.types) e ∙ ap (piece b) f; room = rw f l }

-- ---- a type, and its scalar, which begins at `start`

module _ (s : List ℕ) (at : ℕ) (r : Span) (t : Ty) (h : TypeAt s at max_depth t) (span : SpanIs at t r) where
  pub type-starts : at ≤ r.end
  type-starts = omega (arith, span.ends)

  pub type-ends : r.end ≤ length s
  type-ends = omega (arith, span.ends, type-within s at max_depth t h)

  pub some-types : 1 ≤ r.types
  some-types = omega (arith, span.types, types_are t)

  type-long : length (write_ty t) ≤ type_bytes * types t
  unfolding write_ty
  type-long = go t h
    where
      go : (t : Ty) → TypeAt s at max_depth t → length (write_ty t) ≤ type_bytes * types t
      go (ty p k) h = omega (arith, length-append (write_shape p) (write_scalar k), shape-suffices p h.records.0, scalar-suffices k h.records.1)

  pub type-room : (to : ℕ) {room : ℕ} → to + type_bytes * types t ≤ room → to + (r.end - at) ≤ room
  type-room to l = omega (arith, span.ends, type-long)

  pub type-copied : (out : List ℕ) (to : ℕ) {after : List ℕ} → to + (r.end - at) ≤ length out → after ≡ over out to (take (r.end - at) (drop at s)) → (x : Extent)
      → x.end ≡ to + (r.end - at) → x.types ≡ r.types → CopyIs x after (type_piece (take to out) t) to
  unfolding write_ty
  type-copied out to {after} room laid x e f = go t h.stands span.ends span.types type-long
    where
      go : (t : Ty) → Stands s at (write_ty t) → r.end ≡ at + length (write_ty t) → r.types ≡ types t → length (write_ty t) ≤ type_bytes * types t → CopyIs x after (type_piece (take to out) t) to
      go (ty p k) stands ends many long = copy_is x (ap (λ n. take n after) e ∙ laid-part (write_ty (ty p k)) stands ends out to room laid) (f ∙ many) (omega (arith, e, ends))

module _ (s : List ℕ) (at : ℕ) {start : ℕ} (begins : (d : ℕ) (t : Ty) → TypeAt s at d t → start ≡ at + length (write_shape (shape_of t))) (r : Span) (t : Ty) (h : TypeAt s at max_depth t) (span : SpanIs at t r) where
  behind : ScalarAt s start (max_depth - 1) (scalar_of t)
  behind = scalar-behind s at begins max_depth t h

  scalar-long : r.end ≡ start + length (write_scalar (scalar_of t))
  scalar-long = omega (arith, span.ends, behind-ends s at begins max_depth t h)

  pub scalar-starts : start ≤ r.end
  scalar-starts = omega (arith, scalar-long)

  pub scalar-room : (to : ℕ) {room : ℕ} → to + box_bytes + type_bytes * inside (scalar_of t) ≤ room → to + (r.end - start) ≤ room
  scalar-room to l = omega (arith, scalar-long, scalar-suffices (scalar_of t) behind.records)

  pub scalar-copied : (out : List ℕ) (to : ℕ) {after : List ℕ} → to + (r.end - start) ≤ length out → after ≡ over out to (take (r.end - start) (drop start s)) → (x : Extent)
      → x.end ≡ to + (r.end - start) → x.types ≡ r.types - 1 → CopyIs x after (scalar_piece (take to out) (scalar_of t)) (to + box_bytes)
  scalar-copied out to {after} room laid x e f =
      let bytes = laid-part (write_scalar (scalar_of t)) behind.stands scalar-long out to room laid in
      let many : x.types ≡ inside (scalar_of t) = omega (arith, f, span.types, types_are t) in
      copy_is x (ap (λ n. take n after) e ∙ bytes) many (omega (arith, e, scalar-long, scalar-suffices (scalar_of t) behind.records))

-- ---- what is copied has room

module _ {s : List ℕ} {at to room : ℕ} {r : Span} (spans : (t : Ty) → TypeAt s at max_depth t → SpanIs at t r) where
  pub type_fits : Placeable s at to room → (at ≤ r.end) × (r.end ≤ length s) × (to + (r.end - at) ≤ room)
  type_fits p = (type-starts s at r p.type p.there (spans p.type p.there), type-ends s at r p.type p.there (spans p.type p.there), type-room s at r p.type p.there (spans p.type p.there) to p.space)

  pub scalar_fits : {start : ℕ} → ((d : ℕ) (t : Ty) → TypeAt s at d t → start ≡ at + length (write_shape (shape_of t))) → Copyable s at to room
      → (start ≤ r.end) × (r.end ≤ length s) × (1 ≤ r.types) × (to + (r.end - start) ≤ room)
  scalar_fits begins p =
      let span = spans p.type p.there in
      (scalar-starts s at begins r p.type p.there span, type-ends s at r p.type p.there span, some-types s at r p.type p.there span, scalar-room s at begins r p.type p.there span to p.space)

-- ---- fields, one by one

module _ {s : List ℕ} {f : Fields} {before : List ℕ} {to : ℕ} {moves : Bool} {at left : ℕ} {so_far : List ℕ} {end types : ℕ} (g : Going s f before to moves at left so_far end types) (l : 0 < left) where
  -- the first of those that are left, by continuation
  going-first : {C : Type 0} → ((p : Shape) (k : Scalar) (h : Fields) → g.rest ≡ field p k h → TypeAt s at max_depth (ty p k) → C) → C
  going-first {C} c = go g.rest refl g.there g.counted
    where
      go : (r : Fields) → g.rest ≡ r → ListAt moves s at r → field_count r ≡ left → C
      go no_fields e h n = absurd (omega arith)
      go (field p k r) e h n = c p k r e (list-first s at p k r moves h)

  pub going-has : HasType s at max_depth
  going-has = going-first λ p k h e there. has there

  pub going-room : {n : ℕ} → to + type_bytes * among f ≤ n → Placeable s at end n
  unfolding among
  going-room {n} room = going-first λ p k h e there.
      let x : among f ≡ types + (suc (inside k) + among h) = g.number ∙ ap (λ r. types + among r) e in
      record { type = ty p k; there = there; space = omega (arith, x, g.room) }

  module _ (after : List ℕ) (x : Extent) (copied : (t : Ty) → TypeAt s at max_depth t → CopyIs x after (type_piece so_far t) end) where
    pub going_next : {next then : ℕ} → then + 1 ≡ left → ((t : Ty) → TypeAt s at max_depth t → next ≡ next_place moves at t) → Going s f before to moves next then (take x.end after) x.end (types + x.types)
    unfolding among write_fields
    going_next one moved = going-first λ p k h eq first.
        let w = copied (ty p k) first in
        let y = w.bytes in
        let b : take x.end after ≡ so_far ++ (write_shape p ++ write_scalar k) = cc in
        let m : x.types ≡ suc (inside k) = cc in
        let there : ListAt moves s at (field p k h) = rw eq at g.there in
        let count : field_count (field p k h) ≡ left = rw eq at g.counted in
        let n : among f ≡ types + (suc (inside k) + among h) = g.number ∙ ap (λ r. types + among r) eq in
        record {
          rest = h;
          there = rw (moved (ty p k) first) (list_rest s at p k h moves there);
          counted = omega (arith, count);
          bytes = g.bytes ∙ ap (λ r. so_far ++ write_fields r) eq ∙ sym (append_assoc so_far (write_shape p ++ write_scalar k) (write_fields h)) ∙ ap (λ r. r ++ write_fields h) (sym b);
          number = omega (arith, n, m);
          room = omega (arith, w.room, g.room);
        }

    pub going-few : among f ≤ max_types → types + x.types ≤ max_types
    unfolding among
    going-few few = going-first λ p k h eq first.
        let w = copied (ty p k) first in
        let y = w.bytes in
        let m : x.types ≡ suc (inside k) = cc in
        let n : among f ≡ types + (suc (inside k) + among h) = g.number ∙ ap (λ r. types + among r) eq in
        omega (arith, n, m)

module _ {s : List ℕ} {f : Fields} {before : List ℕ} {to : ℕ} {moves : Bool} {at left : ℕ} (out : List ℕ) {end types : ℕ} (g : Going s f before to moves at left (take end out) end types) (z : left ≡ 0) where
  pub going_end : (x : Extent) → x.end ≡ end → x.types ≡ types → CopyIs x out (fields_piece before 0 f) to
  unfolding among write_fields
  going_end x e n = go g.rest refl g.counted
    where
      go : (r : Fields) → g.rest ≡ r → field_count r ≡ left → CopyIs x out (fields_piece before 0 f) to
      go no_fields q c =
          let b : before ++ write_fields f ≡ take end out = g.bytes ∙ ap (λ r. take end out ++ write_fields r) q ∙ append-nil (take end out) in
          let m : among f ≡ types + 0 = g.number ∙ ap (λ r. types + among r) q in
          copy_is x (ap (λ k. take k out) e ∙ sym b) (omega (arith, n, m)) (omega (arith, e, g.room, m))
      go (field p k r) q c = absurd (omega (arith, z))
