-- A scalar up to its contents, packed: one law for each way a look at its record can come out.
use Prim.Native.Nat.{ℕ, ◌+◌, ◌-◌, ◌≤◌}
use native.Mathlib.Omega.{arith}
use mathlib.Core.Bool.{Bool}
use mathlib.Core.List.{List, [], ◌∷◌, ◌++◌}
use mathlib.Core.Path.{◌≡◌, refl, sym, ◌∙◌, ap, subst}
use lib.ListN.{length, set, take, drop, length-append}
use Rattle.model.specs.Limits.{max_depth}
use Rattle.model.specs.Types.{Scalar, box_def, field_count}
use Rattle.format.specs.Records.{list_of, box_start, write_scalar}
use Rattle.format.specs.Views.{Stands, stands-second, stands-part, stands-within}
use Rattle.known.specs.Known.{ScalarAt, HasScalar, SeenPlain, SeenAny, SeenAll, SeenDef}
use Rattle.lent.specs.Over.{over}
use Rattle.packing.proofs.HeadLaws.{head-stands}
use Rattle.packing.specs.Heads.{held_count}
use Rattle.packing.specs.Layouts.{as_record, as_packed, form_in, def_head, head_in}
use Rattle.packing.proofs.Stores.{one_store}
use Rattle.packing.specs.Parts.{ScalarThere, HasHead, After}

pub head_long : (k : Scalar) → 1 ≤ length (head_in as_packed k)
unfolding head_in
head_long k = grind arith

module _ (s : List ℕ) (from : ℕ) where
  known : (k : Scalar) → ScalarThere as_record s from k → ScalarAt s from max_depth k
  known k h = record { stands = h.stands; records = h.within; few = h.few; shallow = h.shallow }

  module _ (out : List ℕ) (to : ℕ) where
    pub looks : HasHead as_record as_packed s from out to → (d : ℕ) × HasScalar s from d
    looks h = (max_depth, record { scalar = h.scalar; there = known h.scalar h.there })

    -- what was written of a scalar, and how many types it holds
    abbrev Done : List ℕ → ℕ → ℕ → ℕ → Type 0
    Done one end next count = (k : Scalar) → ScalarThere as_record s from k → After from (head_in as_record k) out to (head_in as_packed k) one end next × (count ≡ held_count k)

    -- a kind
    module _ {c end : ℕ} (seen : (d : ℕ) (k : Scalar) → ScalarAt s from d k → SeenPlain from k c end) where
      pub plain_done : {x : ℕ} → x ≡ c → HasHead as_record as_packed s from out to → Done (set out to x) end (to + 1) 0
      unfolding head_in write_scalar
      plain_done {x = b} is asked k h =
          let laid : set out to b ≡ over out to (b ∷ []) = one_store out to b (omega (arith, asked.room, head_long asked.scalar)) in
          let x = seen max_depth k (known k h) in
          let ends = x.ends ∙ ap (λ l. from + length (write_scalar l)) x.is in
          rw x.is (record { read = ends; wrote = refl; laid = laid ∙ ap (λ b. over out to (b ∷ [])) (is ∙ sym x.coded) }, refl)

    -- a box of anything
    module _ {end : ℕ} (seen : (d : ℕ) (k : Scalar) → ScalarAt s from d k → SeenAny from k end) where
      pub any_room : HasHead as_record as_packed s from out to → to + 2 ≤ length out
      unfolding head_in
      any_room h = let x = seen max_depth h.scalar (known h.scalar h.there) in rw x.is at h.room

      pub any_done : {one : List ℕ} → one ≡ over out to (form_in as_packed 0) → Done one end (to + 2) 0
      unfolding head_in write_scalar
      any_done laid k h =
          let x = seen max_depth k (known k h) in
          let ends = x.ends ∙ ap (λ l. from + length (write_scalar l)) x.is in
          rw x.is (record { read = ends; wrote = refl; laid = laid }, refl)

    -- an All box
    module _ {content : ℕ} (seen : (d : ℕ) (k : Scalar) → ScalarAt s from d k → SeenAll s from d k content) where
      pub all_room : HasHead as_record as_packed s from out to → to + 2 ≤ length out
      unfolding head_in
      all_room h = let x = seen max_depth h.scalar (known h.scalar h.there) in rw x.is at h.room

      pub all_done : {one : List ℕ} → one ≡ over out to (form_in as_packed 1) → Done one content (to + 2) 1
      unfolding head_in
      all_done laid k h = let x = seen max_depth k (known k h) in rw x.is (record { read = x.place; wrote = refl; laid = laid }, refl)

    -- a Def
    module _ {name fields count : ℕ} {named : Bool} (seen : (d : ℕ) (k : Scalar) → ScalarAt s from d k → SeenDef s from d k name named fields count) where
      -- what there is to copy
      module _ (k : Scalar) (h : ScalarThere as_record s from k) where
        abbrev x : SeenDef s from max_depth k name named fields count
        x = seen max_depth k (known k h)

        abbrev title : List ℕ
        title = def_head x.label (field_count x.held)

        title_stands : Stands s name title
        unfolding head_in
        title_stands =
            let parts : Stands s from (box_start 2 ++ title) = subst (λ l. Stands s from (head_in as_record l)) x.is (head-stands as_record s from k h.stands) in
            subst (λ p. Stands s p title) (sym x.place) (stands-second s from (box_start 2) title parts)

        title_long : fields ≡ name + length title
        title_long = omega (arith, x.behind, length-append (list_of x.label) (field_count x.held ∷ []))

      pub def_room : HasHead as_record as_packed s from out to → (name ≤ fields) × (fields ≤ length s) × (to + 2 + (fields - name) ≤ length out)
      unfolding head_in
      def_room h =
          let y : SeenDef s from max_depth h.scalar name named fields count = seen max_depth h.scalar (known h.scalar h.there) in
          let room : to + length (head_in as_packed (box_def y.label y.held)) ≤ length out = rw y.is at h.room in
          let long = title_long h.scalar h.there in
          (omega (arith, long), omega (arith, long, stands-within s name (title h.scalar h.there) (omega arith) (title_stands h.scalar h.there)), omega (arith, long, room))

      pub def_done : {one : List ℕ} {next : ℕ} → (next ≡ to + 2 + (fields - name)) × (one ≡ over out to (form_in as_packed 2 ++ take (fields - name) (drop name s))) → Done one fields next count
      unfolding head_in
      def_done {one} {next} (place, laid) k h =
          let y : SeenDef s from max_depth k name named fields count = seen max_depth k (known k h) in
          let w : List ℕ = def_head y.label (field_count y.held) in
          let many : fields - name ≡ length w = omega (arith, title_long k h) in
          let bytes : take (fields - name) (drop name s) ≡ w = ap (λ n. take n (drop name s)) many ∙ stands-part s name w (title_stands k h) in
          let done : After from (box_start 2 ++ w) out to (form_in as_packed 2 ++ w) one fields next = record {
            read = omega (arith, title_long k h, y.place, length-append (box_start 2) w);
            wrote = omega (arith, place, many);
            laid = laid ∙ ap (λ b. over out to (form_in as_packed 2 ++ b)) bytes;
          } in
          rw y.is (done, y.counted)
