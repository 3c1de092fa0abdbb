-- A scalar up to its contents, unpacked: by its code and its form.
use Prim.Native.Nat.{ℕ, ◌+◌, ◌-◌, ◌≤◌, ◌<◌}
use native.Mathlib.Omega.{arith}
use native.Mathlib.Nat.{add-zero}
use mathlib.Core.List.{List, [], ◌∷◌, ◌++◌}
use mathlib.Core.Option.{Option}
use mathlib.Core.Path.{◌≡◌, refl, sym, ◌∙◌, ap}
use lib.ListN.{length, get_or, take, drop, length-append}
use Rattle.model.specs.Types.{Scalar, box_def, Fields, field_count}
use Rattle.model.specs.Within.{ScalarWithin}
use Rattle.format.specs.Records.{code, box_code, box_start, count_of, list_of}
use Rattle.format.specs.Views.{Stands, stands-first, stands-second, stands-byte, stands-nth, stands-within, stands-part}
use Rattle.known.specs.declared.Name.{Name}
use Rattle.known.specs.Known.{NameAt, HasName, NameIs}
use Rattle.lent.specs.Over.{over}
use Rattle.rules.specs.Order.{code_of}
use Rattle.rules.specs.Views.{form_of}
use Rattle.rules.proofs.ViewsLaws.{is_box-def}
use Rattle.packing.specs.Packed.{pack_scalar}
use Rattle.packing.specs.Heads.{held_count}
use Rattle.packing.proofs.HeadLaws.{head-stands}
use Rattle.packing.specs.Layouts.{as_record, as_packed, form_in, def_head, head_in}
use Rattle.packing.specs.Parts.{ScalarThere, DefThere, HasHead, HasDef, After}
use Rattle.packing.proofs.Halfway.{At_bytes, Before, before-second, after_then}

-- ---- a Def's name and the count of its fields

module _ (s : List ℕ) (from : ℕ) where
  name-stands : (n : Option (List ℕ)) (count : ℕ) → DefThere s from n count → NameAt s from n
  name-stands n count h = record { stands = stands-first s from (count_of n ∷ list_of n) (count ∷ []) h.stands; records = h.within }

  pub def-name : (out : List ℕ) (to : ℕ) → HasDef s from out to → HasName s from
  def-name out to h = record { name = h.name; there = name-stands h.name h.count h.there }

  -- its name, read
  module _ (r : Name) (named : (n : Option (List ℕ)) → NameAt s from n → NameIs s from n r) where
    module _ (n : Option (List ℕ)) (count : ℕ) (h : DefThere s from n count) where
      name-ends : r.end ≡ from + length (count_of n ∷ list_of n)
      name-ends = (named n (name-stands n count h)).ends

      def-long : r.end + 1 ≡ from + length (def_head n count)
      def-long = omega (arith, name-ends, length-append (list_of n) (count ∷ []))

      def-part : r.end + 1 - from ≡ length (def_head n count)
      def-part = omega (arith, def-long)

      def-count : get_or s r.end 0 ≡ count
      def-count = ap (λ p. get_or s p 0) name-ends ∙ stands-byte s (from + length (count_of n ∷ list_of n)) count [] (stands-second s from (count_of n ∷ list_of n) (count ∷ []) h.stands)

    module _ (out : List ℕ) (to : ℕ) where
      pub def_room : HasDef s from out to → (from ≤ r.end) × (r.end < length s) × (to + (r.end + 1 - from) ≤ length out)
      def_room h = (
        omega (arith, name-ends h.name h.count h.there),
        omega (arith, def-long h.name h.count h.there, stands-within s from (def_head h.name h.count) (omega arith) h.there.stands),
        omega (arith, def-part h.name h.count h.there, h.room),
      )

      pub def_done :
          {one : List ℕ}
          {next place x : ℕ} →
          (next ≡ r.end + 1) × (place ≡ to + (r.end + 1 - from)) →
          x ≡ get_or s r.end 0 →
          one ≡ over out to (take (r.end + 1 - from) (drop from s)) →
          (n : Option (List ℕ)) (count : ℕ) →
          DefThere s from n count →
          After from (def_head n count) out to (def_head n count) one next place × (x ≡ count)
      def_done {one} {next} {place} (read, wrote) byte laid n count h =
          let part : r.end + 1 - from ≡ length (def_head n count) = def-part n count h in
          let done : After from (def_head n count) out to (def_head n count) one next place = record {
            read = read ∙ def-long n count h;
            wrote = wrote ∙ ap (λ k. to + k) part;
            laid = laid ∙ ap (λ k. over out to (take k (drop from s))) part ∙ ap (over out to) (stands-part s from (def_head n count) h.stands);
          } in
          (done, byte ∙ def-count n count h)

-- ---- a scalar's code and form

head_least : (k : Scalar) → 0 < length (head_in as_packed k)
unfolding head_in
head_least k = grind arith

head-code : (k : Scalar) → get_or (head_in as_packed k) 0 0 ≡ code_of k
unfolding head_in code_of
head-code k = grind arith

code_few : (k : Scalar) → code_of k ≤ 9
unfolding code_of code
code_few k = grind arith

-- what a kind has in a record
pub record_least : (k : Scalar) → 3 ≤ length (head_in as_record k)
unfolding head_in
record_least k = grind arith

module _ (k : Scalar) (boxed : code_of k ≡ box_code) where
  box_least : 1 < length (head_in as_packed k)
  unfolding head_in code_of code
  box_least = grind arith

  box-form : get_or (head_in as_packed k) 1 0 ≡ form_of k
  unfolding head_in code_of code form_of
  box-form = grind arith

  form_few : form_of k ≤ 2
  unfolding code_of form_of code
  form_few = grind arith

  -- and what a box has there up to its form
  pub box_record : 6 ≤ length (head_in as_record k)
  unfolding head_in code_of code
  box_record = grind arith

module _ (s : List ℕ) (from : ℕ) (k : Scalar) (h : Stands s from (pack_scalar k)) where
  head_stands : Stands s from (head_in as_packed k)
  head_stands = head-stands as_packed s from k h

  code_there : get_or s from 0 ≡ code_of k
  code_there = rw (add-zero from) at (stands-nth s from (head_in as_packed k) 0 (head_least k) head_stands) ∙ head-code k

  pub code_inside : At_bytes s from (pack_scalar k) ((from < length s) × (get_or s from 0 ≡ code_of k) × (get_or s from 0 ≤ 9))
  code_inside = (refl, (omega (arith, head_least k, stands-within s from (head_in as_packed k) (head_least k) head_stands), code_there, omega (arith, code_there, code_few k)))

  module _ (boxed : code_of k ≡ box_code) where
    form_there : get_or s (from + 1) 0 ≡ form_of k
    form_there = stands-nth s from (head_in as_packed k) 1 (box_least k boxed) head_stands ∙ box-form k boxed

    pub form_inside : At_bytes s from (pack_scalar k) ((from + 1 < length s) × (get_or s (from + 1) 0 ≡ form_of k) × (get_or s (from + 1) 0 ≤ 2))
    form_inside = (refl, (omega (arith, box_least k boxed, stands-within s from (head_in as_packed k) (head_least k) head_stands), form_there, omega (arith, form_there, form_few k boxed)))

-- ---- which scalar it is

module _ (s : List ℕ) (from : ℕ) (out : List ℕ) (to : ℕ) where
  abbrev There : Scalar → Type 0
  There k = ScalarThere as_packed s from k

  -- what was written of a scalar, and how many types it holds
  abbrev Done : List ℕ → ℕ → ℕ → ℕ → Type 0
  Done one end next count = (k : Scalar) → There k → After from (head_in as_packed k) out to (head_in as_record k) one end next × (count ≡ held_count k)

  -- a scalar of code x
  module _ {x : ℕ} (code : x ≡ get_or s from 0) where
    code_is : (k : Scalar) → There k → x ≡ code_of k
    code_is k h = code ∙ code_there s from k h.stands

    -- a box of form y, written up to its form, which ends at `next`
    module _ (boxed : x ≡ box_code) {y : ℕ} (form : y ≡ get_or s (from + 1) 0) {one : List ℕ} {next : ℕ} (wrote : (next ≡ to + 6) × (one ≡ over out to (box_start y))) where
      is_box : (k : Scalar) → There k → code_of k ≡ box_code
      is_box k h = sym (code_is k h) ∙ boxed

      form_is : {z : ℕ} → y ≡ z → (k : Scalar) → There k → form_of k ≡ z
      form_is e k h = sym (form ∙ form_there s from k h.stands (is_box k h)) ∙ e

      form_done : {z : ℕ} → y ≡ z → After from (form_in as_packed z) out to (form_in as_record z) one (from + 2) next
      form_done e = record { read = refl; wrote = wrote.0; laid = wrote.1 ∙ ap (λ n. over out to (box_start n)) e }

      -- a Def: its form is written, and there is the rest
      module _ (e : y ≡ 2) where
        def_parts : {C : Type 0} (k : Scalar) → There k → ((n : Option (List ℕ)) (g : Fields) → k ≡ box_def n g → DefThere s (from + 2) n (field_count g) → C) → C
        unfolding head_in
        def_parts k h go = is_box-def k (form_is e k h) λ n g is.
            let here : Stands s from (form_in as_packed 2 ++ def_head n (field_count g)) = rw is at (head_stands s from k h.stands) in
            let within : ScalarWithin (box_def n g) = rw is at h.within in
            go n g is (record { stands = stands-second s from (form_in as_packed 2) (def_head n (field_count g)) here; within = within.0 })

        pub def_asked : HasHead as_packed as_record s from out to → HasDef s (from + 2) one next
        unfolding head_in
        def_asked h = def_parts h.scalar h.there λ n g is there.
            let room : to + length (form_in as_record 2 ++ def_head n (field_count g)) ≤ length out = rw is at h.room in
            let here : Stands s from (form_in as_packed 2 ++ def_head n (field_count g)) = rw is at (head_stands s from h.scalar h.there.stands) in
            let parts : Before s from (form_in as_packed 2 ++ def_head n (field_count g)) out to (form_in as_record 2 ++ def_head n (field_count g)) = record { stands = here; room = room } in
            record {
              name = n;
              count = field_count g;
              there = there;
              room = (before-second (form_in as_packed 2) (form_in as_record 2) _ _ parts (form_done e)).room;
            }

        pub rest_done :
            HasHead as_packed as_record s from out to →
            {two : List ℕ}
            {from₁ to₁ count : ℕ} →
            ((n : Option (List ℕ)) (c : ℕ) → DefThere s (from + 2) n c → After (from + 2) (def_head n c) one next (def_head n c) two from₁ to₁ × (count ≡ c)) →
            Done two from₁ to₁ count
        unfolding head_in
        rest_done asked titled k h = def_parts k h λ n g is there.
            let (behind, counted) = titled n (field_count g) there in
            let room : to + 6 ≤ length out = omega (arith, asked.room, box_record asked.scalar (is_box asked.scalar asked.there)) in
            rw is (after_then room (form_done e) behind, counted)
