-- Heads of records, laid behind what stood before.
use Prim.Native.Nat.{ℕ, suc, ◌+◌, ◌-◌, ◌≤◌}
use native.Mathlib.Omega.{arith}
use mathlib.Core.List.{List, [], ◌∷◌, ◌++◌, append_assoc}
use mathlib.Core.Option.{Option}
use mathlib.Core.Path.{◌≡◌, ◌∙◌, ap}
use lib.ListN.{length, set, take, drop, length-append}
use lib.Seq.{sets-eq}
use Rattle.model.specs.Limits.{max_name}
use Rattle.format.specs.Records.{box_start, count_of, list_of}
use Rattle.format.specs.Suffices.{box_bytes, name_most}
use Rattle.format.specs.Views.{stands-part}
use Rattle.lent.specs.Over.{over, over-over, take-over, length_over}
use Rattle.known.specs.Known.{NameAt, HasName, NameIs}
use Rattle.known.specs.declared.Name.{Name}
use Rattle.validate.specs.Walk.{def_head, HeadIs}

-- what stands before the place after a head
pub head-behind : (before head : List ℕ) {to r : ℕ} {after : List ℕ} → to + box_bytes ≤ length before → HeadIs to head before r after → take r after ≡ take to before ++ head
head-behind before head {to} {r} {after} room h =
    let l : to + length head ≤ length before = omega (arith, h.ends, h.short) in
    ap (λ n. take n after) h.ends ∙ ap (take (to + length head)) h.laid ∙ take-over before to head l

-- ---- a box's head, as it is written by the code x of its form

pub box-laid : (form : ℕ) {x : ℕ} → x ≡ form → {out : List ℕ} {to r : ℕ} {after : List ℕ} → (r ≡ to + length (box_start x)) × (after ≡ over out to (box_start x)) → HeadIs to (box_start form) out r after
box-laid form e {out} {to} h = record { ends = h.0; short = omega (arith, h.0); laid = h.1 ∙ ap (λ n. over out to (box_start n)) e }

-- ---- a Def's head

-- where a name ends in known bytes, and how many bytes it may be behind its length
pub title_fits : {s : List ℕ} {at : ℕ} {r : Name} → HasName s at → ((n : Option (List ℕ)) → NameAt s at n → NameIs s at n r) → (at ≤ r.end) × (r.end ≤ length s) × (r.end - at ≤ max_name + 1)
title_fits h found =
    let is = found h.name h.there in
    (omega (arith, is.ends), is.within, omega (arith, is.ends, name_most h.name h.there.records))

module _ {s : List ℕ} {at : ℕ} (label : Option (List ℕ)) (named : NameAt s at label) {end : ℕ} (ends : end ≡ at + length (count_of label ∷ list_of label)) where
  abbrev title : List ℕ
  title = count_of label ∷ list_of label

  name-part : take (end - at) (drop at s) ≡ title
  name-part = let q : end - at ≡ suc (length (list_of label)) = omega (arith, ends) in rw q (stands-part s at title named.stands)

  -- one: the box's head was laid; two: the name behind it
  module _ (out : List ℕ) (to : ℕ) {start : ℕ} {one : List ℕ} (room : to + box_bytes ≤ length out) (box : HeadIs to (box_start 2) out start one) where
    pub name-room : start + (end - at) + 1 ≤ to + box_bytes
    name-room = omega (arith, ends, box.ends, name_most label named.records)

    module _ {two : List ℕ} (then : two ≡ over one start (take (end - at) (drop at s))) where
      abbrev boxed : List ℕ
      boxed = box_start 2 ++ title

      both-laid : two ≡ over out to boxed
      both-laid =
          then
          ∙ ap (λ x. over x start (take (end - at) (drop at s))) box.laid
          ∙ ap (over (over out to (box_start 2)) start) name-part
          ∙ ap (λ n. over (over out to (box_start 2)) n title) box.ends
          ∙ over-over out to (box_start 2) (omega arith) title

      pub def-laid : (count : ℕ) → HeadIs to (def_head label count) out (start + (end - at) + 1) (set two (start + (end - at)) count)
      def-laid count =
          let place : start + (end - at) ≡ to + length boxed = omega (arith, ends, box.ends) in
          let few : to + length boxed ≤ length out = omega (arith, name-room, place) in
          let last : to + length boxed + 1 ≤ length (over out to boxed) = rw (length_over out to boxed few) (omega (arith, name-room, place)) in
          record {
            ends = omega (arith, place, length-append (list_of label) (count ∷ []));
            short = name-room;
            laid =
                ap (λ x. set x (start + (end - at)) count) both-laid
                ∙ ap (λ j. set (over out to boxed) j count) place
                ∙ sets-eq (count ∷ []) (over out to boxed) (to + length boxed) last
                ∙ over-over out to boxed few (count ∷ [])
                ∙ ap (over out to) (append_assoc (box_start 2) title (count ∷ []));
          }
