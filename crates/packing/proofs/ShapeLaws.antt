-- A shape from one layout to the other: its two counts, and then its sizes.
use Prim.Native.Nat.{ℕ, ◌+◌, ◌≤◌}
use native.Mathlib.Omega.{arith}
use mathlib.Core.List.{List, [], ◌∷◌, ◌++◌}
use mathlib.Core.Path.{◌≡◌, refl, sym, ◌∙◌, ap}
use lib.Dec.{lit<}
use lib.ListN.{length, get_or, length-append}
use Rattle.model.specs.Types.{Dim, Shape}
use Rattle.format.specs.Records.{list_count, write_shape}
use Rattle.format.specs.Views.{Stands, stands-first, stands-second, stands-byte, stands-nth, stands-within}
use Rattle.lent.specs.Over.{over}
use Rattle.packing.specs.Packed.{pack_shape}
use Rattle.packing.specs.Layouts.{Layout, as_record, as_packed, sizes_in, counts_in, counts_length, shape_in}
use Rattle.packing.specs.Parts.{SizesThere, ShapeThere, HasSizes, HasShape, After}
use Rattle.packing.proofs.PackedShapeLaws.{opening_count, closing_count, sizes_of, shape_in-parts, length-counts_in, sizes-within, sizes-counted}
use Rattle.packing.proofs.Halfway.{At_bytes, Before, before-second, after_then}

counts_length_least : (v : Layout) → 2 ≤ counts_length v
counts_length_least as_record = omega arith
counts_length_least as_packed = omega arith

abbrev counts_of : Layout → Shape → List ℕ
counts_of v o = counts_in v (opening_count o) (closing_count o)

counts_least : (v : Layout) (o : Shape) → counts_length v ≤ length (shape_in v o)
counts_least v o = omega (arith, ap length (shape_in-parts v o), length-append (counts_of v o) (sizes_in v (sizes_of o)), length-counts_in v (opening_count o) (closing_count o))

pub shape_least : (v : Layout) (o : Shape) → 2 ≤ length (shape_in v o)
shape_least v o = omega (arith, counts_least v o, counts_length_least v)

pub record_long : (o : Shape) → 4 ≤ length (write_shape o)
record_long o = counts_least as_record o

pub packed_long : (o : Shape) → 2 ≤ length (pack_shape o)
packed_long o = counts_least as_packed o

-- ---- the counts

module _ (v : Layout) (s : List ℕ) (from : ℕ) (o : Shape) (h : Stands s from (shape_in v o)) where
  parts_stand : Stands s from (counts_of v o ++ sizes_in v (sizes_of o))
  parts_stand = rw (shape_in-parts v o) at h

  counts_stand : Stands s from (counts_of v o)
  counts_stand = stands-first s from (counts_of v o) (sizes_in v (sizes_of o)) parts_stand

  pub shape_inside : from + counts_length v ≤ length s
  shape_inside =
      let long : length (counts_of v o) ≡ counts_length v = length-counts_in v (opening_count o) (closing_count o) in
      omega (arith, long, counts_length_least v, stands-within s from (counts_of v o) (omega (arith, long, counts_length_least v)) counts_stand)

module _ (s : List ℕ) (from : ℕ) (o : Shape) where
  -- where they stand in a record
  pub recorded_inside : Stands s from (write_shape o) → At_bytes s from (write_shape o) (from + 4 ≤ length s)
  recorded_inside h = (refl, shape_inside as_record s from o h)

  pub opening_recorded : ShapeThere as_record s from o → get_or s (from + 2) 0 ≡ opening_count o
  opening_recorded h = stands-nth s from (counts_of as_record o) 2 (lit< tt) (counts_stand as_record s from o h.stands)

  pub closing_recorded : ShapeThere as_record s from o → get_or s (from + 3) 0 ≡ closing_count o
  closing_recorded h = stands-nth s from (counts_of as_record o) 3 (lit< tt) (counts_stand as_record s from o h.stands)

  -- and packed
  pub packed_inside : Stands s from (pack_shape o) → At_bytes s from (pack_shape o) (from + 2 ≤ length s)
  packed_inside h = (refl, shape_inside as_packed s from o h)

  pub opening_packed : ShapeThere as_packed s from o → get_or s from 0 ≡ opening_count o
  opening_packed h = stands-byte s from (opening_count o) (closing_count o ∷ []) (counts_stand as_packed s from o h.stands)

  pub closing_packed : ShapeThere as_packed s from o → get_or s (from + 1) 0 ≡ closing_count o
  closing_packed h = stands-nth s from (counts_of as_packed o) 1 (lit< tt) (counts_stand as_packed s from o h.stands)

-- ---- the shape

module _ (v w : Layout) (s : List ℕ) (from : ℕ) (out : List ℕ) (to : ℕ) where
  -- a and b are its counts, and so many sizes they say
  module _
      {a b closing : ℕ}
      (opens : (o : Shape) → ShapeThere v s from o → a ≡ opening_count o)
      (closes : (o : Shape) → ShapeThere v s from o → b ≡ closing_count o)
      (counted : closing ≡ list_count b) where
    count-is : (o : Shape) → ShapeThere v s from o → length (sizes_of o) ≡ a + closing
    count-is o h = sizes-counted o h.within ∙ sym (ap (λ n. a + n) counted ∙ ap (λ n. n + list_count b) (opens o h) ∙ ap (λ n. opening_count o + list_count n) (closes o h))

    sizes-asked : (o : Shape) → ShapeThere v s from o → SizesThere v s (from + counts_length v) (a + closing) (sizes_of o)
    sizes-asked o h = record {
      stands = rw (length-counts_in v (opening_count o) (closing_count o)) at (stands-second s from (counts_of v o) (sizes_in v (sizes_of o)) (parts_stand v s from o h.stands));
      within = sizes-within o h.within;
      counted = count-is o h;
    }

    -- the counts written
    module _ {one : List ℕ} (laid : one ≡ over out to (counts_in w a b)) where
      counts-done : (o : Shape) → ShapeThere v s from o → After from (counts_of v o) out to (counts_of w o) one (from + counts_length v) (to + counts_length w)
      counts-done o h = record {
        read = ap (λ n. from + n) (sym (length-counts_in v (opening_count o) (closing_count o)));
        wrote = ap (λ n. to + n) (sym (length-counts_in w (opening_count o) (closing_count o)));
        laid = laid ∙ ap (λ n. over out to (counts_in w n b)) (opens o h) ∙ ap (λ n. over out to (counts_in w (opening_count o) n)) (closes o h);
      }

      -- what is asked for the sizes
      pub shape_sizes : HasShape v w s from out to → HasSizes v w s (from + counts_length v) one (to + counts_length w) (a + closing)
      shape_sizes h =
          let o : Shape = h.shape in
          let parts : Before s from (counts_of v o ++ sizes_in v (sizes_of o)) out to (counts_of w o ++ sizes_in w (sizes_of o)) = record {
            stands = parts_stand v s from o h.there.stands;
            room = rw (shape_in-parts w o) at h.room;
          } in
          let behind : Before s (from + counts_length v) (sizes_in v (sizes_of o)) one (to + counts_length w) (sizes_in w (sizes_of o)) = before-second (counts_of v o) (counts_of w o) _ _ parts (counts-done o h.there) in
          record { dims = sizes_of o; there = sizes-asked o h.there; room = behind.room }

      -- what was done, if the sizes are
      pub shape_done :
          {two : List ℕ}
          {from₁ to₁ : ℕ} →
          HasShape v w s from out to →
          ((ds : List Dim) → SizesThere v s (from + counts_length v) (a + closing) ds → After (from + counts_length v) (sizes_in v ds) one (to + counts_length w) (sizes_in w ds) two from₁ to₁) →
          (o : Shape) →
          ShapeThere v s from o →
          After from (shape_in v o) out to (shape_in w o) two from₁ to₁
      shape_done asked sized o h =
          let fits : to + length (counts_of w o) ≤ length out = omega (arith, asked.room, counts_least w asked.shape, length-counts_in w (opening_count o) (closing_count o)) in
          rw (shape_in-parts v o, shape_in-parts w o) (after_then fits (counts-done o h) (sized (sizes_of o) (sizes-asked o h)))
