-- Sizes, one after the other, from one layout to the other.
use Prim.Native.Nat.{ℕ, ◌+◌, ◌≤◌, ◌<◌}
use native.Mathlib.Nat.{add-zero}
use native.Mathlib.Omega.{arith}
use mathlib.Core.List.{List, [], ◌∷◌, ◌++◌}
use mathlib.Core.Path.{◌≡◌, refl, sym, ◌∙◌, ap, subst}
use lib.ListN.{length}
use lib.Dec.{lit<}
use Rattle.model.specs.Types.{Dim}
use Rattle.model.specs.Within.{All, DimWithin}
use Rattle.format.specs.Reader.{got, number, bytes_of}
use Rattle.format.specs.ReaderLaws.{reads-number}
use Rattle.format.specs.Views.{stands-within}
use Rattle.lent.specs.Over.{over}
use Rattle.record.proofs.ByteLaws.{low, number-there, number-eight}
use Rattle.record.specs.Answers.{eight_bytes}
use Rattle.packing.specs.Layouts.{Layout, as_record, as_packed, size_length, size_number, size_in, sizes_in}
use Rattle.packing.specs.Packed.{packed_size}
use Rattle.packing.proofs.PackedOnce.{number_small, sizes_once_at}
use Rattle.packing.specs.PackedSizes.{seven_bytes, unpacked_number, low_seven, unpacked-number}
use Rattle.packing.specs.Parts.{SizesThere, HasSizes, After}
use Rattle.packing.proofs.PackedShapeLaws.{length-size_in, sizes_in-none, sizes_in-first}
use Rattle.packing.proofs.Halfway.{Before, before-first, Halfway, halfway-none, halfway-before, halfway-more, halfway-all}

-- ---- one size

size_length_least : (v : Layout) → 0 < size_length v
size_length_least as_record = lit< tt
size_length_least as_packed = lit< tt

module _ (v w : Layout) (s : List ℕ) (from : ℕ) (out : List ℕ) (to : ℕ) (d : Dim) (b : Before s from (size_in v d) out to (size_in w d)) where
  size-reads : from + size_length v ≤ length s
  size-reads = omega (arith, length-size_in v d, size_length_least v, stands-within s from (size_in v d) (omega (arith, length-size_in v d, size_length_least v)) b.stands)

  size_room : to + size_length w ≤ length out
  size_room = omega (arith, length-size_in w d, b.room)

-- Read as a number, it is the number that stands for it.
abbrev number_at : Layout → List ℕ → ℕ → ℕ
number_at as_record s at = eight_bytes s at
number_at as_packed s at = seven_bytes s at

number-at : (v : Layout) (s : List ℕ) (at : ℕ) → at + size_length v ≤ length s → number s (size_length v) 0 at ≡ got (number_at v s at) (at + size_length v)
unfolding low
number-at as_record s at h = number-eight s 0 at (eight_bytes s at) refl h
number-at as_packed s at h = ap (number s packed_size 0) (sym (add-zero at)) ∙ number-there s 0 at packed_size 0 h ∙ ap (λ n. got n (at + packed_size)) (rw add-zero (omega arith))

module _ (v w : Layout) (s : List ℕ) (from : ℕ) (out : List ℕ) (to : ℕ) (d : Dim) (within : DimWithin d) (b : Before s from (size_in v d) out to (size_in w d)) where
  number_is : number_at v s from ≡ size_number v d
  number_is =
      let read = number-at v s from (size-reads v w s from out to d b) in
      let told = (reads-number (size_length v) 0 (size_number v d) (number_small v d within)).run from _ b.stands.is in
      cc

  -- Written as the number that stands for it in the other layout, it is done.
  size-done : {one : List ℕ} → one ≡ over out to (size_in w d) → After from (size_in v d) out to (size_in w d) one (from + size_length v) (to + size_length w)
  size-done laid = record { read = omega (arith, length-size_in v d); wrote = omega (arith, length-size_in w d); laid = laid }

module _ (s : List ℕ) (from : ℕ) (out : List ℕ) (to : ℕ) where
  pub size_packed :
      {one : List ℕ}
      {n : ℕ} →
      n ≡ eight_bytes s from →
      one ≡ over out to (bytes_of packed_size n) →
      (d : Dim) →
      DimWithin d →
      Before s from (size_in as_record d) out to (size_in as_packed d) →
      After from (size_in as_record d) out to (size_in as_packed d) one (from + 8) (to + packed_size)
  size_packed is laid d within b =
      let number = is ∙ number_is as_record as_packed s from out to d within b in
      size-done as_record as_packed s from out to d within b (laid ∙ ap (λ n. over out to (bytes_of packed_size n)) number ∙ ap (over out to) (low_seven d))

  pub size-unpacked :
      {one : List ℕ}
      {m n : ℕ} →
      m ≡ seven_bytes s from →
      n ≡ unpacked_number m →
      one ≡ over out to (bytes_of 8 n) →
      (d : Dim) →
      DimWithin d →
      Before s from (size_in as_packed d) out to (size_in as_record d) →
      After from (size_in as_packed d) out to (size_in as_record d) one (from + packed_size) (to + 8)
  size-unpacked is told laid d within b =
      let number = told ∙ ap unpacked_number (is ∙ number_is as_packed as_record s from out to d within b) ∙ unpacked-number d within in
      size-done as_packed as_record s from out to d within b (laid ∙ ap (λ n. over out to (bytes_of 8 n)) number)

-- ---- so many

some_left : {C : Type 0} (ds : List Dim) → 0 < length ds → ((d : Dim) (es : List Dim) → ds ≡ d ∷ es → C) → C
some_left [] h go = absurd (omega arith)
some_left (d ∷ es) h go = go d es refl

none_left : (ds : List Dim) → length ds ≡ 0 → ds ≡ []
none_left [] e = refl
none_left (d ∷ ds) e = absurd (omega arith)

-- Of the sizes asked for, i are done.
pub record SizesLeft (v w : Layout) (s : List ℕ) (start : ℕ) (out₀ : List ℕ) (place count : ℕ) (out : List ℕ) (from to i : ℕ) : Type 0 where
  pub asked : HasSizes v w s start out₀ place count
  pub rest : List Dim
  pub within : All DimWithin rest
  pub counted : i + length rest ≡ count
  pub halfway : Halfway start (sizes_in v asked.dims) out₀ place (sizes_in w asked.dims) out from to (sizes_in v rest) (sizes_in w rest)

module _ {v w : Layout} {s : List ℕ} {start : ℕ} {out₀ : List ℕ} {place count : ℕ} where
  pub sizes-none : HasSizes v w s start out₀ place count → SizesLeft v w s start out₀ place count out₀ start place 0
  sizes-none h = record { asked = h; rest = h.dims; within = h.there.within; counted = omega (arith, h.there.counted); halfway = halfway-none }

  module _ {out : List ℕ} {from to i : ℕ} (h : SizesLeft v w s start out₀ place count out from to i) where
    whole : Before s start (sizes_in v h.asked.dims) out₀ place (sizes_in w h.asked.dims)
    whole = record { stands = h.asked.there.stands; room = h.asked.room }

    -- the next size
    module _ (more : i < count) where
      abbrev Reached : List ℕ → List ℕ → Type 0
      Reached x y = Halfway start (sizes_in v h.asked.dims) out₀ place (sizes_in w h.asked.dims) out from to x y

      next-size : {C : Type 0} → ((d : Dim) (ds : List Dim) → h.rest ≡ d ∷ ds → DimWithin d → All DimWithin ds → Reached (size_in v d ++ sizes_in v ds) (size_in w d ++ sizes_in w ds) → C) → C
      next-size go = some_left h.rest (omega (arith, h.counted)) λ d ds e.
          let each : All DimWithin (d ∷ ds) = subst (All DimWithin) e h.within in
          let way : Reached (sizes_in v (d ∷ ds)) (sizes_in w (d ∷ ds)) = rw e at h.halfway in
          go d ds e each.0 each.1 (rw (sizes_in-first v d ds, sizes_in-first w d ds) at way)

      here : (d : Dim) (ds : List Dim) → Reached (size_in v d ++ sizes_in v ds) (size_in w d ++ sizes_in w ds) → Before s from (size_in v d) out to (size_in w d)
      here d ds way = before-first (size_in v d) (size_in w d) (sizes_in v ds) (sizes_in w ds) (halfway-before whole way)

      pub next-reads : from + size_length v ≤ length s
      next-reads = next-size λ d ds e one each way. size-reads v w s from out to d (here d ds way)

      pub next-room : to + size_length w ≤ length out
      next-room = next-size λ d ds e one each way. size_room v w s from out to d (here d ds way)

      pub next-done :
          {out₁ : List ℕ}
          {from₁ to₁ : ℕ} →
          ((d : Dim) → DimWithin d → Before s from (size_in v d) out to (size_in w d) → After from (size_in v d) out to (size_in w d) out₁ from₁ to₁) →
          SizesLeft v w s start out₀ place count out₁ from₁ to₁ (i + 1)
      next-done done = next-size λ d ds is one each way. record {
        asked = h.asked;
        rest = ds;
        within = each;
        counted = omega (arith, h.counted, ap length is);
        halfway = halfway-more whole (size_in v d) (size_in w d) way (done d one (here d ds way));
      }

    pub sizes-all : count ≤ i → (ds : List Dim) → SizesThere v s start count ds → After start (sizes_in v ds) out₀ place (sizes_in w ds) out from to
    sizes-all ended ds t =
        let none : h.rest ≡ [] = none_left h.rest (omega (arith, h.counted, ended)) in
        let all : SizesThere v s start count h.asked.dims = h.asked.there in
        let same : ds ≡ h.asked.dims = sizes_once_at v s start ds h.asked.dims t.within all.within (t.counted ∙ sym all.counted) t.stands all.stands in
        rw same (halfway-all (rw (none, sizes_in-none v, sizes_in-none w) at h.halfway))
