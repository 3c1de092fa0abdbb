-- Shapes: the counts of their records, and the sizes that stand behind them. A law that the check is to find begins with a part that says
-- nothing, and that shows whose bytes stand there.
use Prim.Native.Nat.{ℕ, zero, suc, ◌+◌, ◌*◌, ◌≤◌, ◌<◌, ◌^◌}
use native.Mathlib.Omega.{arith}
use mathlib.Core.Bool.{Bool, false, ◌&&◌}
use mathlib.Core.List.{List, [], ◌∷◌, ◌++◌, map}
use mathlib.Core.Option.{Option, none, some}
use mathlib.Core.Path.{◌≡◌, refl, sym, ◌∙◌, ap}
use lib.ListN.{length, get_or, take, drop, length-append, length-drop, take-append-drop}
use lib.Seq.{take_all}
use lib.Dec.{eqb, lit<}
use borrow.Author.Tests.{ne_eqb}
use Rattle.std.proofs.lemmas.Bool.{false≢true}
use Rattle.std.proofs.lemmas.List.{ext_get_or, get_or-map, get_or-take, length-map, length-take-le}
use Rattle.model.specs.Limits.{ones, max_sizes}
use Rattle.model.specs.Types.{Dim, static, unknown, shape, Scalar, Ty, ty, shape_of}
use Rattle.model.specs.Within.{Each, DimWithin, DimsWithin, RecordsWithin}
use Rattle.format.specs.Reader.{got, bytes_of}
use Rattle.format.specs.ReaderLaws.{reads-number}
use Rattle.format.specs.Records.{absent, dim_of, dim_number, list_count, count_of, list_of, shape_mark, mark_bytes, write_dims, write_shape, write_scalar, write_ty}
use Rattle.format.specs.Suffices.{length-bytes_of, length-write_dims}
use Rattle.format.specs.Views.{Stands, stands-first, stands-second, stands-nth, stands-within}
use Rattle.format.specs.WriteRead.{closing-within, list_count_ok}
use Rattle.record.specs.Answers.{eight_bytes}
use Rattle.record.proofs.ByteLaws.{number-eight}
use Rattle.rules.specs.Shapes.{is_any}
use Rattle.known.specs.Known.{TypeAt, DimsAt, HasType, HasDims, opening_of, is_closed}

-- ---- sizes

size_is : (s : List ℕ) (at : ℕ) (d : Dim) (w : List ℕ) → DimWithin d → Stands s at (bytes_of 8 (dim_number d) ++ w) → dim_of (eight_bytes s at) ≡ d
size_is s at d w within h = go d within (stands-first s at (bytes_of 8 (dim_number d)) w h)
  where
    same : (n : ℕ) → n < 256 ^ 8 → Stands s at (bytes_of 8 n) → eight_bytes s at ≡ n
    same n small h =
        let long = length-bytes_of 8 n in
        let inside : at + length (bytes_of 8 n) ≤ length s = stands-within s at (bytes_of 8 n) (omega arith) h in
        let e : got (eight_bytes s at) (at + 8) ≡ got n (at + length (bytes_of 8 n)) = sym (number-eight s 0 at (eight_bytes s at) refl (omega arith)) ∙ (reads-number 8 0 n small).run at _ h.is in
        cc

    go : (d : Dim) → DimWithin d → Stands s at (bytes_of 8 (dim_number d)) → dim_of (eight_bytes s at) ≡ d
    go (static n) within h = rw (same n (omega arith) h, ne_eqb n ones (λ x. omega arith))
    go unknown within h = rw (same ones (lit< tt) h)

rest_sizes : (s : List ℕ) (at : ℕ) (d : Dim) (ds : List Dim) → DimsAt s at (d ∷ ds) → DimsAt s (at + 8) ds
rest_sizes s at d ds h =
    let eight : at + length (bytes_of 8 (dim_number d)) ≡ at + 8 = omega (arith, length-bytes_of 8 (dim_number d)) in
    let behind : Stands s (at + 8) (write_dims ds) = rw eight at (stands-second s at (bytes_of 8 (dim_number d)) (write_dims ds) h.stands) in
    record { stands = behind; records = (omega (arith, h.records.0), h.records.1.1) }

nth_size : (s : List ℕ) (ds : List Dim) (at k : ℕ) → DimsAt s at ds → k < length ds → dim_of (eight_bytes s (at + 8 * k)) ≡ get_or ds k unknown
nth_size s [] at k h l = absurd (omega arith)
nth_size s (d ∷ ds) at zero h l = let first : at + 8 * 0 ≡ at = omega arith in rw first (size_is s at d (write_dims ds) h.records.1.0 h.stands)
nth_size s (d ∷ ds) at (suc k) h l = let place : at + 8 * suc k ≡ at + 8 + 8 * k = omega arith in rw place (nth_size s ds (at + 8) k (rest_sizes s at d ds h) (omega arith))

dims_behind : (s : List ℕ) (ds : List Dim) (at k : ℕ) → DimsAt s at ds → k ≤ length ds → DimsAt s (at + 8 * k) (drop k ds)
dims_behind s ds at zero h l = let first : at + 8 * 0 ≡ at = omega arith in rw first h
dims_behind s [] at (suc k) h l = absurd (omega arith)
dims_behind s (d ∷ ds) at (suc k) h l = let place : at + 8 * suc k ≡ at + 8 + 8 * k = omega arith in rw place (dims_behind s ds (at + 8) k (rest_sizes s at d ds h) (omega arith))

-- the first n of them, of an array that has at its places the numbers that stand there
first_sizes : (s : List ℕ) (at : ℕ) (ds : List Dim) (sizes : List ℕ) (n : ℕ) → DimsAt s at ds → length sizes ≡ max_sizes → n ≤ length ds →
    ((k : ℕ) → k < n → get_or sizes k 0 ≡ eight_bytes s (at + 8 * k)) → map dim_of (take n sizes) ≡ take n ds
first_sizes s at ds sizes n h long few filled =
    let taken : length (take n sizes) ≡ n = length-take-le n sizes (omega (arith, h.records.0)) in
    let many : length (map dim_of (take n sizes)) ≡ n = length-map (take n sizes) dim_of ∙ taken in
    ext_get_or unknown (map dim_of (take n sizes)) (take n ds) (many ∙ sym (length-take-le n ds few)) λ k l.
    let low : k < n = omega arith in
    get_or-map dim_of (take n sizes) k 0 unknown (omega arith)
    ∙ ap dim_of (get_or-take n sizes k 0 low ∙ filled k low)
    ∙ nth_size s ds at k h (omega arith)
    ∙ sym (get_or-take n ds k unknown low)

-- the first i are gathered, and the rest of them stands at `at`
pub record Gathered (s : List ℕ) (count : ℕ) (ds : List Dim) (sizes : List ℕ) (i at : ℕ) : Type 0 where
  pub rest : List Dim
  pub there : DimsAt s at rest
  pub counted : i + length rest ≡ count
  pub gathered : ds ≡ map dim_of (take i sizes) ++ rest

-- All the places of the array are gone through: up to the count each step puts one more size, and past it none.
pub record Gathering (s : List ℕ) (start count : ℕ) (ds : List Dim) (sizes : List ℕ) (i : ℕ) : Type 0 where
  pub during : i ≤ count → Gathered s count ds sizes i (start + 8 * i)
  pub after : count ≤ i → map dim_of (take count sizes) ≡ ds

-- by what stands at the array's places, however many were gone through
pub gathering : (s : List ℕ) (start : ℕ) (ds : List Dim) (sizes : List ℕ) {count : ℕ} → DimsAt s start ds → length ds ≡ count → length sizes ≡ max_sizes → {i : ℕ} →
    ((k : ℕ) → k < i → k < count → get_or sizes k 0 ≡ eight_bytes s (start + 8 * k)) → Gathering s start count ds sizes i
gathering s start ds sizes {count} h e long {i} filled = record {
  during = λ less. record {
    rest = drop i ds;
    there = dims_behind s ds start i h (omega (arith, e));
    counted = omega (arith, length-drop i ds, e);
    gathered = sym (take-append-drop i ds) ∙ ap (λ x. x ++ drop i ds) (sym (first_sizes s start ds sizes i h long (omega (arith, e)) λ k low. filled k low (omega arith)));
  };
  after = λ past. first_sizes s start ds sizes count h long (omega (arith, e)) (λ k low. filled k (omega arith) low) ∙ take_all count ds (omega (arith, e));
}

-- all of them, once all places are gone through
pub dims_gathered : (s : List ℕ) (at : ℕ) (ds : List Dim) (sizes : List ℕ) {count : ℕ} → DimsAt s at ds → length ds ≡ count → length sizes ≡ max_sizes → {i : ℕ} → max_sizes ≤ i →
    ((k : ℕ) → k < i → k < count → get_or sizes k 0 ≡ eight_bytes s (at + 8 * k)) → map dim_of (take count sizes) ≡ ds
dims_gathered s at ds sizes h e long all filled = (gathering s at ds sizes h e long filled).after (omega (arith, e, h.records.0))

abbrev pub At_dims : List ℕ → ℕ → List Dim → Type 0 → Type 0
At_dims s at ds P = (write_dims ds ++ drop (at + length (write_dims ds)) s ≡ write_dims ds ++ drop (at + length (write_dims ds)) s) × P

pub dims_inside : (s : List ℕ) (at : ℕ) (ds : List Dim) → Stands s at (write_dims ds) → 0 < length ds → At_dims s at ds (at + 8 * length ds ≤ length s)
dims_inside s at ds h l =
    let long = length-write_dims ds in
    (refl, omega (arith, stands-within s at (write_dims ds) (omega arith) h))

-- ---- the record of a shape

-- its counts and its sizes
record ShapeAt (s : List ℕ) (at : ℕ) (o : List Dim) (c : Option (List Dim)) : Type 0 where
  opening : get_or s (at + 2) 0 ≡ length o
  closing : get_or s (at + 3) 0 ≡ count_of c
  first : DimsAt s (at + 4) o
  second : DimsAt s (at + 4 + 8 * length o) (list_of c)
  within : Each DimsWithin c
  long : length (write_shape (shape o c)) ≡ 4 + 8 * (length o + length (list_of c))
  inside : at + length (write_shape (shape o c)) ≤ length s

shape-there : (s : List ℕ) (at : ℕ) (o : List Dim) (c : Option (List Dim)) (k : Scalar) → Stands s at (write_ty (ty (shape o c) k)) → RecordsWithin (ty (shape o c) k) → ShapeAt s at o c
unfolding write_shape write_ty
shape-there s at o c k h r =
    let shape-stands = stands-first s at (write_shape (shape o c)) (write_scalar k) h in
    let sizes : Stands s (at + 4) (write_dims o ++ write_dims (list_of c)) = stands-second s at (mark_bytes shape_mark ++ (length o ∷ count_of c ∷ [])) (write_dims o ++ write_dims (list_of c)) shape-stands in
    let many = length-write_dims o in
    let place : at + 4 + length (write_dims o) ≡ at + 4 + 8 * length o = omega arith in
    record {
      opening = stands-nth s at (write_shape (shape o c)) 2 (omega arith) shape-stands;
      closing = stands-nth s at (write_shape (shape o c)) 3 (omega arith) shape-stands;
      first = record { stands = stands-first s (at + 4) (write_dims o) (write_dims (list_of c)) sizes; records = r.0.0 };
      second = record { stands = rw place at (stands-second s (at + 4) (write_dims o) (write_dims (list_of c)) sizes); records = closing-within c r.0.1 };
      within = r.0.1;
      long = omega (arith, length-append (write_dims o) (write_dims (list_of c)), length-write_dims (list_of c));
      inside = stands-within s at (write_shape (shape o c)) (omega arith) shape-stands;
    }

abbrev pub At_type : List ℕ → ℕ → Ty → Type 0 → Type 0
At_type s at t P = (write_ty t ++ drop (at + length (write_ty t)) s ≡ write_ty t ++ drop (at + length (write_ty t)) s) × P

module _ (s : List ℕ) (at : ℕ) where
  pub counts_inside : (t : Ty) → Stands s at (write_ty t) → RecordsWithin t → At_type s at t (at + 4 ≤ length s)
  counts_inside (ty (shape o c) k) h r = let p = shape-there s at _ _ _ h r in (refl, omega (arith, p.long, p.inside))

  pub opening_few : (t : Ty) → Stands s at (write_ty t) → RecordsWithin t → At_type s at t (get_or s (at + 2) 0 ≤ max_sizes)
  opening_few (ty (shape o c) k) h r = let p = shape-there s at _ _ _ h r in (refl, omega (arith, p.opening, p.first.records.0))

  pub opening_has : (t : Ty) → Stands s at (write_ty t) → RecordsWithin t → At_type s at t (HasDims s (at + 4) (get_or s (at + 2) 0))
  opening_has (ty (shape o c) k) h r = let p = shape-there s at _ _ _ h r in (refl, record { dims = o; there = p.first; counted = sym p.opening })

  pub opening_there : (t : Ty) → Stands s at (write_ty t) → RecordsWithin t → At_type s at t (DimsAt s (at + 4) (opening_of (shape_of t)) × (length (opening_of (shape_of t)) ≡ get_or s (at + 2) 0))
  opening_there (ty (shape o c) k) h r = let p = shape-there s at _ _ _ h r in (refl, (p.first, sym p.opening))

  -- by the counts: how long it is, whether it is closed, whether it is [..]
  pub shape_inside : (t : Ty) → Stands s at (write_ty t) → RecordsWithin t → At_type s at t (at + length (write_shape (shape_of t)) ≤ length s)
  shape_inside (ty (shape o c) k) h r = (refl, (shape-there s at _ _ _ h r).inside)

  pub shape_long : (t : Ty) → Stands s at (write_ty t) → RecordsWithin t → At_type s at t (4 + 8 * (get_or s (at + 2) 0 + list_count (get_or s (at + 3) 0)) ≡ length (write_shape (shape_of t)))
  shape_long (ty (shape o c) k) h r =
      let p = shape-there s at _ _ _ h r in
      let many : list_count (get_or s (at + 3) 0) ≡ length (list_of c) = ap list_count p.closing ∙ list_count_ok max_sizes (lit< tt) c p.second.records.0 in
      (refl, omega (arith, p.opening, p.long))

  pub closed_by_count : (t : Ty) → Stands s at (write_ty t) → RecordsWithin t → At_type s at t (eqb (get_or s (at + 3) 0) absent ≡ is_closed (shape_of t))
  closed_by_count (ty (shape o none) k) h r = (refl, rw (shape-there s at _ _ _ h r).closing)
  closed_by_count (ty (shape o (some c)) k) h r = let p = shape-there s at _ _ _ h r in (refl, rw p.closing (ne_eqb (length c) absent (λ e. omega (arith, p.within.0))))

  pub any_by_counts : (t : Ty) → Stands s at (write_ty t) → RecordsWithin t → At_type s at t ((eqb (get_or s (at + 2) 0) 0 && eqb (get_or s (at + 3) 0) 0) ≡ is_any (shape_of t))
  unfolding is_any
  any_by_counts (ty (shape [] none) k) h r = let p = shape-there s at _ _ _ h r in (refl, rw (p.opening, p.closing))
  any_by_counts (ty (shape [] (some [])) k) h r = let p = shape-there s at _ _ _ h r in (refl, rw (p.opening, p.closing))
  any_by_counts (ty (shape [] (some (x ∷ c))) k) h r = let p = shape-there s at _ _ _ h r in (refl, rw (p.opening, p.closing, ne_eqb (suc (length c)) 0 (λ z. omega arith)))
  any_by_counts (ty (shape (x ∷ o) c) k) h r = let p = shape-there s at _ _ _ h r in (refl, rw (p.opening, ne_eqb (suc (length o)) 0 (λ z. omega arith)))

  -- ---- where a call says that it is not closed, its closing sizes

  module _ {closed : Bool} (says : (d : ℕ) (t : Ty) → TypeAt s at d t → closed ≡ is_closed (shape_of t)) (left : closed ≡ false) (d : ℕ) where
    pub closing_has : HasType s at d → HasDims s (at + 4 + 8 * get_or s (at + 2) 0) (get_or s (at + 3) 0)
    closing_has h = go h.type h.there
      where
        go : (t : Ty) → TypeAt s at d t → HasDims s (at + 4 + 8 * get_or s (at + 2) 0) (get_or s (at + 3) 0)
        go (ty (shape o none) k) h = absurd (false≢true (sym left ∙ says d _ h))
        go (ty (shape o (some c)) k) h = let p = shape-there s at _ _ _ h.stands h.records in record { dims = c; there = rw p.opening p.second; counted = sym p.closing }

    pub shape_opened : {first second : List Dim} → ((d : ℕ) (t : Ty) → TypeAt s at d t → first ≡ opening_of (shape_of t)) → ((ds : List Dim) → DimsAt s (at + 4 + 8 * get_or s (at + 2) 0) ds → length ds ≡ get_or s (at + 3) 0 → second ≡ ds) →
        (t : Ty) → TypeAt s at d t → shape first (some second) ≡ shape_of t
    shape_opened opens closes (ty (shape o none) k) h = absurd (false≢true (sym left ∙ says d _ h))
    shape_opened opens closes (ty (shape o (some c)) k) h =
        let p = shape-there s at _ _ _ h.stands h.records in
        rw (opens d _ h, closes c (rw p.opening p.second) (sym p.closing))
