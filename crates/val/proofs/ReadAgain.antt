-- What `ty` and `spec` of a value write can be read again: the type that they answer keeps every limit of document 01, "Record bytes",
-- so that its bytes are those of a lone type, that type. Of a type handed in as bytes it is so because it was read.
use Rattle.std.specs.Prelude.{ℕ, suc, ◌*◌, ◌/◌, ◌%◌, ◌≤◌, Bool, true, false, cond, List, [], ◌∷◌, map, ◌≡◌, refl, eqb, leb, ltb, Float, length}
use Rattle.std.proofs.Common.{arith, leb-true, ltb-false}
use Rattle.std.proofs.Math.Option.{none}
use Rattle.std.specs.Float.{nan, inf, fin}
use Rattle.std.specs.Float.Ieee.{up, down}
use Rattle.model.specs.Limits.{max_size, ones, max_sizes}
use Rattle.model.specs.Refusals.{out_of_range, oversized, not_a_size}
use Rattle.model.specs.Types.{Dim, static, unknown, shape, Kind, num, any, plain, Ty, ty, inside, below}
use Rattle.model.specs.Within.{All, DimWithin, DimsWithin, Within}
use Rattle.format.specs.Reader.{Bytes}
use Rattle.format.specs.Records.{dim_of, write_ty}
use Rattle.format.specs.Outcome.{Outcome, accepted, refused, mapped, bound, lone}
use Rattle.format.specs.ReadWrite.{lone_write}
use Rattle.format.specs.WriteRead.{write_lone}
use Rattle.number.specs.Class.{Class, not_a_number, infinite, fraction, whole, larger, class_of, magnitude}
use Rattle.number.specs.Size.{SizeOutcome, size, unknown as unknown_size, refused as no_size_given, size_of, listed_dim}
use Rattle.number.specs.Sizes.{SizesOutcome, sizes, refused_at, before, at_index, sizes_from, listed_dims}
use Rattle.val.specs.declared.Value as declared
use Rattle.val.specs.declared.Value.TheVariants.{Num, List as Listed, Of}
use Rattle.val.specs.Values.{Value, number, numbers, typed, length_dim, num_ty, numbers_ty, value_ty, dim_alone, dims_listed, any_sized, any_of_size, value_spec}
use Rattle.val.specs.Answers.{value_of}

-- ---- types of numbers

-- a plain kind under a closed shape
closed-within : (ds : List Dim) (k : Kind) → DimsWithin ds → Within (ty (shape ds none) (plain k))
unfolding inside below
closed-within ds k h = record { records = ((h, tt), tt); few = omega arith; shallow = omega arith }

one-within : (d : Dim) (k : Kind) → DimWithin d → Within (ty (shape (d ∷ []) none) (plain k))
one-within d k h = closed-within (d ∷ []) k (omega arith, (h, tt))

-- ---- the size that a number stands for

-- A number that is whole is at most 2^53.
whole-small : (x : Float) (s : Bool) → class_of x ≡ whole s → magnitude x ≤ max_size
whole-small nan s e = omega arith
whole-small (inf t) s e = omega arith
whole-small (fin t m e) s h = go (eqb (m * up e % down e) 0) (leb (m * up e / down e) max_size) refl h
  where
    go : (a b : Bool) → leb (m * up e / down e) max_size ≡ b → cond a (cond b (whole t) (larger t)) fraction ≡ whole s → m * up e / down e ≤ max_size
    go a true l h = leb-true (m * up e / down e) max_size l
    go true false l h = let z : ◌≡◌ {A = ℕ} 0 1 = cc in absurd (omega arith)
    go false false l h = let z : ◌≡◌ {A = ℕ} 0 1 = cc in absurd (omega arith)

size_small : (x : Float) (n : ℕ) → listed_dim x ≡ size n → n ≤ max_size
size_small x n e = go (class_of x) refl e
  where
    at-whole : (s a b : Bool) → magnitude x ≤ max_size → cond a (size 0) (cond b (no_size_given not_a_size) (size (magnitude x))) ≡ size n → n ≤ max_size
    at-whole s true b h e = let w : 0 ≡ n = cc in omega arith
    at-whole s false true h e = let z : ◌≡◌ {A = ℕ} 0 1 = cc in absurd (omega arith)
    at-whole s false false h e = let w : magnitude x ≡ n = cc in omega arith

    at_other : (s : Bool) (a b : SizeOutcome) → cond s a b ≡ size n → (a ≡ size n → n ≤ max_size) → (b ≡ size n → n ≤ max_size) → n ≤ max_size
    at_other true a b e h k = h e
    at_other false a b e h k = k e

    go : (c : Class) → class_of x ≡ c → size_of (no_size_given not_a_size) c (magnitude x) ≡ size n → n ≤ max_size
    go not_a_number f e = let z : ◌≡◌ {A = ℕ} 0 1 = cc in absurd (omega arith)
    go (infinite s) f e = at_other s (no_size_given not_a_size) unknown_size e (λ w. let z : ◌≡◌ {A = ℕ} 0 1 = cc in absurd (omega arith)) (λ w. let z : ◌≡◌ {A = ℕ} 0 1 = cc in absurd (omega arith))
    go fraction f e = let z : ◌≡◌ {A = ℕ} 0 1 = cc in absurd (omega arith)
    go (whole s) f e = at-whole s (eqb (magnitude x) 0) s (whole-small x s f) e
    go (larger s) f e = at_other s (no_size_given not_a_size) (no_size_given oversized) e (λ w. let z : ◌≡◌ {A = ℕ} 0 1 = cc in absurd (omega arith)) (λ w. let z : ◌≡◌ {A = ℕ} 0 1 = cc in absurd (omega arith))

alone-within : (x : Float) (o : SizeOutcome) → listed_dim x ≡ o → (d : Dim) → dim_alone o ≡ accepted d → DimWithin d
alone-within x (size n) f d e = let w : static n ≡ d = cc in rw (← w) (size_small x n f)
alone-within x unknown_size f d e = let w : unknown ≡ d = cc in rw (← w) tt
alone-within x (no_size_given k) f d e = let z : ◌≡◌ {A = ℕ} 0 1 = cc in absurd (omega arith)

-- ---- the sizes of a list

small-within : (n : ℕ) → n ≤ max_size → DimWithin (dim_of n)
small-within n h = go (eqb n ones)
  where
    go : (b : Bool) → DimWithin (cond b unknown (static n))
    go true = tt
    go false = h

-- as many as the numbers, and each a size
record EachSized (xs : List Float) (ns : List ℕ) : Type 0 where
  many : length (map dim_of ns) ≡ length xs
  each : All DimWithin (map dim_of ns)

sized_cons : (x : Float) (xs : List Float) (n : ℕ) (rest : SizesOutcome) (ns : List ℕ) → DimWithin (dim_of n) → ((ms : List ℕ) → rest ≡ sizes ms → EachSized xs ms) → before n rest ≡ sizes ns → EachSized (x ∷ xs) ns
sized_cons x xs n (sizes ms) ns h k e =
    let w : n ∷ ms ≡ ns = cc in
    let s = k ms refl in
    rw (← w) record { many = omega (arith, s.many); each = (h, s.each) }
sized_cons x xs n (refused_at j p) ns h k e = let z : ◌≡◌ {A = ℕ} 0 1 = cc in absurd (omega arith)

sizes-within : (xs : List Float) (i : ℕ) (ns : List ℕ) → sizes_from i xs ≡ sizes ns → EachSized xs ns
unfolding sizes_from
sizes-within [] i ns e = let w : [] ≡ ns = cc in rw (← w) record { many = refl; each = tt }
sizes-within (x ∷ xs) i ns e = go (listed_dim x) refl e (λ ms f. sizes-within xs (suc i) ms f)
  where
    go : (o : SizeOutcome) → listed_dim x ≡ o → at_index i o (sizes_from (suc i) xs) ≡ sizes ns → ((ms : List ℕ) → sizes_from (suc i) xs ≡ sizes ms → EachSized xs ms) → EachSized (x ∷ xs) ns
    go (size n) f e k = sized_cons x xs n (sizes_from (suc i) xs) ns (small-within n (size_small x n f)) k e
    go unknown_size f e k = sized_cons x xs ones (sizes_from (suc i) xs) ns tt k e
    go (no_size_given j) f e k = let z : ◌≡◌ {A = ℕ} 0 1 = cc in absurd (omega arith)

listed-within : (xs : List Float) (ds : List Dim) → dims_listed (listed_dims xs) ≡ accepted ds → DimsWithin ds
listed-within xs ds e = go (ltb max_sizes (length xs)) refl e
  where
    by : (o : SizesOutcome) → sizes_from 0 xs ≡ o → length xs ≤ max_sizes → dims_listed o ≡ accepted ds → DimsWithin ds
    by (sizes ns) f h e =
        let w : map dim_of ns ≡ ds = cc in
        let s = sizes-within xs 0 ns f in
        rw (← w) (omega (arith, s.many), s.each)
    by (refused_at k p) f h e = let z : ◌≡◌ {A = ℕ} 0 1 = cc in absurd (omega arith)

    go : (b : Bool) → ltb max_sizes (length xs) ≡ b → dims_listed (cond b (refused_at out_of_range 0) (sizes_from 0 xs)) ≡ accepted ds → DimsWithin ds
    go true f e = let z : ◌≡◌ {A = ℕ} 0 1 = cc in absurd (omega arith)
    go false f e = by (sizes_from 0 xs) refl (ltb-false max_sizes (length xs) f) e

-- ---- `ty` and `spec`

-- A value is no type, or a type within the limits.
abbrev pub ValueWithin : Value → Type 0
ValueWithin (number x) = Unit {0}
ValueWithin (numbers xs) = Unit {0}
ValueWithin (typed t) = Within t

-- what a rule makes of an accepted value
from-accepted : {A B : Type 0} (f : A → B) (P : B → Type 0) (o : Outcome A) → ((a : A) → o ≡ accepted a → P (f a)) → (b : B) → mapped f o ≡ accepted b → P b
from-accepted f P (accepted a) h b e = let w : f a ≡ b = cc in rw (← w) (h a refl)
from-accepted f P (refused k p) h b e = let z : ◌≡◌ {A = ℕ} 0 1 = cc in absurd (omega arith)

length-within : (xs : List Float) (d : Dim) → length_dim xs ≡ accepted d → DimWithin d
unfolding length_dim
length-within xs d e = go (leb (length xs) max_size) refl e
  where
    go : (b : Bool) → leb (length xs) max_size ≡ b → cond b (accepted (static (length xs))) (refused oversized 0) ≡ accepted d → DimWithin d
    go true f e = let w : static (length xs) ≡ d = cc in rw (← w) (leb-true (length xs) max_size f)
    go false f e = let z : ◌≡◌ {A = ℕ} 0 1 = cc in absurd (omega arith)

pub ty-within : (v : Value) → ValueWithin v → (t : Ty) → value_ty v ≡ accepted t → Within t
unfolding value_ty
ty-within (number x) h t e = let w : num_ty ≡ t = cc in rw (← w) (closed-within [] num (omega arith, tt))
ty-within (numbers xs) h t e = from-accepted numbers_ty Within (length_dim xs) (λ d f. one-within d num (length-within xs d f)) t e
ty-within (typed u) h t e = let w : u ≡ t = cc in rw (← w) h

pub spec-within : (v : Value) → ValueWithin v → (t : Ty) → value_spec v ≡ accepted t → Within t
unfolding value_spec
spec-within (number x) h t e = from-accepted any_of_size Within (dim_alone (listed_dim x)) (λ d f. one-within d any (alone-within x (listed_dim x) refl d f)) t e
spec-within (numbers xs) h t e = from-accepted any_sized Within (dims_listed (listed_dims xs)) (λ ds f. closed-within ds any (listed-within xs ds f)) t e
spec-within (typed u) h t e = let w : u ≡ t = cc in rw (← w) h

-- ---- values handed in

-- Of any bytes, a value that is handed in is within the limits.
pub handed-within : (v : declared.Value) (list : List Float) (bytes : List ℕ) → Bytes bytes → (w : Value) → value_of v list bytes ≡ accepted w → ValueWithin w
handed-within (Num x) list bytes small w e = let h : number x ≡ w = cc in rw (← h) tt
handed-within Listed list bytes small w e = let h : numbers list ≡ w = cc in rw (← h) tt
handed-within Of list bytes small w e = from-accepted typed ValueWithin (lone bytes) (λ t f. (lone_write bytes small t f).1) w e

module _ (v : declared.Value) (list : List Float) (bytes : List ℕ) (small : Bytes bytes) where
  again : (f : Value → Outcome Ty) → ((w : Value) → ValueWithin w → (t : Ty) → f w ≡ accepted t → Within t) → (t : Ty) → bound f (value_of v list bytes) ≡ accepted t → lone (write_ty t) ≡ accepted t
  again f h t e = go (value_of v list bytes) refl e
    where
      go : (o : Outcome Value) → value_of v list bytes ≡ o → bound f o ≡ accepted t → lone (write_ty t) ≡ accepted t
      go (accepted w) g e = write_lone t (h w (handed-within v list bytes small w g) t e)
      go (refused k p) g e = let z : ◌≡◌ {A = ℕ} 0 1 = cc in absurd (omega arith)

  -- What `ty` writes is read as the type that it answers, and what `spec` writes too.
  pub ty-again : (t : Ty) → bound value_ty (value_of v list bytes) ≡ accepted t → lone (write_ty t) ≡ accepted t
  ty-again t e = again value_ty ty-within t e

  pub spec-again : (t : Ty) → bound value_spec (value_of v list bytes) ≡ accepted t → lone (write_ty t) ≡ accepted t
  spec-again t e = again value_spec spec-within t e
