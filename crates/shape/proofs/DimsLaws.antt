-- Lists of sizes by value, index by index: what stands at one, a list that a walk builds, and indices that pass, from the end on.
use Prim.Native.Nat.{ℕ, zero, suc, ◌+◌, ◌-◌, ◌≤◌, ◌<◌, max, min}
use native.Mathlib.Omega.{arith}
use native.Mathlib.Numerals.{add-one, one-add}
use mathlib.Core.Bool.{Bool, true, false}
use mathlib.Core.List.{List, [], ◌∷◌, ◌++◌, map}
use mathlib.Core.Option.{Option, none, some}
use mathlib.Core.Path.{◌≡◌, refl, sym, ◌∙◌, ap, subst}
use lib.Dec.{eqb}
use lib.ListN.{length, take, drop, get_or, set, get_elem?}
pub use lib.ListN.{length-drop, length-set}
use lib.Seq.{take-suc, take-length, get_or-drop}
use borrow.Author.Tests.{eqb-true, eqb-false}
use Rattle.std.specs.Prelude as code
use Rattle.std.specs.Prelude.{Some, None, unwrap_or}
use Rattle.model.specs.Limits.{ones}
use Rattle.model.specs.Types.{Dim, unknown}
use Rattle.format.specs.Records.{dim_of}
use Rattle.record.specs.Answers.{dims_of}
use Rattle.record.specs.declared.Dims.{Dims}
use Rattle.record.proofs.ByValue.{size-at, one_more}
use Rattle.rules.specs.Sizes.{row_compatible, join_dim}
use Rattle.rules.specs.Shapes.{says_yes, says_no, compatible_dims, merge_dims, join_dims, join_ends}
use Rattle.rules.proofs.CompatibleLaws.{Passes, is_so_once}
pub use Rattle.rules.proofs.ShapesLaws.{merge_length, join-length, join_ends-length}
use Rattle.rules.specs.ShapesSteps.{merge_at, from_end}
use Rattle.rules.proofs.ShapesSteps.{merge-at, join-at, join_ends-at}
use Rattle.rules.proofs.Lists.{get_elem?_in, get_elem?-out}
use Rattle.shape.specs.Answers.{spot_of}

-- ---- what stands at an index

pub slot_there : (sizes : List ℕ) (n i : ℕ) → i < length (map dim_of (take n sizes)) → some (dim_of (get_or sizes i 0)) ≡ get_elem? (map dim_of (take n sizes)) i
slot_there sizes n i h =
    let d : Dims = record { sizes = sizes; count = n } in
    sym (get_elem?_in (dims_of d) i unknown h ∙ ap some (sym (size-at d i h)))

pub slot_past : (l : List Dim) (i : ℕ) → length l ≤ i → none ≡ get_elem? l i
slot_past l i h = sym (get_elem?-out l i h)

pub size_there : (sizes : List ℕ) (n i : ℕ) → i < length (map dim_of (take n sizes)) → dim_of (get_or sizes i 0) ≡ get_or (map dim_of (take n sizes)) i unknown
size_there sizes n i h = size-at (record { sizes = sizes; count = n }) i h

slot_size : (l : List Dim) (i : ℕ) (z : Dim) {d : Dim} → some d ≡ get_elem? l i → d ≡ get_or l i z
slot_size [] i z e = cc
slot_size (x ∷ l) zero z e = cc
slot_size (x ∷ l) (suc i) z e = slot_size l i z e

slot_none : (l : List Dim) (i : ℕ) (z : Dim) → none ≡ get_elem? l i → z ≡ get_or l i z
slot_none [] i z e = refl
slot_none (x ∷ l) zero z e = cc
slot_none (x ∷ l) (suc i) z e = slot_none l i z e

pub slot_or_unknown : (l : List Dim) (i : ℕ) (o : code.Option ℕ) → spot_of o ≡ get_elem? l i → dim_of (unwrap_or o ones) ≡ get_or l i unknown
slot_or_unknown l i None e = slot_none l i unknown e
slot_or_unknown l i (Some n) e = slot_size l i unknown e

-- ---- where nothing stands on the one side, what stands on the other, or the unknown

size_or_unknown : (l : List Dim) (i : ℕ) → get_or l i unknown ≡ merge_at none (get_elem? l i)
size_or_unknown [] i = refl
size_or_unknown (x ∷ l) zero = refl
size_or_unknown (x ∷ l) (suc i) = size_or_unknown l i

pub merge_absent : (o p : List Dim) (i : ℕ) → none ≡ get_elem? o i → get_or p i unknown ≡ merge_at (get_elem? o i) (get_elem? p i)
merge_absent o p i e = rw (← e) (size_or_unknown p i)

-- ---- a list built in a walk through all eight places, which leaves those past the count n alone

-- Those of the first i places that are the list's hold its sizes.
unfoldable pub Listed : List Dim → ℕ → List ℕ → ℕ → Type 0
Listed l n sizes i = map dim_of (take (min i n) sizes) ≡ take (min i n) l

module _ (l : List Dim) (n : ℕ) (sizes : List ℕ) where
  as_far : ℕ → Type 0
  as_far k = map dim_of (take k sizes) ≡ take k l

  pub listed_none : Listed l n sizes 0
  unfolding Listed as_far
  listed_none =
      let none_yet : 0 ≡ min 0 n = omega arith in
      subst as_far none_yet refl

  pub listed_more : (i v : ℕ) → Listed l n sizes i → i < n → n ≡ length l → i < length sizes → dim_of v ≡ get_or l i unknown → Listed l n (set sizes i v) (i + 1)
  unfolding Listed as_far
  listed_more i v f h k room e =
      let here : min i n ≡ i = omega arith in
      let there : i + 1 ≡ min (i + 1) n = omega arith in
      let before : as_far i = subst as_far here f in
      subst (λ k. map dim_of (take k (set sizes i v)) ≡ take k l) there
      (one_more sizes i v room ∙ ap (λ r. r ++ (dim_of v ∷ [])) before ∙ rw (add-one, take-suc l i unknown (omega arith), e))

  pub listed_past : (i : ℕ) → Listed l n sizes i → n ≤ i → Listed l n sizes (i + 1)
  unfolding Listed as_far
  listed_past i f h =
      let there : min i n ≡ min (i + 1) n = omega arith in
      subst as_far there f

  pub listed_all : (i : ℕ) → Listed l n sizes i → n ≤ i → n ≡ length l → map dim_of (take n sizes) ≡ l
  unfolding Listed as_far
  listed_all i f h e =
      let whole : min i n ≡ n = omega arith in
      subst as_far whole f ∙ rw e (take-length l)

pub ruleset listing = (length-set, listed_none, listed_more, listed_past, listed_all)

-- ---- what stands at an index of each

module _ (o p : List Dim) (i : ℕ) where
  pub merged_at : i < max (length o) (length p) → merge_at (get_elem? o i) (get_elem? p i) ≡ get_or (merge_dims o p) i unknown
  merged_at h = sym (merge-at i o p unknown h)

  pub joined_at : i < min (length o) (length p) → join_dim (get_or o i unknown) (get_or p i unknown) ≡ get_or (join_dims o p) i unknown
  joined_at h = sym (join-at i o p unknown (omega arith) (omega arith))

  pub ended_at : i < max (length o) (length p) → join_dim (from_end i o) (from_end i p) ≡ get_or (join_ends o p) i unknown
  ended_at h = sym (join_ends-at i o p h)

pub ruleset merging = (listing, merge_length, merged_at)

pub ruleset joining = (listing, join-length, joined_at)

pub ruleset joining_ends = (listing, join_ends-length, ended_at)

-- ---- all but the first

pub rest_none : (l : List Dim) → length l ≡ 0 → l ≡ drop 1 l
rest_none [] e = refl
rest_none (d ∷ l) e = absurd (omega arith)

pub rest_at : (l : List Dim) (i : ℕ) → get_or l (i + 1) unknown ≡ get_or (drop 1 l) i unknown
rest_at l i = sym (get_or-drop 1 l i unknown ∙ rw (one-add, ← (add-one i)))

pub ruleset resting = (listing, length-drop, rest_at, rest_none)

-- ---- `compatible_with`, from the end to the front

module _ (o p : List Dim) where
  -- The last n indices pass.
  unfoldable pub LastPass : ℕ → Type 0
  LastPass n = (j : ℕ) → length o ≤ j + n → j < length o → Passes o p j

  pub counts_differ : (length o ≡ length p → ⊥) → says_no none ≡ compatible_dims o p
  counts_differ h = is_so_once o p (says_no none) h

  pub pass_none : LastPass 0
  unfolding LastPass
  pass_none j h k = absurd (omega arith)

  pub pass_all : LastPass (length o) → length o ≡ length p → says_yes ≡ compatible_dims o p
  unfolding LastPass
  pass_all passed counts = is_so_once o p says_yes (counts, λ j h. passed j (omega arith) h)

  -- the index in front of those, by what stands there
  module _ (n : ℕ) (passed : LastPass n) (inside : n < length o) where
    pub pass_more : row_compatible (get_or o (length o - 1 - n) unknown) (get_or p (length o - 1 - n) unknown) ≡ true → LastPass (n + 1)
    unfolding LastPass
    pass_more here j h l = go (eqb j (length o - 1 - n)) refl
      where
        go : (t : Bool) → eqb j (length o - 1 - n) ≡ t → Passes o p j
        go true same = rw (eqb-true j (length o - 1 - n) same) here
        go false other = let not_here = eqb-false j (length o - 1 - n) other in passed j (omega arith) l

    pub pass_stop : row_compatible (get_or o (length o - 1 - n) unknown) (get_or p (length o - 1 - n) unknown) ≡ false → length o ≡ length p → says_no (some (length o - 1 - n)) ≡ compatible_dims o p
    unfolding LastPass
    pass_stop here counts = is_so_once o p (says_no (some (length o - 1 - n)))
        (record { counts = counts; inside = omega arith; fails = here; behind = λ j m l. passed j (omega arith) l })

pub ruleset comparing = (size_there, counts_differ, pass_none, pass_all, pass_more, pass_stop)
