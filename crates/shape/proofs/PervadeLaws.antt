-- Pervading: the walk over the indices, closing lists, and which pervading is asked for.
use Prim.Native.Nat.{ℕ, suc, ◌+◌, ◌<◌, max}
use native.Mathlib.Numerals.{add-one}
use native.Mathlib.Omega.{arith}
use mathlib.Core.Bool.{Bool, true, false, not, cond}
use mathlib.Core.List.{List, map, [], ◌∷◌}
use mathlib.Core.Option.{Option, none, some}
use mathlib.Core.Path.{◌≡◌, sym, ◌∙◌, ap, refl}
use lib.ListN.{length, take, drop, get_or, set, get_elem?, length-map}
pub use lib.ListN.{length-set}
use lib.Seq.{length-take-le}
use lib.Dec.{ltb}
use borrow.Author.Tests.{ltb-true, ltb-false}
use Rattle.std.specs.Prelude.{Result, Ok, Err}
use Rattle.std.specs.Result.{result_ok}
use Rattle.model.specs.Types.{Dim, shape}
use Rattle.format.specs.Records.{dim_of}
use Rattle.record.specs.Answers.{dims_of}
use Rattle.record.specs.declared.Dims.{Dims}
use Rattle.record.proofs.ByValue.{one_more}
use Rattle.rules.specs.Shapes.{is_open}
use Rattle.rules.specs.Pervade.{IndexRule, pervade_at, Pervaded, sizes, clash, then_rest, walk, pervade_closing, closed_by, pervade}
use Rattle.rules.specs.PervadeInSheets.{in_sheets_at, pervade_in_sheets}
use Rattle.rules.proofs.PervadeSteps.{walk_step, walk_end, after, after-start, after_more, after_stop, after-end}
use Rattle.shape.specs.Answers.{pervade_as, any_grows, rule_for, dims_pervaded_of, closed_pervaded_of}
use Rattle.shape.specs.declared.Filling.{Filling}
use Rattle.shape.specs.declared.Pervading.{Pervading}
use Rattle.shape.specs.declared.Pervading.TheVariants.{Separate, InSheets}
use Rattle.shape.proofs.DimsLaws.{slot_there, slot_past}

-- ---- what stands at an index, as the walk looks at it

pub spot_there : (numbers : List ℕ) (n i : ℕ)
    → cond (ltb i (length (map dim_of (take n numbers)))) (some (dim_of (get_or numbers i 0))) none ≡ get_elem? (map dim_of (take n numbers)) i
spot_there numbers n i = go (ltb i (length (map dim_of (take n numbers)))) refl
  where
    go : (t : Bool) → ltb i (length (map dim_of (take n numbers))) ≡ t → cond t (some (dim_of (get_or numbers i 0))) none ≡ get_elem? (map dim_of (take n numbers)) i
    go true h = slot_there numbers n i (ltb-true i (length (map dim_of (take n numbers))) h)
    go false h = slot_past (map dim_of (take n numbers)) i (ltb-false i (length (map dim_of (take n numbers))) h)

-- ---- the walk over the indices

module _ (rule : IndexRule) (o p : List Dim) where
  -- What the first i indices gave stands in front of what the others give.
  unfoldable pub Walked : List ℕ → ℕ → Type 0
  Walked done i = walk rule o p ≡ after (map dim_of (take i done)) (walk rule (drop i o) (drop i p))

  module _ (done : List ℕ) where
    pub walk_none : Walked done 0
    unfolding Walked
    walk_none = sym (after-start (walk rule o p))

    module _ (i : ℕ) (w : Walked done i) where
      pub walk_whole : i ≡ max (length o) (length p) → sizes (map dim_of (take i done)) ≡ walk rule o p
      unfolding Walked
      walk_whole e = sym (w ∙ ap (after (map dim_of (take i done))) (walk_end rule i o p (omega arith)) ∙ after-end (map dim_of (take i done)))

      -- what the indices past i give
      abbrev rest : Pervaded
      rest = walk rule (drop (suc i) o) (drop (suc i) p)

      module _ (h : i < max (length o) (length p)) (room : i < length done) where
        index : walk rule o p ≡ after (map dim_of (take i done)) (then_rest (rule (get_elem? o i) (get_elem? p i)) rest)
        unfolding Walked
        index = w ∙ rw (walk_step rule i o p h)

        pub walk_more : (v : ℕ) → some (dim_of v) ≡ rule (get_elem? o i) (get_elem? p i) → Walked (set done i v) (i + 1)
        unfolding Walked
        walk_more v u =
            index
            ∙ ap (λ c. after (map dim_of (take i done)) (then_rest c rest)) (sym u)
            ∙ after_more (map dim_of (take i done)) (dim_of v) rest
            ∙ rw (one_more done i v room, add-one)

        pub walk_stop : none ≡ rule (get_elem? o i) (get_elem? p i) → clash i ≡ walk rule o p
        walk_stop u =
            sym
            (index
            ∙ ap (λ c. after (map dim_of (take i done)) (then_rest c rest)) (sym u)
            ∙ after_stop (map dim_of (take i done)) rest
            ∙ ap clash (length-map (take i done) dim_of ∙ length-take-le i done (omega arith)))

pub ruleset walking = (length-set, spot_there, walk_none, walk_more, walk_stop, walk_whole)

-- ---- closing sizes

module _ (closed : Bool) (l : List Dim) where
  pub closing_first : (d : Option (List Dim)) → closed ≡ true → pervade_closing (cond closed none (some l)) d ≡ d
  unfolding pervade_closing
  closing_first d e = rw e

  module _ (other : Bool) (m : List Dim) (e : closed ≡ false) where
    pub closing_second : other ≡ true → pervade_closing (cond closed none (some l)) (cond other none (some m)) ≡ some l
    unfolding pervade_closing
    closing_second f = rw (e, f)

    module _ (f : other ≡ false) where
      pub closing_empty : length l ≡ 0 → pervade_closing (cond closed none (some l)) (cond other none (some m)) ≡ some m
      unfolding pervade_closing
      closing_empty h = rw (e, f) (go l h)
        where
          go : (l : List Dim) → length l ≡ 0 → pervade_closing (some l) (some m) ≡ some m
          go [] h = refl
          go (x ∷ l) h = absurd (omega arith)

      module _ (h : length l ≡ 0 → ⊥) where
        pub closing_named : length m ≡ 0 → pervade_closing (cond closed none (some l)) (cond other none (some m)) ≡ some l
        unfolding pervade_closing
        closing_named k = rw (e, f) (go l m h k)
          where
            go : (l m : List Dim) → (length l ≡ 0 → ⊥) → length m ≡ 0 → pervade_closing (some l) (some m) ≡ some l
            go [] m h k = absurd (h refl)
            go (x ∷ l) [] h k = refl
            go (x ∷ l) (y ∷ m) h k = absurd (omega arith)

        pub closing_twice : (length m ≡ 0 → ⊥) → pervade_closing (cond closed none (some l)) (cond other none (some m)) ≡ some []
        unfolding pervade_closing
        closing_twice k = rw (e, f) (go l m h k)
          where
            go : (l m : List Dim) → (length l ≡ 0 → ⊥) → (length m ≡ 0 → ⊥) → pervade_closing (some l) (some m) ≡ some []
            go [] m h k = absurd (h refl)
            go (x ∷ l) [] h k = absurd (k refl)
            go (x ∷ l) (y ∷ m) h k = refl

pub no_sizes : (numbers : List ℕ) (n : ℕ) → n ≡ 0 → map dim_of (take n numbers) ≡ []
no_sizes numbers n e = rw e

pub ruleset closing = (closing_first, closing_second, closing_empty, closing_named, closing_twice, no_sizes)

-- ---- which pervading is asked for: where no side is filled the two are one

-- the walk of two shapes, by whether any size may grow
abbrev pub filling : Bool → Bool → Bool → Bool → Bool → Filling
filling f g closed other grows = record { a_fill = f; b_fill = g; a_open = not closed; b_open = not other; grows = grows }

-- An open shape is one that is not closed.
open_not : (closed : Bool) (l : List Dim) → is_open (cond closed none (some l)) ≡ not closed
open_not true l = refl
open_not false l = refl

module _ (f g : Bool) (v : Pervading) where
  by_rule : (o p : List Dim) (c d : Option (List Dim))
      → closed_by (pervade_closing c d) (walk (λ x y. cond (any_grows v f g) (in_sheets_at f g (is_open c) (is_open d) x y) (pervade_at f g x y)) o p) ≡ pervade_as v f g (shape o c) (shape p d)
  unfolding in_sheets_at pervade_in_sheets pervade
  by_rule o p c d = go f g v
    where
      go : (f g : Bool) (v : Pervading)
          → closed_by (pervade_closing c d) (walk (λ x y. cond (any_grows v f g) (in_sheets_at f g (is_open c) (is_open d) x y) (pervade_at f g x y)) o p) ≡ pervade_as v f g (shape o c) (shape p d)
      go f g Separate = refl
      go true g InSheets = refl
      go false true InSheets = refl
      go false false InSheets = refl

  module _ (o p : List Dim) (closed other : Bool) (l m : List Dim) {grows : Bool} (e : grows ≡ any_grows v f g) where
    pervaded : closed_by (pervade_closing (cond closed none (some l)) (cond other none (some m))) (walk (rule_for (filling f g closed other grows)) o p)
        ≡ pervade_as v f g (shape o (cond closed none (some l))) (shape p (cond other none (some m)))
    pervaded = rw (e, ← open_not closed l, ← open_not other m) (by_rule o p (cond closed none (some l)) (cond other none (some m)))

    pub pervaded_stops : (i : ℕ) → clash i ≡ walk (rule_for (filling f g closed other grows)) o p → none ≡ pervade_as v f g (shape o (cond closed none (some l))) (shape p (cond other none (some m)))
    pervaded_stops i w = ap (closed_by (pervade_closing (cond closed none (some l)) (cond other none (some m)))) w ∙ pervaded

    pub pervaded_goes : (r : List Dim) → sizes r ≡ walk (rule_for (filling f g closed other grows)) o p
        → some (shape r (pervade_closing (cond closed none (some l)) (cond other none (some m)))) ≡ pervade_as v f g (shape o (cond closed none (some l))) (shape p (cond other none (some m)))
    pervaded_goes r w = ap (closed_by (pervade_closing (cond closed none (some l)) (cond other none (some m)))) w ∙ pervaded

  pub pervaded_closed : (o p : List Dim) (r : Result Dims ℕ) {grows : Bool} → grows ≡ any_grows v f g → dims_pervaded_of r ≡ walk (rule_for (filling f g true true grows)) o p
      → closed_pervaded_of (result_ok r) ≡ pervade_as v f g (shape o none) (shape p none)
  unfolding pervade_closing
  pervaded_closed o p (Ok d) e w = pervaded_goes o p true true [] [] e (dims_of d) w
  pervaded_closed o p (Err i) e w = pervaded_stops o p true true [] [] e i w
