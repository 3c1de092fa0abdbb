-- Lists of puts and unfilled pervadings that leave one type: refused with 8 exactly where the puts ask for different sizes at an
-- index, which is exactly where no fitting real arrays get through; otherwise accepted.
use Rattle.std.specs.Prelude.{ℕ, false, List, [], ◌∷◌, ◌≡◌, refl}
use Rattle.std.proofs.Common.{arith, sym, ◌∙◌, ap}
use Rattle.std.proofs.Math.Option.{none, some}
use Rattle.std.proofs.Math.ListN.{get_elem?}
use Rattle.model.specs.Refusals.{unpervaded}
use Rattle.model.specs.Types.{Shape, Ty, shape_of}
use Rattle.model.specs.Within.{All}
use Rattle.rules.specs.Pervade.{pervade}
use Rattle.machine.specs.Steps.{Step}
use Rattle.machine.specs.Run.{Ruling, gives, refuses, Stack, steps}
use Rattle.machine.specs.WellFormed.{types_left, Heights}
use Rattle.machine.specs.Real.{RealShape, real_pervade, Feeds, real_run, Through}
use Rattle.orders.specs.Cells.{unnamed, differ, named_in, cell, cell_sure, real_sure}
use Rattle.orders.specs.Play.{laid_down, play, gather-play, play-one}
use Rattle.machine.specs.Conditions.{PutOrPervade}
use Rattle.orders.specs.PlaySteps.{moves, shapes, played_out, steps-play, enough-moves, feed_moves, real_play, enough_feeds}
use Rattle.orders.specs.Asked.{named_commutes, cell_commutes, opening_of, cell_at, said, asked, asked-said, pervade-cell, pervade-joins, real_at, real_asked, real_pervade-joins, asked-differ}
use Rattle.orders.specs.Witness.{witness, fits-witness, longest, witness-agrees}

-- A list of steps that the second half of demand 3 is about.
pub record Pervadings (xs : List Step) : Type 0 where
  pub only : All PutOrPervade xs
  pub heights : Heights xs 0
  pub one : types_left xs ≡ 1

-- ---- the checker

pub data Gathered (xs : List Step) : Type 0 where
  agrees : (t : Ty) → steps xs [] ≡ gives (t ∷ []) → play (pervade false false) (moves xs) [] ≡ some (shape_of t ∷ []) → ((i : ℕ) → cell_at i (shape_of t) ≡ said i (laid_down (moves xs))) → Gathered xs
  differs : (i : ℕ) → steps xs [] ≡ refuses unpervaded → asked i (laid_down (moves xs)) ≡ differ → Gathered xs

one_type : {C : Type 0} (a : Ruling Stack) (x : Shape) → shapes a ≡ gives (x ∷ []) → ((t : Ty) → a ≡ gives (t ∷ []) → shape_of t ≡ x → C) → C
one_type (refuses k) x e f = let z : ◌≡◌ {A = ℕ} 0 1 = cc in absurd (omega arith)
one_type (gives []) x e f = let z : ◌≡◌ {A = ℕ} 0 1 = cc in absurd (omega arith)
one_type (gives (t ∷ [])) x e f = f t refl (cc)
one_type (gives (t ∷ u ∷ st)) x e f = let z : ◌≡◌ {A = ℕ} 0 1 = cc in absurd (omega arith)

no-type : (a : Ruling Stack) → shapes a ≡ refuses unpervaded → a ≡ refuses unpervaded
no-type (refuses k) e = let w : k ≡ unpervaded = cc in rw w
no-type (gives st) e = let z : ◌≡◌ {A = ℕ} 0 1 = cc in absurd (omega arith)

pub gathered : (xs : List Step) → Pervadings xs → Gathered xs
gathered xs p =
    let (enough, left) = enough-moves xs 0 p.only p.heights in
    let same : shapes (steps xs []) ≡ played_out (play (pervade false false) (moves xs) []) = steps-play xs [] p.only p.heights in
    play-one named_commutes (pervade false false) pervade-joins (moves xs) enough (left ∙ p.one)
    (λ e (i, w). differs i (no-type (steps xs []) (same ∙ ap played_out e)) w)
    (λ x e w.
    one_type (steps xs []) x (same ∙ ap played_out e) λ t f g.
    agrees t f (rw g e) λ i. rw g (cell-one i x e))
  where
    cell-one : (i : ℕ) (x : Shape) → play (pervade false false) (moves xs) [] ≡ some (x ∷ []) → cell_at i x ≡ said i (laid_down (moves xs))
    cell-one i x e =
        sym (cell_commutes.comm (cell_at i x) (cell false false unnamed) ∙ cell_commutes.unital (cell_at i x))
        ∙ gather-play cell_commutes (cell_at i) (pervade false false) (pervade-cell i) (moves xs) [] (x ∷ []) e
        ∙ cell_commutes.unital (said i (laid_down (moves xs)))

-- Where the checker agrees, no two puts ask for different sizes.
pub agreed : (xs : List Step) (t : Ty) → ((i : ℕ) → cell_at i (shape_of t) ≡ said i (laid_down (moves xs))) → (i : ℕ) → asked i (laid_down (moves xs)) ≡ differ → ⊥
agreed xs t w i e = cell_sure (get_elem? (opening_of (shape_of t)) i) (ap named_in (w i) ∙ sym (asked-said i (laid_down (moves xs))) ∙ e)

-- ---- the real run

module _ (xs : List Step) (p : Pervadings xs) (f : Feeds xs) where
  real_one : {C : Type 0}
      → (real_run xs f [] ≡ none → (i : ℕ) × (real_asked i (laid_down (feed_moves xs f)) ≡ differ) → C)
      → ((r : RealShape) → real_run xs f [] ≡ some (r ∷ []) → ((i : ℕ) → real_at i r ≡ real_asked i (laid_down (feed_moves xs f))) → C)
      → C
  real_one k l =
      let (enough, left) = enough_feeds xs f 0 p.only p.heights in
      let same = real_play xs f [] p.only in
      play-one named_commutes (real_pervade false false) real_pervade-joins (feed_moves xs f) enough (left ∙ p.one)
      (λ e w. k (same ∙ e) w)
      (λ r e w. l r (same ∙ e) w)

  pub real_stops : (i : ℕ) → real_asked i (laid_down (feed_moves xs f)) ≡ differ → real_run xs f [] ≡ none
  real_stops i e = real_one (λ k w. k) (λ r k w. absurd (real_sure (get_elem? r i) (w i ∙ e)))

  pub real_through : ((i : ℕ) → real_asked i (laid_down (feed_moves xs f)) ≡ differ → ⊥) → (r : RealShape) × (real_run xs f [] ≡ some (r ∷ []))
  real_through sure = real_one (λ k w. absurd (sure w.0 w.1)) (λ r k w. (r, k))

-- ---- the two together

-- Accepted, and real arrays get through; or refused with 8, and none do. There is no third answer.
pub data Decided (xs : List Step) : Type 0 where
  passes : (t : Ty) → steps xs [] ≡ gives (t ∷ []) → (f : Feeds xs) (r : RealShape) → Through xs f (r ∷ []) → Decided xs
  fails : steps xs [] ≡ refuses unpervaded → ((f : Feeds xs) (left : List RealShape) → Through xs f left → ⊥) → Decided xs

pub decided : (xs : List Step) → Pervadings xs → Decided xs
decided xs p = go (gathered xs p)
  where
    go : Gathered xs → Decided xs
    go (agrees t e q w) =
        let (r, k) = real_through xs p (witness xs (longest (laid_down (moves xs)))) (witness-agrees xs (agreed xs t w)) in
        passes t e (witness xs (longest (laid_down (moves xs)))) r (record { fit = fits-witness xs (longest (laid_down (moves xs))); run = k })
    go (differs i e w) = fails e λ f left h.
        let k = real_stops xs p f i (asked-differ xs f i h.fit w) in
        let l = h.run in
        let z : ◌≡◌ {A = ℕ} 0 1 = cc in omega arith
