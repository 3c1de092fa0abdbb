-- Another order or grouping of the same puts: the same verdict and, where at most two puts name closing sizes, the same shape.
use Rattle.std.specs.Prelude.{ℕ, ◌≤◌, min, true, cond, List, [], ◌∷◌, map, ◌≡◌, refl}
use Rattle.std.proofs.Common.{arith, sym, ◌∙◌, ap}
use Rattle.std.proofs.Math.Option.{none, some}
use Rattle.model.specs.Refusals.{unpervaded}
use Rattle.model.specs.Types.{Shape, shape, Ty, shape_of}
use Rattle.rules.specs.Sizes.{Order, less, same, more}
use Rattle.rules.specs.Order.{compare}
use Rattle.rules.proofs.OrderLaws.{compare_refl, compare_same}
use Rattle.machine.specs.Steps.{Step}
use Rattle.machine.specs.Run.{gives, refuses, steps}
use Rattle.machine.specs.Conditions.{names_closing, puts, is_same, same_type, SamePuts, count_closing}
use Rattle.orders.specs.Cells.{named_in, cells_same}
use Rattle.orders.specs.Play.{Commutes, gather, laid_down}
use Rattle.orders.specs.PlaySteps.{moves, laid-moves}
use Rattle.orders.specs.Asked.{cell_commutes, opening_of, closing_of, cell_at, said, asked, asked-said}
use Rattle.orders.specs.Verdicts.{Pervadings, Gathered, agrees, differs, gathered, agreed}
use Rattle.orders.specs.Endings.{ending_of, close, ending_commutes, endings, endings_add}
use Rattle.orders.specs.EndingsPlay.{endings_of, closing-told}
use Rattle.orders.specs.Counting.{gather-counts}

-- ---- the same puts gather to the same

same_type-refl : (t : Ty) → same_type t t ≡ true
same_type-refl t = ap is_same (compare_refl t)

same_type-true : (t u : Ty) → same_type t u ≡ true → t ≡ u
same_type-true t u h = compare_same t u (go (compare t u) h)
  where
    go : (o : Order) → is_same o ≡ true → o ≡ same
    go less h = let z : ◌≡◌ {A = ℕ} 0 1 = cc in absurd (omega arith)
    go same h = refl
    go more h = let z : ◌≡◌ {A = ℕ} 0 1 = cc in absurd (omega arith)

gather-map : {A B M : Type 0} (unit : M) (plus : M → M → M) (value : B → M) (f : A → B) (l : List A) → gather unit plus value (map f l) ≡ gather unit plus (λ a. value (f a)) l
gather-map unit plus value f [] = refl
gather-map unit plus value f (a ∷ l) = ap (plus (value (f a))) (gather-map unit plus value f l)

pub gather-puts : {M : Type 0} {unit : M} {plus : M → M → M} (laws : Commutes unit plus) (value : Shape → M) (xs ys : List Step) → SamePuts xs ys
    → gather unit plus value (laid_down (moves xs)) ≡ gather unit plus value (laid_down (moves ys))
gather-puts {unit = unit} {plus = plus} laws value xs ys h =
    rw (laid-moves xs, laid-moves ys, gather-map unit plus value shape_of (puts xs), gather-map unit plus value shape_of (puts ys))
    (gather-counts same_type same_type-refl same_type-true laws (λ t. value (shape_of t)) (puts xs) (puts ys) h)

-- ---- the same verdict

module _ (xs ys : List Step) (same-puts : SamePuts xs ys) where
  said_same : (i : ℕ) → said i (laid_down (moves xs)) ≡ said i (laid_down (moves ys))
  said_same i = gather-puts cell_commutes (cell_at i) xs ys same-puts

  pub asked-same : (i : ℕ) → asked i (laid_down (moves xs)) ≡ asked i (laid_down (moves ys))
  asked-same i = asked-said i (laid_down (moves xs)) ∙ ap named_in (said_same i) ∙ sym (asked-said i (laid_down (moves ys)))

  pub order-mismatch : Pervadings xs → Pervadings ys → steps xs [] ≡ refuses unpervaded → steps ys [] ≡ refuses unpervaded
  order-mismatch p q e = go (gathered xs p) (gathered ys q)
    where
      go : Gathered xs → Gathered ys → steps ys [] ≡ refuses unpervaded
      go (agrees t f a w) c = let z : ◌≡◌ {A = ℕ} 0 1 = cc in absurd (omega arith)
      go (differs i f w) (differs j g v) = g
      go (differs i f w) (agrees u g b v) = absurd (agreed ys u v i (sym (asked-same i) ∙ w))

-- ---- the same shape

few-endings : (l : List Ty) → endings (endings_of (map shape_of l)) ≡ min 3 (count_closing l)
few-endings [] = omega arith
few-endings (t ∷ l) =
    let a = few-endings l in
    let b = endings_add (ending_of (shape_of t)) (endings_of (map shape_of l)) in
    let c = one (shape_of t) in
    omega arith
  where
    one : (s : Shape) → endings (ending_of s) ≡ cond (names_closing s) 1 0
    one (shape o none) = refl
    one (shape o (some [])) = refl
    one (shape o (some (d ∷ c))) = refl

shape-parts : (s t : Shape) → opening_of s ≡ opening_of t → closing_of s ≡ closing_of t → s ≡ t
shape-parts (shape o c) (shape p d) e f = rw (e, f)

pub order-shape : (xs ys : List Step) → SamePuts xs ys → Pervadings xs → Pervadings ys → count_closing (puts xs) ≤ 2 → (t u : Ty) → steps xs [] ≡ gives (t ∷ [])
    → steps ys [] ≡ gives (u ∷ []) → shape_of t ≡ shape_of u
order-shape xs ys h p q n t u e f = go (gathered xs p) (gathered ys q)
  where
    same-endings : endings_of (laid_down (moves xs)) ≡ endings_of (laid_down (moves ys))
    same-endings = gather-puts ending_commutes ending_of xs ys h

    few : endings (endings_of (laid_down (moves xs))) ≤ 2
    few = rw (laid-moves xs) (omega (arith, few-endings (puts xs)))

    go : Gathered xs → Gathered ys → shape_of t ≡ shape_of u
    go (differs i e' w) c = let z : ◌≡◌ {A = ℕ} 0 1 = cc in absurd (omega arith)
    go (agrees t' e' a w) (differs i f' v) = let z : ◌≡◌ {A = ℕ} 0 1 = cc in absurd (omega arith)
    go (agrees t' e' a w) (agrees u' f' b v) =
        let x : t' ≡ t = cc in
        let y : u' ≡ u = cc in
        rw (← x, ← y)
        (shape-parts (shape_of t') (shape_of u')
        (cells_same (opening_of (shape_of t')) (opening_of (shape_of u')) (λ i. w i ∙ said_same xs ys h i ∙ sym (v i)))
        (closing-told (moves xs) (shape_of t') few a ∙ ap close same-endings ∙ sym (closing-told (moves ys) (shape_of u') (rw same-endings at few) b)))
