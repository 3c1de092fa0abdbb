-- Puts and unfilled pervadings that leave one type: where at most two puts name closing sizes, the type's closing sizes are those
-- that the endings of all puts tell together.
use Rattle.std.specs.Prelude.{ℕ, ◌≤◌, false, List, [], ◌∷◌, ◌≡◌}
use Rattle.std.proofs.Common.{arith, sym, ◌∙◌, ap}
use Rattle.std.proofs.Math.Option.{some}
use Rattle.model.specs.Types.{Shape, shape}
use Rattle.rules.specs.Pervade.{pervade_dims, pervade_closing, pervade}
use Rattle.holding.proofs.PervadeHolds.{closed_by-some}
use Rattle.orders.specs.Play.{Move, lay, mix, laid_down, mixed-some, play, gather, past_first}
use Rattle.orders.specs.Asked.{closing_of}
use Rattle.orders.specs.Endings.{Ending, add_ending, no_ending, ending_of, close, ending_commutes, endings, endings_add, close_add, close_of}

abbrev total : List Ending → Ending
total l = gather no_ending add_ending (λ g. g) l

abbrev pub endings_of : List Shape → Ending
endings_of l = gather no_ending add_ending ending_of l

-- each shape of a stack has the closing sizes that its ending tells
abbrev TellsClosing : List Shape → List Ending → Type 0
TellsClosing [] [] = Unit {0}
TellsClosing [] (g ∷ gs) = ⊥
TellsClosing (s ∷ st) [] = ⊥
TellsClosing (s ∷ st) (g ∷ gs) = (closing_of s ≡ close g) × TellsClosing st gs

pervade-closing : (s t x : Shape) → pervade false false s t ≡ some x → closing_of x ≡ pervade_closing (closing_of s) (closing_of t)
unfolding pervade
pervade-closing (shape o c) (shape p d) x e = closed_by-some (pervade_closing c d) (pervade_dims false false o p) e λ l e₀ w. rw (← w)

-- the endings on the stack with those still to be laid down
abbrev in_all : List Ending → List (Move Shape) → Ending
in_all gs ms = add_ending (total gs) (endings_of (laid_down ms))

told-play : (ms : List (Move Shape)) (st z : List Shape) (gs : List Ending) → TellsClosing st gs → endings (in_all gs ms) ≤ 2
    → play (pervade false false) ms st ≡ some z
    → (hs : List Ending) × TellsClosing z hs × (total hs ≡ in_all gs ms)
unfolding play
told-play [] st z gs t n e = let w : st ≡ z = cc in rw (← w) (gs, t, sym (ending_commutes.comm (total gs) no_ending ∙ ending_commutes.unital (total gs)))
told-play (lay s ∷ ms) st z gs t n e =
    let same = past_first ending_commutes ending_of (ending_of s) (total gs) (endings_of (laid_down ms)) in
    let (hs, u, w) = told-play ms (s ∷ st) z (ending_of s ∷ gs) (sym (close_of (closing_of s)), t) (rw same n) e in
    (hs, u, w ∙ same)
told-play (mix ∷ ms) [] z gs t n e = let z : ◌≡◌ {A = ℕ} 0 1 = cc in absurd (omega arith)
told-play (mix ∷ ms) (a ∷ []) z gs t n e = let z : ◌≡◌ {A = ℕ} 0 1 = cc in absurd (omega arith)
told-play (mix ∷ ms) (a ∷ b ∷ st) z [] t n e = absurd t
told-play (mix ∷ ms) (a ∷ b ∷ st) z (g ∷ []) t n e = absurd t.1
told-play (mix ∷ ms) (a ∷ b ∷ st) z (g ∷ h ∷ gs) t n e =
    mixed-some (pervade false false) (pervade false false a b) e λ c e₁ e₂.
    onward (told-play ms (c ∷ st) z (add_ending g h ∷ gs) (pervade-closing a b c e₁ ∙ rw (t.0, t.1.0) (close_add g h few), t.1.1) (rw same n) e₂)
  where
    same : in_all (add_ending g h ∷ gs) ms ≡ in_all (g ∷ h ∷ gs) ms
    same = ap (λ w. add_ending w (endings_of (laid_down ms))) (ending_commutes.assoc g h (total gs))

    few : endings (add_ending g h) ≤ 2
    few =
        let mine = add_ending g h in
        omega (arith, endings_add g h, endings_add mine (total gs), endings_add (add_ending mine (total gs)) (endings_of (laid_down ms)), ap endings same)

    onward : (hs : List Ending) × TellsClosing z hs × (total hs ≡ in_all (add_ending g h ∷ gs) ms) → (hs : List Ending) × TellsClosing z hs × (total hs ≡ in_all (g ∷ h ∷ gs) ms)
    onward (hs, u, w) = (hs, u, w ∙ same)

-- The closing sizes of the one shape left.
pub closing-told : (ms : List (Move Shape)) (x : Shape) → endings (endings_of (laid_down ms)) ≤ 2 → play (pervade false false) ms [] ≡ some (x ∷ []) → closing_of x ≡ close (endings_of (laid_down ms))
closing-told ms x n e =
    let unit = ending_commutes.unital (endings_of (laid_down ms)) in
    go (told-play ms [] (x ∷ []) [] tt (rw unit n) e)
  where
    go : (hs : List Ending) × TellsClosing (x ∷ []) hs × (total hs ≡ add_ending no_ending (endings_of (laid_down ms))) → closing_of x ≡ close (endings_of (laid_down ms))
    go ([], t, w) = absurd t
    go (g ∷ h ∷ hs, t, w) = absurd t.1
    go (g ∷ [], t, w) = t.0 ∙ ap close (sym (ending_commutes.comm g no_ending ∙ ending_commutes.unital g) ∙ w ∙ ending_commutes.unital (endings_of (laid_down ms)))
