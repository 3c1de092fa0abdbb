-- The rows of lists, by their lengths.
use Prim.Native.Nat.{◌-◌}
use native.Mathlib.Omega.{arith}
use mathlib.Core.List.{List, [], ◌∷◌}
use mathlib.Core.Path.{◌≡◌, refl, ◌∙◌, ap}
use lib.Ieee.{Float, nan}
use lib.ListN.{length, get_or}
use Rattle.val.specs.Values.{num_ty, row_number, row_typed, list_row, list_first, list_last}

pub row_one : (xs : List Float) → length xs ≡ 1 → list_row xs ≡ row_number (get_or xs 0 nan)
unfolding list_row
row_one [] e = absurd (omega arith)
row_one (x ∷ []) e = refl
row_one (x ∷ y ∷ xs) e = absurd (omega arith)

pub row_other : (xs : List Float) → (length xs ≡ 1 → ⊥) → list_row xs ≡ row_typed num_ty
unfolding list_row
row_other [] h = refl
row_other (x ∷ []) h = absurd (h refl)
row_other (x ∷ y ∷ xs) h = refl

pub first_none : (xs : List Float) → length xs ≡ 0 → list_first xs ≡ list_row xs
unfolding list_first
first_none [] e = refl
first_none (x ∷ xs) e = absurd (omega arith)

pub first_some : (xs : List Float) → (length xs ≡ 0 → ⊥) → list_first xs ≡ row_number (get_or xs 0 nan)
unfolding list_first
first_some [] h = absurd (h refl)
first_some (x ∷ xs) h = refl

pub last_none : (xs : List Float) → length xs ≡ 0 → list_last xs ≡ list_row xs
unfolding list_last
last_none [] e = refl
last_none (x ∷ xs) e = absurd (omega arith)

last-at : (x : Float) (xs : List Float) → list_last (x ∷ xs) ≡ row_number (get_or (x ∷ xs) (length xs) nan)
unfolding list_last
last-at x [] = refl
last-at x (y ∷ xs) = last-at y xs

pub last_some : (xs : List Float) → (length xs ≡ 0 → ⊥) → list_last xs ≡ row_number (get_or xs (length xs - 1) nan)
last_some [] h = absurd (h refl)
last_some (x ∷ xs) h =
    let e : length xs ≡ length (x ∷ xs) - 1 = omega arith in
    last-at x xs ∙ ap (λ n. row_number (get_or (x ∷ xs) n nan)) e
