-- Bytes stored one after the other are laid over a part of the buffer.
use Prim.Native.Nat.{ℕ, ◌+◌, ◌≤◌}
use native.Mathlib.Numerals.{unary_clauses}
use mathlib.Core.List.{List, [], ◌∷◌}
use mathlib.Core.Path.{◌≡◌, ◌∙◌}
use lib.ListN.{length, set}
use lib.Seq.{sets, sets-eq}
use Rattle.lent.specs.Over.{over, over-over}

pub one_store : (out : List ℕ) (at a : ℕ) → at + 1 ≤ length out → set out at a ≡ over out at (a ∷ [])
one_store out at a fits = sets-eq (a ∷ []) out at fits

pub two-stores : (out : List ℕ) (at a b : ℕ) → at + 2 ≤ length out → set (set out at a) (at + 1) b ≡ over out at (a ∷ b ∷ [])
two-stores out at a b fits =
    let stores : set (set out at a) (at + 1) b ≡ sets out at (a ∷ b ∷ []) = simp unary_clauses in
    stores ∙ sets-eq (a ∷ b ∷ []) out at fits

module _ (out : List ℕ) (at a b c d e f g : ℕ) where
  abbrev stored : List ℕ
  stored = set (set (set (set (set (set (set out at a) (at + 1) b) (at + 2) c) (at + 3) d) (at + 4) e) (at + 5) f) (at + 6) g

  pub seven_stores : at + 7 ≤ length out → stored ≡ over out at (a ∷ b ∷ c ∷ d ∷ e ∷ f ∷ g ∷ [])
  seven_stores fits =
      let stores : stored ≡ sets out at (a ∷ b ∷ c ∷ d ∷ e ∷ f ∷ g ∷ []) = simp unary_clauses in
      stores ∙ sets-eq (a ∷ b ∷ c ∷ d ∷ e ∷ f ∷ g ∷ []) out at fits

-- and others behind two of them
pub two_and_more : (out : List ℕ) (at a b : ℕ) (w : List ℕ) → at + 2 ≤ length out → over (over out at (a ∷ b ∷ [])) (at + 2) w ≡ over out at (a ∷ b ∷ w)
two_and_more out at a b w fits = over-over out at (a ∷ b ∷ []) fits w
