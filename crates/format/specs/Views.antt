-- Where written bytes stand inside others, and what stands at the places within them: what a look at known bytes goes by.
use Rattle.std.specs.Prelude.{ℕ, ◌+◌, ◌-◌, ◌≤◌, ◌<◌, List, [], ◌∷◌, ◌++◌, ◌≡◌, length, get_or, take, drop}
use Rattle.std.proofs.Common.{arith, zero-add, add-zero, append_assoc, append-nil, sym, ◌∙◌, ap, length-append, length-drop, drop_of_length-le, get_or-drop}
use Rattle.std.proofs.Math.ListN.{get_or-append}
use Rattle.std.proofs.Math.Seq.{take-length, take-append_seam}
use Rattle.format.specs.Reader.{Took}
use Rattle.format.specs.ReaderLaws.{drop_past}

-- The rest of a list, as a part of a slice has it.
pub rest-is : (s : List ℕ) (n : ℕ) → take (length s - n) (drop n s) ≡ drop n s
rest-is s n = ap (λ k. take k (drop n s)) (sym (length-drop n s)) ∙ take-length (drop n s)

-- From place `at` on stand the bytes w.
abbrev pub Stands : List ℕ → ℕ → List ℕ → Type 0
Stands s at w = Took s at w (at + length w)

module _ (s : List ℕ) where
  pub stands-all : (w : List ℕ) → w ≡ s → Stands s 0 w
  stands-all w e =
      let none : drop (length w) s ≡ [] = drop_of_length-le s (le (ap length e)) in
      record { is = rw zero-add (sym (ap (λ x. w ++ x) none ∙ append-nil w ∙ e)) }
    where
      le : length w ≡ length s → length s ≤ length w
      le h = omega arith

  -- ---- one stretch after another

  grouped : (at : ℕ) (v w : List ℕ) → Stands s at (v ++ w) → drop at s ≡ v ++ (w ++ drop (at + length (v ++ w)) s)
  grouped at v w h = h.is ∙ append_assoc v w (drop (at + length (v ++ w)) s)

  pub stands-first : (at : ℕ) (v w : List ℕ) → Stands s at (v ++ w) → Stands s at v
  stands-first at v w h = record { is = grouped at v w h ∙ ap (λ x. v ++ x) (sym (drop_past s at v (w ++ drop (at + length (v ++ w)) s) (grouped at v w h))) }

  pub stands-second : (at : ℕ) (v w : List ℕ) → Stands s at (v ++ w) → Stands s (at + length v) w
  stands-second at v w h =
      let end : at + length (v ++ w) ≡ at + length v + length w = omega (arith, length-append v w) in
      record { is = drop_past s at v (w ++ drop (at + length (v ++ w)) s) (grouped at v w h) ∙ ap (λ n. w ++ drop n s) end }

  -- ---- the bytes of a stretch

  pub stands-byte : (at b : ℕ) (w : List ℕ) → Stands s at (b ∷ w) → get_or s at 0 ≡ b
  stands-byte at b w h = rw (add-zero at) at (sym (get_or-drop at s 0 0) ∙ ap (λ (x : List ℕ). get_or x 0 0) h.is)

  pub stands-nth : (at : ℕ) (w : List ℕ) (i : ℕ) → i < length w → Stands s at w → get_or s (at + i) 0 ≡ get_or w i 0
  stands-nth at w i h e = sym (get_or-drop at s i 0) ∙ ap (λ x. get_or x i 0) e.is ∙ get_or-append w (drop (at + length w) s) 0 i h

  pub stands-within : (at : ℕ) (w : List ℕ) → 0 < length w → Stands s at w → at + length w ≤ length s
  stands-within at w h e =
      omega (arith, length-drop at s, ap length e.is, length-append w (drop (at + length w) s))

  pub stands-part : (at : ℕ) (w : List ℕ) → Stands s at w → take (length w) (drop at s) ≡ w
  stands-part at w h = ap (take (length w)) h.is ∙ take-append_seam w (drop (at + length w) s)
