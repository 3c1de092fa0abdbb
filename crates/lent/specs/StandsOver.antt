-- Where bytes stand in a buffer that others are laid over.
use Rattle.std.specs.Prelude.{ℕ, ◌+◌, ◌-◌, ◌≤◌, List, ◌++◌, ◌≡◌, refl, length, take, drop}
use Rattle.std.proofs.Common.{arith, append_assoc, sym, ◌∙◌, ap, take-append-drop, length-take-le, take-take, take-add, take_at, drop_at, drop-drop}
use Rattle.format.specs.Views.{Stands, stands-part}
use Rattle.lent.specs.Over.{over, length_over, drop-over}

-- what a part of a list is stands where the part begins
pub part-stands : (s : List ℕ) (at : ℕ) (w : List ℕ) → take (length w) (drop at s) ≡ w → Stands s at w
part-stands s at w e = record { is = sym (take-append-drop (length w) (drop at s)) ∙ ap (λ x. x ++ drop (length w) (drop at s)) e ∙ ap (λ x. w ++ x) (drop-drop (length w) at s) }

drop-take : (n a : ℕ) (l : List ℕ) → a ≤ length l → take n (drop a l) ≡ drop a (take (a + n) l)
drop-take n a l h = sym (ap (drop a) (take-add a n l) ∙ drop_at (take a l) (take n (drop a l)) a (length-take-le a l h))

module _ (d w : List ℕ) (at : ℕ) (inside : at + length w ≤ length d) where
  head-kept : take at (over d at w) ≡ take at d
  head-kept =
      let a : length (take at d) ≡ at = length-take-le at d (omega arith) in
      ap (take at) (append_assoc (take at d) w (drop (at + length w) d)) ∙ take_at (take at d) (w ++ drop (at + length w) d) at a

  part-before : (a n : ℕ) → a + n ≤ at → take n (drop a (over d at w)) ≡ take n (drop a d)
  part-before a n h =
      drop-take n a (over d at w) (rw (length_over d at w inside) (omega arith))
      ∙ ap (drop a) (sym (take-take (a + n) at (over d at w) h) ∙ ap (take (a + n)) head-kept ∙ take-take (a + n) at d h)
      ∙ sym (drop-take n a d (omega arith))

  part-after : (a n : ℕ) → at + length w ≤ a → take n (drop a (over d at w)) ≡ take n (drop a d)
  part-after a n h = let e : at + length w + (a - (at + length w)) ≡ a = omega arith in ap (take n) (rw e at (drop-over d at w inside (a - (at + length w))))

  -- the bytes that are laid
  pub stands-laid : Stands (over d at w) at w
  stands-laid =
      part-stands (over d at w) at w
      (ap (λ (l : List ℕ). take (length w) (drop at l)) (append_assoc (take at d) w (drop (at + length w) d))
      ∙ ap (take (length w)) (drop_at (take at d) (w ++ drop (at + length w) d) at (length-take-le at d (omega arith)))
      ∙ take_at w (drop (at + length w) d) (length w) refl)

  -- what ends before them, and what begins after them
  pub stands-before : (a : ℕ) (v : List ℕ) → a + length v ≤ at → Stands d a v → Stands (over d at w) a v
  stands-before a v h s = part-stands (over d at w) a v (part-before a (length v) h ∙ stands-part d a v s)

  pub stands_after : (a : ℕ) (v : List ℕ) → at + length w ≤ a → Stands d a v → Stands (over d at w) a v
  stands_after a v h s = part-stands (over d at w) a v (part-after a (length v) h ∙ stands-part d a v s)
