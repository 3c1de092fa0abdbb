-- The stack's types one after the other: the bytes of the lowest, how long they are, and laying them down in turn.
use Prim.Native.Nat.{ℕ, zero, suc, ◌+◌, ◌-◌, ◌≤◌, ◌<◌}
use native.Mathlib.Omega.{arith}
use Rattle.std.proofs.Common.{sum}
use Rattle.std.proofs.lemmas.Grind.{common_steps}
use mathlib.Core.List.{List, map, [], ◌∷◌, ◌++◌, reverse, reverse_aux, append_assoc, append-nil}
use mathlib.Core.Path.{◌≡◌, refl, sym, ◌∙◌, ap}
use lib.ListN.{length, get_or, take, drop, replicate, length-append, drop_of_length-le}
use lib.Seq.{length-take-le}
use Rattle.model.specs.Limits.{max_bytes}
use Rattle.model.specs.Types.{Ty}
use Rattle.format.specs.Records.{write_ty}
use Rattle.format.specs.Suffices.{suffices}
use Rattle.lent.specs.Over.{over, over-over, over-front}
use Rattle.machine.specs.Call.{write_types, first_zero}
use Rattle.stack.specs.Stack.{Memory, size, Lies, Stacked, lowest}
use Rattle.stack.proofs.StackLaws.{stacked-count, stacked-sizes, lie-next}

-- the bytes of the k lowest, bottom first
abbrev pub lowest_bytes : ℕ → ℕ → List Ty → List ℕ
lowest_bytes count k ts = write_types (reverse (lowest count k ts))

write_before : (l r : List Ty) → write_types (reverse_aux l r) ≡ write_types (reverse l) ++ write_types r
unfolding write_types
write_before [] r = refl
write_before (t ∷ l) r =
    write_before l (t ∷ r)
    ∙ sym (append_assoc (write_types (reverse l)) (write_ty t) (write_types r))
    ∙ ap (λ x. x ++ write_types r) (ap (λ x. write_types (reverse l) ++ x) (sym (append-nil (write_ty t))) ∙ sym (write_before l (t ∷ [])))

write_last : (t : Ty) (l : List Ty) → write_types (reverse (t ∷ l)) ≡ write_types (reverse l) ++ write_ty t
unfolding write_types
write_last t l = write_before l (t ∷ []) ∙ ap (λ x. write_types (reverse l) ++ x) (append-nil (write_ty t))

-- fewer are no longer
fewer : (j : ℕ) (ts : List Ty) → length (write_types (reverse (drop j ts))) ≤ length (write_types (reverse ts))
fewer zero ts = omega arith
fewer (suc j) [] = omega arith
fewer (suc j) (t ∷ ts) = omega (arith, fewer j ts, ap length (write_last t ts), length-append (write_types (reverse ts)) (write_ty t))

-- So far the k lowest are laid down, up to a place.
pub record Laid (count : ℕ) (ts : List Ty) (before : List ℕ) (k : ℕ) (result : List ℕ) (at : ℕ) : Type 0 where
  pub reached : at ≡ length (lowest_bytes count k ts)
  pub laid : result ≡ over before 0 (lowest_bytes count k ts)

module _ (m : Memory) {count : ℕ} {ts : List Ty} (h : Stacked m count ts) where
  pub laid_none : (before : List ℕ) → Laid count ts before 0 before 0
  unfolding write_types
  laid_none before =
      let all : length ts ≤ count - 0 = omega (arith, stacked-count m count h) in
      let none : lowest_bytes count 0 ts ≡ [] = ap (λ l. write_types (reverse l)) (drop_of_length-le ts all) in
      record { reached = sym (ap length none); laid = sym (over-front before []) ∙ ap (over before 0) (sym none) }

  -- one more
  module _ (k : ℕ) (less : k < count) where
    next : {C : Type 0} → ((t : Ty) → Lies m k t → lowest_bytes count (k + 1) ts ≡ lowest_bytes count k ts ++ write_ty t → C) → C
    next f = lie-next m count k ts less h.lie λ t l e. f t l (ap (λ x. write_types (reverse x)) e ∙ write_last t (lowest count k ts))

    next_long : length (lowest_bytes count (k + 1) ts) ≡ length (lowest_bytes count k ts) + get_or m.lengths k 0
    next_long = next λ t l e. omega (arith, ap length e, length-append (lowest_bytes count k ts) (write_ty t), l.long)

    -- it has room where all have
    pub next_ends : {before result : List ℕ} {at : ℕ} → Laid count ts before k result at → (room : ℕ) → length (write_types (reverse ts)) ≤ room → at + get_or m.lengths k 0 ≤ room
    next_ends so_far room fits = omega (arith, so_far.reached, fits, next_long, fewer (count - (k + 1)) ts)

    pub next_fits : {before result : List ℕ} {at : ℕ} → Laid count ts before k result at → (room : ℕ) → length (write_types (reverse ts)) ≤ room → (t : Ty) × Lies m k t × (at + size t ≤ room)
    next_fits so_far room fits = next λ t l e. (t, l, omega (arith, next_ends so_far room fits, l.long))

    -- and is laid behind those before it
    pub laid_next : {before result result₁ : List ℕ} {at : ℕ} → Laid count ts before k result at → at ≤ length before
        → ((t : Ty) → Lies m k t → result₁ ≡ over result at (write_ty t)) → Laid count ts before (k + 1) result₁ (at + get_or m.lengths k 0)
    laid_next {before} {result} {result₁} {at} so_far fits laid =
        next λ t l e.
        let n : at ≡ 0 + length (lowest_bytes count k ts) = omega (arith, so_far.reached) in
        record {
          reached = omega (arith, so_far.reached, next_long);
          laid = laid t l ∙ rw (so_far.laid, n, e) (over-over before 0 (lowest_bytes count k ts) (omega (arith, so_far.reached, fits)) (write_ty t));
        }

-- zeros for the first n bytes
pub zeros_before : (n : ℕ) (d a : List ℕ) → n ≤ length d → a ≡ replicate (length (take n d)) 0 → a ++ drop n d ≡ first_zero n d
unfolding first_zero
zeros_before n d a inside e = ap (λ x. x ++ drop n d) (e ∙ ap (λ k. replicate k 0) (length-take-le n d inside))

-- ---- how long they are

bytes_sum : (ts : List Ty) → sum (map size ts) ≡ length (write_types ts)
unfolding write_types
bytes_sum [] = refl
bytes_sum (t ∷ ts) = let rest = bytes_sum ts in grind (arith, common_steps)

module _ (m : Memory) {count : ℕ} {ts : List Ty} (h : Stacked m count ts) where
  pub stacked_total : sum (take count m.lengths) ≡ length (write_types (reverse ts))
  stacked_total = ap sum (stacked-sizes m count h) ∙ bytes_sum (reverse ts)

  pub stacked_most : (k : ℕ) → k < count → get_or m.lengths k 0 ≤ max_bytes
  stacked_most k less = lie-next m count k ts less h.lie λ t l e. omega (arith, l.long, suffices t l.within)
