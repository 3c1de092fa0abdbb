-- The step that a place belongs to, from step to step.
use Prim.Native.Nat.{ℕ, ◌+◌, ◌≤◌, ◌<◌}
use native.Mathlib.Omega.{arith}
use Rattle.std.proofs.Common.{add-one}
use mathlib.Core.List.{List}
use mathlib.Core.Option.{none, some}
use mathlib.Core.Path.{◌≡◌, refl}
use lib.ListN.{length}
use Rattle.places.specs.Places.{told_step, mark_at, end_at, step_on, step_of}
use Rattle.places.proofs.PlacesLaws.{end-past, step_on-end, step_on-here, step_on-next, past_of_none}

module _ (s : List ℕ) (p : ℕ) where
  pub from_the_first : step_of s p ≡ step_on s (length s) 0 0 p
  unfolding step_of
  from_the_first = refl

  -- past the place after the last byte no step is
  pub past_all : length s < p → step_of s p ≡ none
  past_all h = past_of_none s p h

pub step_goes : (s : List ℕ) (at : ℕ) → at < length s → at < end_at s at
step_goes s at h = end-past s at h

module _ (s : List ℕ) (before at p : ℕ) where
  pub no_more : length s ≤ at → step_on s (length s) before at p ≡ none
  no_more h = step_on-end s (length s) before at p h

  -- the step that begins here, or one after it
  pub in_this : at < length s → p < end_at s at → step_on s (length s) before at p ≡ some (told_step (before + 1) (mark_at s at))
  in_this more h = rw (add-one before) (step_on-here s (length s) before at p more (omega arith) h)

  pub in_a_later : at < length s → end_at s at ≤ p → step_on s (length s) before at p ≡ step_on s (length s) (before + 1) (end_at s at) p
  in_a_later more h = rw (add-one before) (step_on-next s (length s) before at p more (omega arith) (length s) (omega arith) h)
