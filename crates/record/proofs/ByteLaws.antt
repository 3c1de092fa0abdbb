-- Numbers of eight bytes, and names.
use Prim.Native.Nat.{ℕ, zero, suc, ◌+◌, ◌*◌, ◌-◌, ◌≤◌, ◌<◌}
use native.Mathlib.Omega.{arith}
use native.Mathlib.Nat.{add-zero, add-suc}
use mathlib.Core.Bool.{Bool, true, false}
use mathlib.Core.List.{List, ◌∷◌}
use mathlib.Core.Path.{◌≡◌, refl, sym, ◌∙◌, ap}
use lib.ListN.{length, get_or}
use lib.Dec.{ltb}
use borrow.Author.Tests.{ltb-true, ltb-false}
use Rattle.model.specs.Refusals.{ended}
use Rattle.format.specs.Reader.{Read, got, stopped, and_then, map_read, give, judged, number}
use Rattle.format.specs.ReaderLaws.{byte-there, byte-ended}
use Rattle.format.specs.Records.{is_printing, read_name}
use Rattle.record.specs.Answers.{nothing, eight_bytes}

module _ (s : List ℕ) where
  -- k bytes from place at + i on, low byte first
  unfoldable pub low : ℕ → ℕ → ℕ → ℕ
  low at zero i = 0
  low at (suc k) i = low at k (suc i) * 256 + get_or s (at + i) 0

  pub number-there : (p at k i : ℕ) → at + (i + k) ≤ length s → number s k p (at + i) ≡ got (low at k i) (at + (i + k))
  unfolding number low
  number-there p at zero i h = rw add-zero
  number-there p at (suc k) i h =
      let n : number s k p (suc (at + i)) ≡ got (low at k (suc i)) (at + (suc i + k)) = rw add-suc at (number-there p at k (suc i) (omega arith)) in
      rw (byte-there s p (at + i) (omega arith), n) (ap (got (low at k (suc i) * 256 + get_or s (at + i) 0)) (omega arith))

  number-ended : (k p at : ℕ) → length s < at + suc k → number s (suc k) p at ≡ stopped ended p
  unfolding number
  number-ended zero p at h = rw (byte-ended s p at (omega arith))
  number-ended (suc k) p at h = go (ltb at (length s)) refl (number-ended k p (suc at) (omega arith))
    where
      go : (t : Bool) → ltb at (length s) ≡ t → number s (suc k) p (suc at) ≡ stopped ended p → number s (suc (suc k)) p at ≡ stopped ended p
      go true e rest = rw (byte-there s p at (ltb-true at (length s) e), rest)
      go false e rest = rw (byte-ended s p at (ltb-false at (length s) e))

  -- eight bytes, which are there or end too soon
  pub eight_there : (p at : ℕ) → at + 8 ≤ length s → number s 8 p at ≡ got (eight_bytes s at) (at + 8)
  unfolding low
  eight_there p at h = ap (number s 8 p) (sym (add-zero at)) ∙ number-there p at 8 0 h ∙ ap (λ n. got n (at + 8)) (rw add-zero (omega arith))

  pub eight_ended : (p at : ℕ) → length s < at + 8 → number s 8 p at ≡ stopped ended p
  eight_ended p at h = number-ended 7 p at h

  pub number-eight : (p at v : ℕ) → v ≡ eight_bytes s at → at + 8 ≤ length s → number s 8 p at ≡ got v (at + 8)
  number-eight p at v e h = rw e (eight_there p at h)

-- ---- names that are passed over: by the first of some bytes, and where none is left

module _ (s : List ℕ) (k p at : ℕ) where
  pub name_step : 0 < k → map_read nothing (read_name s k p at) ≡ and_then (judged s is_printing p at) (λ _ n. map_read nothing (read_name s (k - 1) p n))
  unfolding read_name
  name_step h = go k h
    where
      rest : (b : ℕ) (r : Read (List ℕ)) → map_read nothing (and_then r (λ n. give (b ∷ n))) ≡ map_read nothing r
      rest b (got n m) = refl
      rest b (stopped j q) = refl

      first : (k : ℕ) (r : Read ℕ) → map_read nothing (and_then r (λ b m. and_then (read_name s k p m) (λ n. give (b ∷ n)))) ≡ and_then r (λ _ m. map_read nothing (read_name s k p m))
      first k (got b m) = rest b (read_name s k p m)
      first k (stopped j q) = refl

      go : (k : ℕ) → 0 < k → map_read nothing (read_name s k p at) ≡ and_then (judged s is_printing p at) (λ _ n. map_read nothing (read_name s (k - 1) p n))
      go zero h = absurd (omega arith)
      go (suc k) h = let x : suc k - 1 ≡ k = omega arith in rw x (first k (judged s is_printing p at))

  pub name_end : k ≡ 0 → map_read nothing (read_name s k p at) ≡ got 0 at
  unfolding read_name
  name_end e = rw e
