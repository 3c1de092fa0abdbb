-- What a size that the other shape leaves open or does not have says of a real one, where it does not grow.
use Rattle.std.specs.Prelude.{ℕ, Bool, true, false, not, ◌&&◌, cond, [], ◌≡◌, refl, eqb, ltb}
use Rattle.std.proofs.Common.{arith, eqb-true}
use Rattle.std.proofs.Math.Option.{none, some}
use Rattle.model.specs.Types.{Dim, static, unknown}
use Rattle.rules.specs.Pervade.{against_absent}
use Rattle.rules.specs.PervadeInSheets.{may_grow}
use Rattle.machine.specs.Real.{grown, real_dim}
use Rattle.holding.specs.Fitting.{Fit}

-- a size that the other shape leaves open or does not have, against a real one, where it does not grow
pub fit_against : (f g : Bool) (e : Dim) (m n z : ℕ) → may_grow g true (some e) none ≡ false → Fit e n → real_dim f g m n ≡ some z → Fit (against_absent e) z
unfolding against_absent
fit_against f g unknown m n z s k y = tt
fit_against f g (static b) m n z s k y = go f g (eqb m 1) (eqb b 1) (eqb m b) (ltb m b) refl s (rw (← k) at y)
  where
    go : (f g p t r l : Bool) → eqb m b ≡ r → g && not t && true ≡ false
        → cond p (some b) (cond t (some m) (cond r (some m) (cond l (grown f b) (grown g m)))) ≡ some z → Fit (cond t unknown (static b)) z
    go f g p true r l h s y = tt
    go f g true false r l h s y = cc
    go f g false false true l h s y = let w = eqb-true m b h in cc
    go true g false false false true h s y = cc
    go false g false false false true h s y = let w : ◌≡◌ {A = ℕ} 0 1 = cc in absurd (omega arith)
    go f true false false false false h s y = let w : ◌≡◌ {A = ℕ} 0 1 = cc in absurd (omega arith)
    go f false false false false false h s y = let w : ◌≡◌ {A = ℕ} 0 1 = cc in absurd (omega arith)
