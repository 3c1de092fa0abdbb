-- What the answer of a comparison says of the order that it is held to.
use Prim.Native.Nat.{ℕ}
use native.Mathlib.Omega.{arith}
use mathlib.Core.Path.{◌≡◌, refl}
use Rattle.rules.specs.Sizes.{Order, less, same, more}
use Rattle.order.specs.Answers.{ranking_of}
use Rattle.order.specs.declared.Ranking.{Ranking}
use Rattle.order.specs.declared.Ranking.TheVariants.{Less, Same, More}

pub ranking_less : (x : Order) (n : ℕ) {r : Ranking} → r ≡ ranking_of x n → r ≡ Less → x ≡ less
ranking_less less n e f = refl
ranking_less same n e f = let z : ◌≡◌ {A = ℕ} 0 1 = cc in absurd (omega arith)
ranking_less more n e f = let z : ◌≡◌ {A = ℕ} 0 1 = cc in absurd (omega arith)

pub ranking_same : (x : Order) (n : ℕ) {m : ℕ} {r : Ranking} → r ≡ ranking_of x n → r ≡ Same m → (x ≡ same) × (m ≡ n)
ranking_same less n e f = let z : ◌≡◌ {A = ℕ} 0 1 = cc in absurd (omega arith)
ranking_same same n e f = (refl, cc)
ranking_same more n e f = let z : ◌≡◌ {A = ℕ} 0 1 = cc in absurd (omega arith)

pub ranking_more : (x : Order) (n : ℕ) {r : Ranking} → r ≡ ranking_of x n → r ≡ More → x ≡ more
ranking_more less n e f = let z : ◌≡◌ {A = ℕ} 0 1 = cc in absurd (omega arith)
ranking_more same n e f = let z : ◌≡◌ {A = ℕ} 0 1 = cc in absurd (omega arith)
ranking_more more n e f = refl
