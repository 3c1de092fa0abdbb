-- What an answer that is made of what was read says of the reading.
use Prim.Native.Nat.{ℕ}
use native.Mathlib.Omega.{arith}
use mathlib.Core.Path.{◌≡◌, ap}
use Rattle.format.specs.Reader.{Read, got, stopped, map_read}

-- the reader stopped with that refusal
pub stopped-map : {A : Type 0} (f : A → ℕ) (m : Read A) {k p : ℕ} → map_read f m ≡ stopped k p → m ≡ stopped k p
stopped-map f (got a n) e = let z : ◌≡◌ {A = ℕ} 0 1 = cc in absurd (omega arith)
stopped-map f (stopped j q) {k} {p} e =
    let x : j ≡ k = cc in
    let y : q ≡ p = cc in
    rw (x, y)

-- the reader gave some value
pub got-map : {A C : Type 0} (f : A → ℕ) (m : Read A) {v n : ℕ} → map_read f m ≡ got v n → ((a : A) → m ≡ got a n → f a ≡ v → C) → C
got-map f (got a m) e k = k a (ap (got a) (cc)) (cc)
got-map f (stopped j p) e k = let z : ◌≡◌ {A = ℕ} 0 1 = cc in absurd (omega arith)
