-- From a number's class to what its cast asks and gives, and the size that this is. Assumes nothing.
use mathlib.Core.Path.{◌≡◌, refl, ap, sym, ◌∙◌}
use mathlib.Core.Bool.{Bool, true, false, cond, not, ◌&&◌, ◌||◌, beq}
use Prim.Native.Nat.{ℕ, ◌+◌, ◌*◌, ◌/◌, ◌%◌, ◌^◌, ◌≤◌}
use native.Mathlib.Nat.{div-add-mod', zero-mul, mul-one, zero-div}
use native.Mathlib.Omega.{arith}
use borrow.Author.Tests.{eqb-true, leb-true, eq-eqb, ne_eqb, lt-ltb}
use lib.Dec.{T, eqb, leb}
use lib.Ieee.{Float, nan, inf, fin, up, down, binary64, of_bits, to_bits, fits, eq, ne, is_nan, in_unsigned, to_unsigned}
use lib.Ieee as ieee
use lib.Ieee.Bits.{of_bits-to_bits}
use lib.Ieee.Compare.{differs_from_itself, nan_differs}
use lib.Ieee.Casts.{to_unsigned_cut}
use Rattle.std.proofs.lemmas.Float.{T_from_true}
use Rattle.std.specs.Prelude.{Ok}
use Rattle.model.specs.Limits.{max_size, ones}
use Rattle.model.specs.Refusals.{not_a_size}
use Rattle.number.specs.Class.{not_a_number, fraction, whole, larger, class_of, magnitude}
use Rattle.number.specs.Size.{size, refused, size_of_whole}
use Rattle.number.specs.Answers.{size_outcome}

-- ---- only a NaN differs from itself, and what is none is what its bits stand for

pub own_nan : (x : Float) → ne x x ≡ true → class_of x ≡ not_a_number
own_nan x h = ap class_of (differs_from_itself x (T_from_true _ h))

pub own_bits : (x : Float) → fits binary64 x ≡ true → class_of (of_bits binary64 (to_bits binary64 x)) ≡ class_of x
own_bits x h = ap class_of (of_bits-to_bits binary64 x (T_from_true _ h))

pub no_nan : (x : Float) → ne x x ≡ false → T (not (is_nan x))
unfolding is_nan
no_nan nan h = let z : true ≡ false = sym nan_differs ∙ h in let y : ◌≡◌ {A = ℕ} 0 1 = cc in absurd (omega arith)
no_nan (inf s) h = tt
no_nan (fin s m e) h = tt

-- ---- what a whole number's class tells

tests : (p q s t : Bool) → cond p (cond q (whole s) (larger s)) fraction ≡ whole t → (p ≡ true) × (q ≡ true) × (s ≡ t)
tests true true s t h = (refl, refl, cc)
tests true false s t h = let z : ◌≡◌ {A = ℕ} 0 1 = cc in absurd (omega arith)
tests false q s t h = let z : ◌≡◌ {A = ℕ} 0 1 = cc in absurd (omega arith)

whole-small : (x : Float) (t : Bool) → class_of x ≡ whole t → magnitude x ≤ max_size
whole-small nan t w = omega arith
whole-small (inf s) t w = omega arith
whole-small (fin s m e) t w = leb-true _ _ (tests (eqb (m * up e % down e) 0) (leb (m * up e / down e) max_size) s t w).1

-- ---- a whole number is 0 exactly if its magnitude is

left-true : (p q : Bool) → (p && q) ≡ true → p ≡ true
left-true true q h = refl
left-true false q h = h

zero-magnitude : (x : Float) → eq x (of_bits binary64 0) ≡ true → magnitude x ≡ 0
unfolding eq of_bits
zero-magnitude nan h = refl
zero-magnitude (inf s) h = refl
zero-magnitude (fin s m e) h =
    let z : m * up e * 1 ≡ 0 * 1 * down e = eqb-true (m * up e * 1) (0 * 1 * down e) (left-true _ _ h) in
    let y : m * up e ≡ 0 = sym (mul-one (m * up e)) ∙ z ∙ zero-mul (down e) in
    rw y (zero-div (down e))

no-rest : (a d : ℕ) → a % d ≡ 0 → a / d ≡ 0 → a ≡ 0
no-rest a d r q = sym (div-add-mod' a d) ∙ ap (λ (k : ℕ). k * d + a % d) q ∙ ap (λ (k : ℕ). 0 * d + k) r ∙ (let z = zero-mul d in omega arith)

outer_true : (p q r : Bool) → p ≡ true → r ≡ true → (p && (q || r)) ≡ true
outer_true true true r hp hr = refl
outer_true true false r hp hr = hr
outer_true false q r hp hr = hp

some-magnitude : (x : Float) (t : Bool) → class_of x ≡ whole t → eq x (of_bits binary64 0) ≡ false → magnitude x ≡ 0 → ⊥
unfolding eq of_bits
some-magnitude nan t w h g = let z : ◌≡◌ {A = ℕ} 0 1 = cc in omega arith
some-magnitude (inf s) t w h g = let z : ◌≡◌ {A = ℕ} 0 1 = cc in omega arith
some-magnitude (fin s m e) t w h g =
    let b = tests (eqb (m * up e % down e) 0) (leb (m * up e / down e) max_size) s t w in
    let a : m * up e * 1 ≡ 0 = mul-one (m * up e) ∙ no-rest (m * up e) (down e) (eqb-true _ _ b.0) g in
    let l : eqb (m * up e * 1) (0 * 1 * down e) ≡ true = eq-eqb _ _ (a ∙ sym (zero-mul (down e))) in
    let y : true ≡ false = sym (outer_true _ (beq s false) _ l (eq-eqb (m * up e * 1) 0 a)) ∙ h in
    let z : ◌≡◌ {A = ℕ} 0 1 = cc in
    omega arith

-- ---- a whole number without a minus may be cast, and its cast is its magnitude

may-cast : (x : Float) → class_of x ≡ whole false → T (in_unsigned binary64 64 x)
unfolding in_unsigned ieee.whole
may-cast nan w = let z : ◌≡◌ {A = ℕ} 0 1 = cc in absurd (omega arith)
may-cast (inf s) w = let z : ◌≡◌ {A = ℕ} 0 1 = cc in absurd (omega arith)
may-cast (fin s m e) w =
    let b = tests (eqb (m * up e % down e) 0) (leb (m * up e / down e) max_size) s false w in
    let q : m * up e / down e ≤ max_size = leb-true _ _ b.1 in
    rw (b.2, b.0, b.1, lt-ltb (m * up e / down e) (2 ^ 64) (omega arith)) tt

cast-magnitude : (x : Float) → T (in_unsigned binary64 64 x) → to_unsigned 64 x ≡ magnitude x
unfolding in_unsigned
cast-magnitude nan h = absurd h
cast-magnitude (inf s) h = absurd h
cast-magnitude (fin s m e) h = to_unsigned_cut binary64 64 s m e h

-- ---- the size of a whole number

module _ (x : Float) (s : Bool) where
  pub size_of_zero : eq x (of_bits binary64 0) ≡ true → size_of_whole s (magnitude x) ≡ size 0
  size_of_zero h = rw (zero-magnitude x h)

  module _ (w : class_of x ≡ whole s) where
    pub may_cast : s ≡ false → T (in_unsigned binary64 64 x)
    may_cast n = may-cast x (w ∙ ap whole n)

    module _ (h : eq x (of_bits binary64 0) ≡ false) where
      some : eqb (magnitude x) 0 ≡ false
      some = ne_eqb (magnitude x) 0 (some-magnitude x s w h)

      pub size_of_minus : s ≡ true → size_of_whole s (magnitude x) ≡ refused not_a_size
      size_of_minus n = rw (some, n)

      pub size_of_cast : s ≡ false → size_of_whole s (magnitude x) ≡ size_outcome (Ok (to_unsigned 64 x))
      size_of_cast n =
          let m = whole-small x s w in
          let known : eqb (magnitude x) ones ≡ false = ne_eqb (magnitude x) ones (λ e. omega arith) in
          simp (some, known, n, cast-magnitude x (may_cast n))
