-- Bytes that are read in one place while what they become is written in another, a part at a time.
use Prim.Native.Nat.{ℕ, ◌+◌, ◌≤◌}
use native.Mathlib.Omega.{arith}
use native.Mathlib.Nat.{add-zero}
use mathlib.Core.List.{List, [], ◌++◌, append_assoc, append-nil}
use mathlib.Core.Path.{◌≡◌, refl, sym, ◌∙◌, ap, subst}
use lib.ListN.{length, drop, length-append}
use lib.Seq.{paste-zero}
use Rattle.format.specs.Views.{Stands, stands-first, stands-second}
use Rattle.lent.specs.Over.{over, length_over, over-over}
use Rattle.packing.specs.Parts.{After}

-- A law that the check is to find begins with a part that says nothing, and that shows which bytes stand there.
abbrev pub At_bytes : List ℕ → ℕ → List ℕ → Type 0 → Type 0
At_bytes s at w P = (w ++ drop (at + length w) s ≡ w ++ drop (at + length w) s) × P

-- ---- one part

-- From place `from` on stand the bytes x, and from `to` on is room for the bytes y.
pub record Before (s : List ℕ) (from : ℕ) (x out : List ℕ) (to : ℕ) (y : List ℕ) : Type 0 where
  pub stands : Stands s from x
  pub room : to + length y ≤ length out

pub before-first : {s : List ℕ} {from : ℕ} {out : List ℕ} {to : ℕ} (x y x₁ y₁ : List ℕ) → Before s from (x ++ x₁) out to (y ++ y₁) → Before s from x out to y
before-first {s} {from} x y x₁ y₁ b = record {
  stands = stands-first s from x x₁ b.stands;
  room = omega (arith, b.room, length-append y y₁);
}

after-length : {from : ℕ} {x out : List ℕ} {to : ℕ} {y out₁ : List ℕ} {from₁ to₁ : ℕ} → to + length y ≤ length out → After from x out to y out₁ from₁ to₁ → length out₁ ≡ length out
after-length {from} {x} {out} {to} {y} fits a = ap length a.laid ∙ length_over out to y fits

-- past the first of two parts, the second
pub before-second :
    {s : List ℕ}
    {from : ℕ}
    {out : List ℕ}
    {to : ℕ}
    {out₁ : List ℕ}
    {from₁ to₁ : ℕ}
    (x y x₁ y₁ : List ℕ) →
    Before s from (x ++ x₁) out to (y ++ y₁) →
    After from x out to y out₁ from₁ to₁ →
    Before s from₁ x₁ out₁ to₁ y₁
before-second {s} {from} x y x₁ y₁ b a = record {
  stands = subst (λ n. Stands s n x₁) (sym a.read) (stands-second s from x x₁ b.stands);
  room = omega (arith, b.room, a.wrote, after-length (before-first x y x₁ y₁ b).room a, length-append y y₁);
}

-- and both as one
pub after_then :
    {from : ℕ}
    {out : List ℕ}
    {to : ℕ}
    {out₁ out₂ : List ℕ}
    {from₁ to₁ from₂ to₂ : ℕ}
    {x y x₁ y₁ : List ℕ} →
    to + length y ≤ length out →
    After from x out to y out₁ from₁ to₁ →
    After from₁ x₁ out₁ to₁ y₁ out₂ from₂ to₂ →
    After from (x ++ x₁) out to (y ++ y₁) out₂ from₂ to₂
after_then {from} {out} {to} {out₁} {out₂} {from₁} {to₁} {from₂} {to₂} {x} {y} {x₁} {y₁} fits a b = record {
  read = omega (arith, a.read, b.read, length-append x x₁);
  wrote = omega (arith, a.wrote, b.wrote, length-append y y₁);
  laid = b.laid ∙ ap (λ o. over o to₁ y₁) a.laid ∙ ap (λ n. over (over out to y) n y₁) a.wrote ∙ over-over out to y fits y₁;
}

-- ---- some parts, and others to come

-- Of the bytes x₀ and what they become, y₀, there are x and y still to come.
pub record Halfway (start : ℕ) (x₀ out₀ : List ℕ) (place : ℕ) (y₀ out : List ℕ) (from to : ℕ) (x y : List ℕ) : Type 0 where
  pub taken : List ℕ
  pub given : List ℕ
  pub takes : taken ++ x ≡ x₀
  pub gives : given ++ y ≡ y₀
  pub after : After start taken out₀ place given out from to

pub halfway-none : {start : ℕ} {x₀ out₀ : List ℕ} {place : ℕ} {y₀ : List ℕ} → Halfway start x₀ out₀ place y₀ out₀ start place x₀ y₀
halfway-none {start} {x₀} {out₀} {place} = record {
  taken = [];
  given = [];
  takes = refl;
  gives = refl;
  after = record { read = sym (add-zero start); wrote = sym (add-zero place); laid = paste-zero out₀ place [] };
}

module _ {s : List ℕ} {start : ℕ} {x₀ out₀ : List ℕ} {place : ℕ} {y₀ : List ℕ} (b : Before s start x₀ out₀ place y₀) where
  module _ {out : List ℕ} {from to : ℕ} {x y : List ℕ} (h : Halfway start x₀ out₀ place y₀ out from to x y) where
    given-fits : place + length h.given ≤ length out₀
    given-fits = omega (arith, b.room, length-append h.given y, ap length h.gives)

    pub halfway-length : length out ≡ length out₀
    halfway-length = after-length given-fits h.after

    pub halfway-before : Before s from x out to y
    halfway-before = before-second h.taken h.given x y (rw (h.takes, h.gives) b) h.after

  pub halfway-more :
      {out : List ℕ}
      {from to : ℕ}
      {out₁ : List ℕ}
      {from₁ to₁ : ℕ}
      (x y : List ℕ)
      {x₁ y₁ : List ℕ} →
      Halfway start x₀ out₀ place y₀ out from to (x ++ x₁) (y ++ y₁) →
      After from x out to y out₁ from₁ to₁ →
      Halfway start x₀ out₀ place y₀ out₁ from₁ to₁ x₁ y₁
  halfway-more x y {x₁} {y₁} h a = record {
    taken = h.taken ++ x;
    given = h.given ++ y;
    takes = append_assoc h.taken x x₁ ∙ h.takes;
    gives = append_assoc h.given y y₁ ∙ h.gives;
    after = after_then (given-fits h) h.after a;
  }

pub halfway-all : {start : ℕ} {x₀ out₀ : List ℕ} {place : ℕ} {y₀ out : List ℕ} {from to : ℕ} → Halfway start x₀ out₀ place y₀ out from to [] [] → After start x₀ out₀ place y₀ out from to
halfway-all {start} {x₀} {out₀} {place} {y₀} {out} {from} {to} h =
    let all-taken : h.taken ≡ x₀ = sym (append-nil h.taken) ∙ h.takes in
    let all-given : h.given ≡ y₀ = sym (append-nil h.given) ∙ h.gives in
    rw (← all-taken, ← all-given) h.after
