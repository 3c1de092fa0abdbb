-- Lists of types in known bytes: the first type, those after it, and types counted one by one.
use Prim.Native.Nat.{ℕ, zero, suc, ◌+◌, ◌-◌, ◌≤◌, ◌<◌}
use native.Mathlib.Omega.{arith}
use mathlib.Core.Bool.{Bool, true, false, cond}
use mathlib.Core.List.{List}
use mathlib.Core.Path.{◌≡◌, refl, ◌∙◌, ap}
use Rattle.model.specs.Limits.{max_types, max_depth}
use Rattle.model.specs.Types.{Shape, Scalar, Fields, no_fields, field, field_count, Ty, ty, scalar_of, types, inside, among}
use Rattle.rules.specs.Types.{copies}
use Rattle.known.specs.Known.{TypeAt, HasType, SpanIs}
use Rattle.known.proofs.KnownLaws.{first_field, rest-fields}
use Rattle.known.specs.declared.Span.{Span}
use Rattle.validate.specs.Lists.{next_place, ListAt, Counting}

pub has : {s : List ℕ} {at : ℕ} {t : Ty} → TypeAt s at max_depth t → HasType s at max_depth
has {t = t} h = record { type = t; there = h }

pub types_are : (t : Ty) → types t ≡ suc (inside (scalar_of t))
types_are (ty p k) = refl

-- ---- the first, and those after it

module _ (s : List ℕ) (at : ℕ) (p : Shape) (k : Scalar) (f : Fields) where
  pub list-first : (moves : Bool) → ListAt moves s at (field p k f) → TypeAt s at max_depth (ty p k)
  list-first true h = first_field s at max_depth h
  list-first false h = h.0

  pub list_rest : (moves : Bool) → ListAt moves s at (field p k f) → ListAt moves s (next_place moves at (ty p k)) f
  list_rest true h = rest-fields s at max_depth h
  list_rest false h = h.1

pub list_copies : (s : List ℕ) (at : ℕ) (t : Ty) → TypeAt s at max_depth t → (n : ℕ) → ListAt false s at (copies n t)
unfolding copies
list_copies s at (ty p k) h zero = tt
list_copies s at (ty p k) h (suc n) = (h, list_copies s at (ty p k) h n)

-- the place after a type, by its span
pub next-by-span : (moves : Bool) {at next : ℕ} {t : Ty} {r : Span} → SpanIs at t r → next ≡ cond moves r.end at → next ≡ next_place moves at t
next-by-span moves {at} span e = e ∙ ap (λ n. cond moves n at) span.ends

-- ---- counted one by one

module _ {s : List ℕ} {f : Fields} {moves : Bool} {at left types : ℕ} (g : Counting s f moves at left types) where
  pub count-has : 0 < left → HasType s at max_depth
  count-has l = go g.rest g.there g.counted
    where
      go : (r : Fields) → ListAt moves s at r → field_count r ≡ left → HasType s at max_depth
      go no_fields h c = absurd (omega arith)
      go (field p k r) h c = has (list-first s at p k r moves h)

  module _ (l : 0 < left) {r : Span} (spans : (t : Ty) → TypeAt s at max_depth t → SpanIs at t r) where
    pub count_next : {next after : ℕ} → after + 1 ≡ left → next ≡ cond moves r.end at → Counting s f moves next after (types + r.types)
    unfolding among
    count_next {next} {after} one moved = go g.rest g.there g.counted g.number
      where
        go : (q : Fields) → ListAt moves s at q → field_count q ≡ left → among f ≡ types + among q → Counting s f moves next after (types + r.types)
        go no_fields h c x = absurd (omega arith)
        go (field p k q) h c x =
            let span = spans (ty p k) (list-first s at p k q moves h) in
            record { rest = q; there = rw (next-by-span moves span moved) (list_rest s at p k q moves h); counted = omega (arith, c); number = omega (arith, x, span.types) }

    pub count-few : among f ≤ max_types → types + r.types ≤ max_types
    count-few few = let n = count_next {after = left - 1} (omega arith) refl in omega (arith, n.number)

  pub count-end : left ≡ 0 → types ≡ among f
  unfolding among
  count-end z = go g.rest g.counted g.number
    where
      go : (r : Fields) → field_count r ≡ left → among f ≡ types + among r → types ≡ among f
      go no_fields c x = omega (arith, x)
      go (field p k r) c x = absurd (omega (arith, z))
