-- Skipping: one law for each way out of a function, and what is known as the fields are passed one by one.
use Prim.Native.Nat.{ℕ, suc, ◌+◌, ◌-◌, ◌≤◌, ◌<◌, max}
use native.Mathlib.Omega.{arith}
use mathlib.Core.Bool.{Bool}
use mathlib.Core.List.{List, ◌∷◌, ◌++◌}
use mathlib.Core.Path.{◌≡◌, refl, sym, ◌∙◌, ap, subst}
use lib.ListN.{length, length-append}
use Rattle.model.specs.Limits.{max_types}
use Rattle.model.specs.Types.{Scalar, Fields, no_fields, field, Ty, ty, shape_of, scalar_of, field_count, inside, among, below, deepest}
use Rattle.format.specs.Records.{list_of, write_shape, write_scalar, write_fields, write_ty}
use Rattle.rules.specs.Types.{field_in, stretch_in}
use Rattle.known.specs.Known.{TypeAt, ScalarAt, FieldsAt, HasType, HasScalar, HasFields, SpanIs, ScalarSpan, FieldsSpan, FieldIs, SeenPlain, SeenAny, SeenAll, SeenDef}
use Rattle.known.proofs.KnownLaws.{scalar-behind, behind-ends, first_field, rest-fields}
use Rattle.known.specs.declared.Span.{Span}

-- ---- a scalar that was looked at

module _ (at : ℕ) (k : Scalar) where
  pub span_plain : {c end : ℕ} → SeenPlain at k c end → ScalarSpan at k (record { types = 0; depth = 0; end = end })
  unfolding inside below
  span_plain seen = record { types = sym (ap inside seen.is); depth = sym (ap below seen.is); ends = seen.ends }

  pub span_any : {end : ℕ} → SeenAny at k end → ScalarSpan at k (record { types = 0; depth = 0; end = end })
  unfolding inside below
  span_any seen = record { types = sym (ap inside seen.is); depth = sym (ap below seen.is); ends = seen.ends }

module _ (s : List ℕ) (at d : ℕ) where
  module _ (h : HasScalar s at d) where
    pub has_content : {c : ℕ} → ((d : ℕ) (k : Scalar) → ScalarAt s at d k → SeenAll s at d k c) → HasType s c d
    has_content looked = let seen = looked d h.scalar h.there in record { type = ty seen.shape seen.scalar; there = seen.there }

    pub has_fields : {name fields count : ℕ} {named : Bool} → ((d : ℕ) (k : Scalar) → ScalarAt s at d k → SeenDef s at d k name named fields count) → HasFields s fields d count
    has_fields looked = let seen = looked d h.scalar h.there in record { fields = seen.held; there = seen.there; counted = sym seen.counted }

  module _ (k : Scalar) where
    pub span_all : {c : ℕ} {r : Span} → SeenAll s at d k c → ((t : Ty) → TypeAt s c d t → SpanIs c t r) → ScalarSpan at k r
    unfolding inside below write_scalar write_ty
    span_all seen spans =
        let whole = ap (λ k. length (write_scalar k)) seen.is in
        let span = spans (ty seen.shape seen.scalar) seen.there in
        record { types = span.types ∙ sym (ap inside seen.is); depth = span.depth ∙ sym (ap below seen.is); ends = omega (arith, whole, span.ends, seen.place) }

    pub span_def : {name fields count : ℕ} {named : Bool} {r : Span} → SeenDef s at d k name named fields count → ((f : Fields) → FieldsAt s fields d f → field_count f ≡ count → FieldsSpan fields f r) → ScalarSpan at k r
    unfolding inside below write_scalar
    span_def seen spans =
        let whole = ap (λ k. length (write_scalar k)) seen.is in
        let span = spans seen.held seen.there (sym seen.counted) in
        let long = length-append (list_of seen.label) (field_count seen.held ∷ write_fields seen.held) in
        record { types = span.types ∙ sym (ap inside seen.is); depth = span.depth ∙ sym (ap below seen.is); ends = omega (arith, whole, long, span.ends, seen.place, seen.behind) }

-- ---- a type, whose scalar begins at `place`

module _ (s : List ℕ) (at d : ℕ) {place : ℕ} (begins : (d : ℕ) (t : Ty) → TypeAt s at d t → place ≡ at + length (write_shape (shape_of t))) (r : Span) (spans : (k : Scalar) → ScalarAt s place (d - 1) k → ScalarSpan place k r) where
  scalar_span : (t : Ty) → TypeAt s at d t → ScalarSpan place (scalar_of t) r
  scalar_span t h = spans (scalar_of t) (scalar-behind s at begins d t h)

  pub few_inside : HasType s at d → r.types < max_types
  few_inside h = go h.type h.there
    where
      go : (t : Ty) → TypeAt s at d t → r.types < max_types
      go (ty o k) h = omega (arith, h.few, (scalar_span (ty o k) h).types)

  pub shallow_inside : HasType s at d → r.depth < d
  shallow_inside h = go h.type h.there
    where
      go : (t : Ty) → TypeAt s at d t → r.depth < d
      go (ty o k) h = omega (arith, h.shallow, (scalar_span (ty o k) h).depth)

  pub span_type : (t : Ty) → TypeAt s at d t → SpanIs at t (record { types = r.types + 1; depth = r.depth + 1; end = r.end })
  span_type (ty o k) h =
      let span = scalar_span (ty o k) h in
      record { types = omega (arith, span.types); depth = omega (arith, span.depth); ends = span.ends ∙ behind-ends s at begins d (ty o k) h }

-- ---- fields, of which i are passed

-- with the rest still to pass
pub record Passed (s : List ℕ) (start d : ℕ) (f : Fields) (types deep at i : ℕ) (rest : Fields) : Type 0 where
  pub there : FieldsAt s at d rest
  pub counted : i + field_count rest ≡ field_count f
  pub number : among f ≡ types + among rest
  pub deepest : deepest f ≡ max deep (deepest rest)
  pub ends : start + length (write_fields f) ≡ at + length (write_fields rest)

pub record Skipping (s : List ℕ) (start d : ℕ) (f : Fields) (types deep at i : ℕ) : Type 0 where
  pub rest : Fields
  pub passed : Passed s start d f types deep at i rest

pub skip_start : (s : List ℕ) (start d : ℕ) (f : Fields) → FieldsAt s start d f → Skipping s start d f 0 0 start 0
skip_start s start d f h = record { rest = f; passed = record { there = h; counted = omega arith; number = omega arith; deepest = omega arith; ends = refl } }

module _ {s : List ℕ} {start d : ℕ} {f : Fields} {types deep at i : ℕ} (g : Skipping s start d f types deep at i) where
  module _ (l : i < field_count f) where
    pub skip_has : HasType s at d
    skip_has = go g.rest g.passed
      where
        go : (q : Fields) → Passed s start d f types deep at i q → HasType s at d
        go no_fields h = absurd (omega (arith, h.counted))
        go (field o k q) h = record { type = ty o k; there = first_field s at d h.there }

    module _ {r : Span} (spans : (t : Ty) → TypeAt s at d t → SpanIs at t r) where
      pub skip_few : FieldsAt s start d f → types + r.types < max_types
      unfolding among
      skip_few whole = go g.rest g.passed
        where
          go : (q : Fields) → Passed s start d f types deep at i q → types + r.types < max_types
          go no_fields h = absurd (omega (arith, h.counted))
          go (field o k q) h = omega (arith, whole.few, h.number, (spans (ty o k) (first_field s at d h.there)).types)

      pub skip_next : {m : ℕ} → m ≡ max r.depth deep → Skipping s start d f (types + r.types) m r.end (i + 1)
      unfolding among deepest write_fields write_ty
      skip_next {m} e = go g.rest g.passed
        where
          next : (q : Fields) → Passed s start d f (types + r.types) m r.end (i + 1) q → Skipping s start d f (types + r.types) m r.end (i + 1)
          next q h = record { rest = q; passed = h }

          go : (q : Fields) → Passed s start d f types deep at i q → Skipping s start d f (types + r.types) m r.end (i + 1)
          go no_fields h = absurd (omega (arith, h.counted))
          go (field o k q) h =
              let span = spans (ty o k) (first_field s at d h.there) in
              let long = length-append (write_shape o ++ write_scalar k) (write_fields q) in
              next q (record {
                there = subst (λ p. FieldsAt s p d q) (sym span.ends) (rest-fields s at d h.there);
                counted = omega (arith, h.counted);
                number = omega (arith, h.number, span.types);
                deepest = omega (arith, h.deepest, e, span.depth);
                ends = omega (arith, h.ends, span.ends, long);
              })

  pub skip_end : field_count f ≤ i → FieldsSpan start f (record { types = types; depth = deep; end = at })
  unfolding among deepest write_fields
  skip_end z = go g.rest g.passed
    where
      go : (q : Fields) → Passed s start d f types deep at i q → FieldsSpan start f (record { types = types; depth = deep; end = at })
      go no_fields h = record { types = omega (arith, h.number); depth = omega (arith, h.deepest); ends = omega (arith, h.ends) }
      go (field o k q) h = absurd (omega (arith, h.counted))

-- ---- field n: i fields are passed on the way to it

pub record Reaching (s : List ℕ) (start d n : ℕ) (f : Fields) (at i : ℕ) : Type 0 where
  pub rest : Fields
  pub there : FieldsAt s at d rest
  pub low : n - i < field_count rest
  pub is : field_in n f ≡ field_in (n - i) rest
  pub stretched : stretch_in start n f ≡ stretch_in at (n - i) rest

pub reach_start : (s : List ℕ) (start d n : ℕ) (f : Fields) → FieldsAt s start d f → n < field_count f → Reaching s start d n f start 0
reach_start s start d n f h l =
    let whole : n - 0 ≡ n = omega arith in
    record { rest = f; there = h; low = rw whole l; is = rw whole; stretched = rw whole }

module _ {s : List ℕ} {start d n : ℕ} {f : Fields} {at i : ℕ} (g : Reaching s start d n f at i) where
  pub reach_has : HasType s at d
  reach_has = go g.rest g.there g.low
    where
      go : (r : Fields) → FieldsAt s at d r → n - i < field_count r → HasType s at d
      go no_fields h l = absurd (omega arith)
      go (field o k r) h l = record { type = ty o k; there = first_field s at d h }

  pub reach_next : i < n → {next : ℕ} → ((t : Ty) → TypeAt s at d t → next ≡ at + length (write_ty t)) → Reaching s start d n f next (i + 1)
  unfolding field_in stretch_in
  reach_next l {next} ends = go (n - (i + 1)) g.rest (omega arith) g.there g.low g.is g.stretched
    where
      go : (m : ℕ) (r : Fields) → n - i ≡ suc m → FieldsAt s at d r → n - i < field_count r → field_in n f ≡ field_in (n - i) r → stretch_in start n f ≡ stretch_in at (n - i) r → Reaching s start d n f next (i + 1)
      go m no_fields x h low is st = absurd (omega arith)
      go m (field o k r) x h low is st =
          let y : n - (i + 1) ≡ m = omega arith in
          record {
            rest = r;
            there = rw (ends (ty o k) (first_field s at d h)) (rest-fields s at d h);
            low = omega arith;
            is = rw y (rw x at is);
            stretched = rw (y, ends (ty o k) (first_field s at d h)) (rw x at st);
          }

  pub reach_end : n ≤ i → FieldIs s start d n f at
  unfolding field_in stretch_in
  reach_end z = let none : n - i ≡ 0 = omega arith in go g.rest g.there (rw none at g.low) (rw none at g.is) (rw none at g.stretched)
    where
      go : (r : Fields) → FieldsAt s at d r → 0 < field_count r → field_in n f ≡ field_in 0 r → stretch_in start n f ≡ stretch_in at 0 r → FieldIs s start d n f at
      go no_fields h low is st = absurd (omega arith)
      go (field o k r) h low is st = record { type = ty o k; is = is; there = first_field s at d h; stretched = st }
