-- A type from one layout to the other, head by head: of its bytes in both, those of what is still to come are left.
use Prim.Native.Nat.{ℕ, ◌+◌, ◌-◌, ◌≤◌, ◌<◌}
use native.Mathlib.Omega.{arith}
use mathlib.Core.List.{List, ◌++◌}
use mathlib.Core.Path.{◌≡◌, sym, ◌∙◌, ap, subst}
use lib.ListN.{length}
use Rattle.model.specs.Limits.{max_types}
use Rattle.model.specs.Types.{Shape, Scalar, Fields, no_fields, field, Ty, field_count}
use Rattle.model.specs.Within.{Within}
use Rattle.format.specs.Views.{Stands, stands-all, stands-first, stands-within}
use Rattle.format.specs.Records.{write_ty}
use Rattle.lent.specs.Over.{over}
use Rattle.packing.proofs.Coming.{count-contents, Coming, coming-one_field, coming-contents, coming-shape, coming-scalar, coming-few, coming-shallow, coming-count, count-one_field, none-coming, some-coming}
use Rattle.packing.proofs.HeadLaws.{fields_in-none, fields_in-one_field, scalar_in-head, fields_in-head}
use Rattle.packing.specs.Heads.{one_field, contents, held_count}
use Rattle.packing.specs.Layouts.{Layout, as_record, as_packed, shape_in, head_in, scalar_in, fields_in, type_in}
use Rattle.packing.specs.Packed.{Packable, Packs, Unpackable, Unpacks}
use Rattle.packing.proofs.PackedOnce.{type_once_at}
use Rattle.packing.specs.Parts.{ShapeThere, ScalarThere, HasShape, HasHead, After}
use Rattle.packing.proofs.Halfway.{Before, before-first, Halfway, halfway-none, halfway-length, halfway-before, halfway-more, halfway-all}
use Rattle.packing.proofs.ShapeLaws.{shape_least}

-- A type that lies in one layout, and room for it in the other.
pub record TypeAsked (v w : Layout) (s : List ℕ) (from : ℕ) (out : List ℕ) (to : ℕ) : Type 0 where
  pub type : Ty
  pub within : Within type
  pub before : Before s from (type_in v type) out to (type_in w type)

-- Of the type asked for, so many types are left, those inside them not counted.
pub record TypesLeft (v w : Layout) (s : List ℕ) (start : ℕ) (out₀ : List ℕ) (place : ℕ) (out : List ℕ) (from to left : ℕ) : Type 0 where
  pub asked : TypeAsked v w s start out₀ place
  pub fields : Fields
  pub coming : Coming fields
  pub counted : field_count fields ≡ left
  pub halfway : Halfway start (type_in v asked.type) out₀ place (type_in w asked.type) out from to (fields_in v fields) (fields_in w fields)

module _ {v w : Layout} {s : List ℕ} {start : ℕ} {out₀ : List ℕ} {place : ℕ} where
  pub types-none : TypeAsked v w s start out₀ place → TypesLeft v w s start out₀ place out₀ start place 1
  types-none h = record {
    asked = h;
    fields = one_field h.type;
    coming = coming-one_field h.type h.within;
    counted = count-one_field h.type;
    halfway = rw (fields_in-one_field v h.type, fields_in-one_field w h.type) halfway-none;
  }

  module _ {out : List ℕ} {from to left : ℕ} (h : TypesLeft v w s start out₀ place out from to left) where
    abbrev Reached : List ℕ → ℕ → ℕ → List ℕ → List ℕ → Type 0
    Reached o f t x y = Halfway start (type_in v h.asked.type) out₀ place (type_in w h.asked.type) o f t x y

    pub types-length : length out ≡ length out₀
    types-length = halfway-length h.asked.before h.halfway

    -- the next head: a shape o and a scalar k, and f behind its contents
    module _ (more : 0 < left) where
      abbrev Next : Shape → Scalar → Fields → Type 0
      Next o k f = Reached out from to (shape_in v o ++ (head_in v k ++ fields_in v (contents k f))) (shape_in w o ++ (head_in w k ++ fields_in w (contents k f)))

      next : {C : Type 0} → ((o : Shape) (k : Scalar) (f : Fields) → Coming (field o k f) → left ≡ field_count (field o k f) → Next o k f → C) → C
      next go = some-coming h.fields (omega (arith, h.counted)) λ o k f is.
          let way : Reached out from to (fields_in v (field o k f)) (fields_in w (field o k f)) = rw is at h.halfway in
          go o k f (subst Coming is h.coming) (sym h.counted ∙ ap field_count is) (rw (fields_in-head v o k f, fields_in-head w o k f) at way)

      module _ (o : Shape) (k : Scalar) (f : Fields) (coming : Coming (field o k f)) (way : Next o k f) where
        shape-before : Before s from (shape_in v o) out to (shape_in w o)
        shape-before = before-first (shape_in v o) (shape_in w o) _ _ (halfway-before h.asked.before way)

        shape-stands : ShapeThere v s from o
        shape-stands = record { stands = shape-before.stands; within = coming-shape o k f coming }

      pub next-shape : HasShape v w s from out to
      next-shape = next λ o k f coming counted way. record { shape = o; there = shape-stands o k f coming way; room = (shape-before o k f coming way).room }

      -- its shape done
      module _ {out₁ : List ℕ} {from₁ to₁ : ℕ} (shaped : (o : Shape) → ShapeThere v s from o → After from (shape_in v o) out to (shape_in w o) out₁ from₁ to₁) where
        module _ (o : Shape) (k : Scalar) (f : Fields) (coming : Coming (field o k f)) (way : Next o k f) where
          past : Reached out₁ from₁ to₁ (head_in v k ++ fields_in v (contents k f)) (head_in w k ++ fields_in w (contents k f))
          past = halfway-more h.asked.before (shape_in v o) (shape_in w o) way (shaped o (shape-stands o k f coming way))

          behind : Before s from₁ (head_in v k ++ fields_in v (contents k f)) out₁ to₁ (head_in w k ++ fields_in w (contents k f))
          behind = halfway-before h.asked.before past

          scalar-stands : ScalarThere v s from₁ k
          scalar-stands = record {
            stands = stands-first s from₁ (scalar_in v k) (fields_in v f) (rw (scalar_in-head v k f) behind.stands);
            within = coming-scalar o k f coming;
            few = coming-few o k f coming;
            shallow = omega (arith, coming-shallow o k f coming);
          }

        pub next-head : HasHead v w s from₁ out₁ to₁
        next-head = next λ o k f coming counted way. record {
          scalar = k;
          there = scalar-stands o k f coming way;
          room = (before-first (head_in v k) (head_in w k) _ _ (behind o k f coming way)).room;
        }

        -- and its scalar up to its contents
        module _
            {out₂ : List ℕ}
            {from₂ to₂ count : ℕ}
            (headed : (k : Scalar) → ScalarThere v s from₁ k → After from₁ (head_in v k) out₁ to₁ (head_in w k) out₂ from₂ to₂ × (count ≡ held_count k)) where
          pub next-left : TypesLeft v w s start out₀ place out₂ from₂ to₂ (left - 1 + count)
          next-left = next λ o k f coming counted way.
              let (done, many) = headed k (scalar-stands o k f coming way) in
              record {
                asked = h.asked;
                fields = contents k f;
                coming = coming-contents o k f coming;
                counted = omega (arith, count-contents k f, counted, many);
                halfway = halfway-more h.asked.before (head_in v k) (head_in w k) (past o k f coming way) done;
              }

          -- how many are left is a small number, and what is left to read is shorter
          pub next-few : left - 1 + count ≤ max_types
          next-few = omega (arith, next-left.counted, coming-count next-left.fields next-left.coming)

          pub next-falls : length s - from₂ < length s - from
          next-falls = next λ o k f coming counted way.
              let shape = shaped o (shape-stands o k f coming way) in
              let head = (headed k (scalar-stands o k f coming way)).0 in
              omega (arith, shape.read, head.read, shape_least v o, stands-within s from (shape_in v o) (omega (arith, shape_least v o)) (shape-before o k f coming way).stands)

    types-all : left ≡ 0 → (t : Ty) → Within t → Stands s start (type_in v t) → out ≡ over out₀ place (type_in w t)
    types-all ended t within stands =
        let none : h.fields ≡ no_fields = none-coming h.fields (h.counted ∙ ended) in
        let same : t ≡ h.asked.type = type_once_at v s start t h.asked.type within h.asked.within stands h.asked.before.stands in
        rw same (halfway-all (rw (none, fields_in-none v, fields_in-none w) at h.halfway)).laid

-- ---- what is asked of packing and of unpacking, and what they answer

pub packable : {s out : List ℕ} {to : ℕ} → Packable s out to → TypeAsked as_record as_packed s 0 out to
packable {s} h = record {
  type = h.type;
  within = h.within;
  before = record { stands = stands-all s (write_ty h.type) (sym h.bytes); room = h.room };
}

pub packs : {s out₀ : List ℕ} {place : ℕ} {out : List ℕ} {from to left : ℕ} → left ≡ 0 → TypesLeft as_record as_packed s 0 out₀ place out from to left → Packs s out₀ place out
packs {s} ended h t within bytes = types-all h ended t within (stands-all s (write_ty t) (sym bytes))

pub unpackable : {s : List ℕ} {from : ℕ} {out : List ℕ} {to : ℕ} → Unpackable s from out to → TypeAsked as_packed as_record s from out to
unpackable h = record { type = h.type; within = h.within; before = record { stands = h.stands; room = h.room } }

pub unpacks : {s : List ℕ} {start : ℕ} {out₀ : List ℕ} {place : ℕ} {out : List ℕ} {from to left : ℕ} → left ≡ 0 → TypesLeft as_packed as_record s start out₀ place out from to left → Unpacks s start out₀ place out
unpacks ended h = types-all h ended
