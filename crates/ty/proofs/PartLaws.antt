-- Lone types that were read: their parts, and what their scalars are.
use Prim.Native.Nat.{ℕ, ◌-◌, ◌≤◌}
use native.Mathlib.Omega.{arith}
use mathlib.Core.Bool.{Bool}
use mathlib.Core.List.{List}
use mathlib.Core.Path.{◌≡◌, sym, ◌∙◌, ap}
use lib.ListN.{length, drop, length-drop, length-append}
use lib.Seq.{drop-drop}
use Rattle.model.specs.Limits.{max_depth}
use Rattle.model.specs.Types.{Shape, Scalar, plain, Ty, ty, scalar_of}
use Rattle.format.specs.Reader.{Bytes}
use Rattle.format.specs.Records.{write_scalar, write_ty}
use Rattle.format.specs.Outcome.{accepted, mapped, lone}
use Rattle.format.specs.ReadWrite.{lone_write}
use Rattle.format.specs.Suffices.{suffices}
use Rattle.format.specs.Views.{rest-is}
use Rattle.record.specs.Answers.{nothing}
use Rattle.record.proofs.LoneLaws.{passed-accepted}
use Rattle.rules.specs.Types.{before_fields, write_boxes}
use Rattle.known.specs.Known.{ScalarAt, HasType, HasScalar, SeenPlain, SeenAny, SeenAll, SeenDef, Seen}
use Rattle.known.proofs.KnownLaws.{type-within, name-within, fields_deeper, has-scalar}
use Rattle.known.proofs.WholeLaws.{type-there, has-type, Begins, record_there, scalar-there, whole-shape}
use Rattle.known.specs.declared.View.{View}
use Rattle.known.specs.declared.View.TheVariants.{Plain, BoxAny, BoxAll, BoxDef}
use Rattle.ty.specs.Parts.{LonePlain, LoneAny, LoneAll, Inside}

-- ---- the type is known, and so is its scalar, which begins at `at`

module _ (s : List ℕ) (small : Bytes s) (good : mapped nothing (lone s) ≡ accepted 0) where
  pub type_known : (d : ℕ) × HasType s 0 d
  type_known = (max_depth, has-type s small good)

  module _ {at : ℕ} (begins : Begins s at) where
    pub scalar_known : (d : ℕ) × HasScalar s at d
    scalar_known = (max_depth - 1, has-scalar s 0 begins max_depth (has-type s small good))

pub ruleset shaped = (type_known, whole-shape)

-- ---- what the scalar is

module _ (s : List ℕ) (small : Bytes s) {at : ℕ} (begins : Begins s at) (o : Shape) (k : Scalar) (is : lone s ≡ accepted (ty o k)) where
  told_as : {l : Scalar} → k ≡ l → lone s ≡ accepted (ty o l)
  told_as e = is ∙ ap (λ l. accepted (ty o l)) e

  rest : {l : Scalar} → k ≡ l → drop at s ≡ write_scalar l
  rest e = record_there s small begins (ty o k) is ∙ ap write_scalar e

  whole_plain : {c end : ℕ} → SeenPlain at k c end → LonePlain s
  whole_plain x = record { shape = o; kind = x.kind; is = told_as x.is; bytes = (lone_write s small (ty o (plain x.kind)) (told_as x.is)).0 }

  whole_any : {end : ℕ} → SeenAny at k end → LoneAny s
  whole_any x = record { shape = o; is = told_as x.is }

  whole_all : {start : ℕ} → SeenAll s at (max_depth - 1) k start → LoneAll s start
  unfolding write_scalar write_ty
  whole_all {start} x =
      let held = drop start s ≡ write_ty (ty x.shape x.scalar) in
      let bytes : held = ap (λ p. drop p s) x.place ∙ sym (drop-drop 6 at s) ∙ ap (drop 6) (rest x.is) in
      let (whole, within) = lone_write s small (ty o k) is in
      record {
        shape = o;
        held_shape = x.shape;
        held_scalar = x.scalar;
        is = told_as x.is;
        within = omega (arith, type-within s start (max_depth - 1) (ty x.shape x.scalar) x.there);
        bytes = rest-is s start ∙ bytes;
        short = omega (arith, ap length bytes, length-drop start s, ap length whole, suffices (ty o k) within);
      }

  whole_def : {name start count : ℕ} {named : Bool} → SeenDef s at (max_depth - 1) k name named start count → Inside s (BoxDef name named start count)
  unfolding write_scalar write_boxes
  whole_def {name} {start} x =
      let place : length (before_fields o x.label x.held) ≡ start = simp length-append (omega (arith, x.place, x.behind, begins max_depth (ty o k) (type-there s small (ty o k) is))) in
      let deep : max_depth - 1 ≤ max_depth = omega arith in (
        record {
          shape = o;
          name = x.label;
          fields = x.held;
          is = told_as x.is;
          place = place;
          counted = sym x.counted;
          there = fields_deeper s start (max_depth - 1) deep x.there;
        },
        omega (arith, name-within s name x.label x.titled),
        rest-is s name ∙ ap (λ p. drop p s) x.place ∙ sym (drop-drop 6 at s) ∙ ap (drop 6) (rest x.is),
      )

module _ (s : List ℕ) (small : Bytes s) (good : mapped nothing (lone s) ≡ accepted 0) {at : ℕ} (begins : Begins s at) where
  pub inside : (v : View) → ((d : ℕ) (k : Scalar) → ScalarAt s at d k → Seen s at d k v) → Inside s v
  inside v seen = passed-accepted (lone s) good λ t is. go v t is (seen (max_depth - 1) (scalar_of t) (scalar-there s small begins t is))
    where
      go : (w : View) (t : Ty) → lone s ≡ accepted t → Seen s at (max_depth - 1) (scalar_of t) w → Inside s w
      go (Plain c end) (ty o k) is x = whole_plain s small begins o k is x
      go (BoxAny end) (ty o k) is x = whole_any s small begins o k is x
      go (BoxAll start) (ty o k) is x = whole_all s small begins o k is x
      go (BoxDef name named start count) (ty o k) is x = whole_def s small begins o k is x
