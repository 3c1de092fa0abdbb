-- The public calls that validate: two lone types as a pair at place 0, and what was written as the record of a type.
use Prim.Native.Nat.{ℕ, suc, ◌+◌, ◌-◌, ◌*◌, ◌≤◌}
use native.Mathlib.Omega.{arith}
use mathlib.Core.List.{List, [], ◌++◌}
use mathlib.Core.Path.{◌≡◌, refl, sym, ◌∙◌, ap, subst}
use lib.ListN.{length, take}
use Rattle.std.specs.Prelude.{Ok, Err}
use Rattle.model.specs.Limits.{max_types, max_depth, max_bytes}
use Rattle.model.specs.Within.{ShapeWithin}
use Rattle.model.specs.Types.{Shape, Scalar, Ty, ty, shape_of, inside}
use Rattle.format.specs.Reader.{Bytes}
use Rattle.format.specs.Records.{write_shape, write_scalar, write_ty}
use Rattle.format.specs.Suffices.{shape_bytes, box_bytes, shape-suffices}
use Rattle.format.specs.Outcome.{Outcome, accepted, refused, mapped, both, lone}
use Rattle.lent.specs.Over.{over}
use Rattle.limits.specs.Answers.{number_of}
use Rattle.limits.specs.declared.refusal.Reason.{Reason}
use Rattle.record.specs.Answers.{nothings, shape_for}
use Rattle.record.specs.declared.DynShape.{DynShape}
use Rattle.record.proofs.LoneLaws.{both-accepted}
use Rattle.validation.specs.CheckShape.{Side}
use Rattle.validation.specs.CheckScalar.{in_turn}
use Rattle.validation.specs.Validate.{validate, check_scalar_only}
use Rattle.validation.proofs.KeepsLaws.{check_scalar-keeps}
use Rattle.validation.specs.MeasureLaws.{limited}
use Rattle.validation.proofs.MeasureLaws.{limited-of, limited-counts, limited-true}
use Rattle.validation.proofs.CheckScalarSteps.{validate-limited, check_scalar_only-limited}
use Rattle.known.specs.Known.{TypeAt}
use Rattle.known.proofs.WholeLaws.{type-there}
use Rattle.validate.specs.Plans.{Pair, scalar_after, shape_after, type_after}
use Rattle.validate.specs.Walk.{type_bytes, piece, scalar_piece, type_piece, TypeDone, ScalarDone}
use Rattle.validate.specs.declared.Extent.{Extent}
use Rattle.validate.proofs.WalkLaws.{laid-behind, scalar-few}

-- ---- two lone types

pub record Lones (s t : List ℕ) : Type 0 where
  pub pair : Pair s 0 t 0 0 0
  pub first : lone s ≡ accepted (ty pair.spec-shape pair.spec-scalar)
  pub second : lone t ≡ accepted (ty pair.type-shape pair.type-scalar)

pub lones : (s t : List ℕ) → Bytes s → Bytes t → both nothings (lone s) (lone t) ≡ accepted 0 → Lones s t
lones s t small little e =
    both-accepted (lone s) (lone t) e λ a b f g. go a b f g
  where
    go : (a b : Ty) → lone s ≡ accepted a → lone t ≡ accepted b → Lones s t
    go (ty p k) (ty q l) f g =
        let x = type-there s small (ty p k) f in
        let y = type-there t little (ty q l) g in
        record {
          pair = record {
            spec-shape = p;
            spec-scalar = k;
            type-shape = q;
            type-scalar = l;
            spec-there = x;
            type-there = y;
            limits = limited-of 0 0 l (omega (arith, y.few)) (omega (arith, y.shallow));
          };
          first = f;
          second = g;
        }

-- ---- `validate`

module _ (u : Outcome Ty) (out : List ℕ) where
  type-written : (x : Extent) → accepted (piece (take x.end out) x.types) ≡ mapped (type_piece []) u → mapped write_ty u ≡ accepted (take x.end out)
  unfolding write_ty
  type-written x wrote = go u wrote
    where
      go : (u : Outcome Ty) → accepted (piece (take x.end out) x.types) ≡ mapped (type_piece []) u → mapped write_ty u ≡ accepted (take x.end out)
      go (accepted (ty v k)) q = let b : take x.end out ≡ write_shape v ++ write_scalar k = cc in ap accepted (sym b)
      go (refused k p) q = let z : ◌≡◌ {A = ℕ} 0 1 = cc in absurd (omega arith)

  type-not : {m : ℕ} → refused m 0 ≡ mapped (type_piece []) u → mapped write_ty u ≡ refused m 0
  type-not {m} wrote = go u wrote
    where
      go : (u : Outcome Ty) → refused m 0 ≡ mapped (type_piece []) u → mapped write_ty u ≡ refused m 0
      go (accepted (ty v x)) q = let z : ◌≡◌ {A = ℕ} 0 1 = cc in absurd (omega arith)
      go (refused k p) q = let a : k ≡ m = cc in let b : p ≡ 0 = cc in rw (a, b)

-- its types are few, so that it ends inside the buffer
type-few : {s : List ℕ} {i : ℕ} {t : List ℕ} {j o a : ℕ} (w : Pair s i t j o a) (oh : Outcome Shape) (out before : List ℕ) (e : ℕ) {n : ℕ}
    → accepted (piece (take e out) n) ≡ mapped (type_piece before) (in_turn (scalar_after w) oh) → n ≤ max_types
type-few {s} {i} {t} {j} {o} {a} w oh out before e {n} h = go (scalar_after w) oh refl h
  where
    go : (os : Outcome Scalar) (oh : Outcome Shape) → scalar_after w ≡ os → accepted (piece (take e out) n) ≡ mapped (type_piece before) (in_turn os oh) → n ≤ max_types
    go (accepted x) (accepted v) q c =
        let m : n ≡ suc (inside x) = cc in
        let k = check_scalar-keeps w.spec-scalar (limited o a) (limited-counts o a) w.type-shape w.type-scalar x w.limits q in
        omega (arith, m, (limited-true o a x k).0)
    go (accepted x) (refused k p) q c = let z : ◌≡◌ {A = ℕ} 0 1 = cc in absurd (omega arith)
    go (refused k p) oh q c = let z : ◌≡◌ {A = ℕ} 0 1 = cc in absurd (omega arith)

module _ {s t : List ℕ} (v : Lones s t) (side : Side) where
  -- what the call comes to
  abbrev pub validation : Outcome (List ℕ)
  validation = both (λ a b. mapped write_ty (validate side a b)) (lone s) (lone t)

  validated : validation ≡ mapped write_ty (type_after side v.pair)
  validated = rw (v.first, v.second) (ap (mapped write_ty) (validate-limited side v.pair.spec-shape v.pair.type-shape v.pair.spec-scalar v.pair.type-scalar))

  module _ (before out : List ℕ) where
    pub validate-done : {x : Extent} → TypeDone side v.pair 0 before (Ok x) out → validation ≡ accepted (take x.end out)
    validate-done {x} done = validated ∙ type-written (type_after side v.pair) out x done.0

    pub validate-not : (r : Reason) → TypeDone side v.pair 0 before (Err r) out → validation ≡ refused (number_of r) 0
    validate-not r done = validated ∙ type-not (type_after side v.pair) out done.0

    pub validate-ends : {x : Extent} → TypeDone side v.pair 0 before (Ok x) out → x.end ≤ max_bytes
    validate-ends {x} done =
        let few = type-few v.pair (shape_after side v.pair) out [] x.end done.0 in
        omega (arith, few, done.1)

-- ---- `check_scalar`, behind a shape that was laid at the front

module _ (q : Shape) (before : List ℕ) (b : before ≡ write_shape q) (x : Outcome Scalar) (out : List ℕ) where
  scalar-written : (y : Extent) → accepted (piece (take y.end out) y.types) ≡ mapped (scalar_piece before) x → mapped write_ty (mapped (ty q) x) ≡ accepted (take y.end out)
  unfolding write_ty
  scalar-written y wrote = go x wrote
    where
      go : (x : Outcome Scalar) → accepted (piece (take y.end out) y.types) ≡ mapped (scalar_piece before) x → mapped write_ty (mapped (ty q) x) ≡ accepted (take y.end out)
      go (accepted k) c = let l : take y.end out ≡ before ++ write_scalar k = cc in ap accepted (sym (l ∙ ap (λ w. w ++ write_scalar k) b))
      go (refused k p) c = let z : ◌≡◌ {A = ℕ} 0 1 = cc in absurd (omega arith)

  scalar-not : {m : ℕ} → refused m 0 ≡ mapped (scalar_piece before) x → mapped write_ty (mapped (ty q) x) ≡ refused m 0
  scalar-not {m} wrote = go x wrote
    where
      go : (x : Outcome Scalar) → refused m 0 ≡ mapped (scalar_piece before) x → mapped write_ty (mapped (ty q) x) ≡ refused m 0
      go (accepted y) c = let z : ◌≡◌ {A = ℕ} 0 1 = cc in absurd (omega arith)
      go (refused k p) c = let a : k ≡ m = cc in let b : p ≡ 0 = cc in rw (a, b)

-- the type's shape o was laid at the front, up to n, which gave d
module _ {s t : List ℕ} (v : Lones s t) (o : DynShape) (shaped : (d : ℕ) (u : Ty) → TypeAt t 0 d u → shape_for o ≡ shape_of u) where
  -- what the call comes to
  abbrev pub scalar_check : Outcome (List ℕ)
  scalar_check = both (λ a b. mapped write_ty (check_scalar_only a b)) (lone s) (lone t)

  abbrev q : Shape
  q = v.pair.type-shape

  shape-is : shape_for o ≡ q
  shape-is = shaped max_depth (ty q v.pair.type-scalar) v.pair.type-there

  short : length (write_shape (shape_for o)) ≤ shape_bytes
  short = shape-suffices (shape_for o) (subst ShapeWithin (sym shape-is) v.pair.type-there.records.0)

  pub shape-fits : 0 + length (write_shape (shape_for o)) ≤ max_bytes
  shape-fits = omega (arith, short)

  module _ {n : ℕ} (begins : n ≡ 0 + length (write_shape (shape_for o))) (d : List ℕ) where
    pub front-room : length d ≡ max_bytes → n + box_bytes + type_bytes * (max_types - 1 - 0) ≤ length d
    front-room e = omega (arith, short)

    scalar-checked : scalar_check ≡ mapped write_ty (mapped (ty q) (scalar_after v.pair))
    scalar-checked = rw (v.first, v.second) (ap (mapped write_ty) (check_scalar_only-limited v.pair.spec-shape q v.pair.spec-scalar v.pair.type-scalar))

    module _ (out : List ℕ) where
      module _ (before : List ℕ) (full : length before ≡ max_bytes) (laid : d ≡ over before 0 (write_shape (shape_for o))) where
        front : take n d ≡ write_shape q
        front = laid-behind before (write_shape (shape_for o)) 0 begins (omega (arith, short)) laid ∙ ap write_shape shape-is

        pub check_done : {x : Extent} → ScalarDone v.pair n d (Ok x) out → scalar_check ≡ accepted (take x.end out)
        check_done {x} done = scalar-checked ∙ scalar-written q (take n d) front (scalar_after v.pair) out x done.0

        pub check_not : (r : Reason) → ScalarDone v.pair n d (Err r) out → scalar_check ≡ refused (number_of r) 0
        check_not r done = scalar-checked ∙ scalar-not q (take n d) front (scalar_after v.pair) out done.0

      pub check_ends : {x : Extent} → ScalarDone v.pair n d (Ok x) out → x.end ≤ max_bytes
      check_ends {x} done =
          let few = scalar-few v.pair n d out x done in
          omega (arith, short, few, done.1)
