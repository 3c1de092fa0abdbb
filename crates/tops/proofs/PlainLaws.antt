-- The pervading of two types by what is known of their bytes: their shapes, or that both are closed and the scalars' union is of a kind.
use Rattle.std.specs.Prelude.{Err}
use Prim.Native.Nat.{ℕ}
use native.Mathlib.Omega.{arith}
use mathlib.Core.Bool.{Bool, true}
use mathlib.Core.List.{List}
use mathlib.Core.Option.{Option, none, some}
use mathlib.Core.Path.{◌≡◌, refl, sym, ◌∙◌, ap}
use Rattle.model.specs.Limits.{max_depth}
use Rattle.model.specs.Types.{Dim, Shape, shape, Ty, ty, shape_of}
use Rattle.format.specs.Reader.{Bytes}
use Rattle.format.specs.Records.{write_ty}
use Rattle.format.specs.Outcome.{accepted, mapped, both, lone, deliver}
use Rattle.limits.specs.Codes.{code_for}
use Rattle.limits.specs.declared.codes.Kind.{Kind}
use Rattle.limits.specs.declared.refusal.Reason.TheVariants.{Unpervaded}
use Rattle.lent.specs.Written.{Written, delivered}
use Rattle.lent.specs.Delivers.{deliver-refused, deliver-as}
use Rattle.record.specs.Answers.{nothing, nothings, shape_for}
use Rattle.record.specs.declared.DynShape.{DynShape}
use Rattle.record.proofs.LoneLaws.{passed-accepted}
use Rattle.rules.specs.PervadeInSheets.{pervade_in_sheets}
use Rattle.rules.specs.Scalars.{union}
use Rattle.rules.specs.KindTable.{contents_decide, union_number}
use Rattle.machine.specs.Run.{pervade_types}
use Rattle.known.specs.Known.{TypeAt, HasType, opening_of, is_closed}
use Rattle.known.proofs.KnownLaws.{closed-shape}
use Rattle.known.specs.Whole.{of_scalars}
use Rattle.known.proofs.WholeLaws.{type-there, has-types, first_good, second_good, whole-shape}
use Rattle.join.specs.UnionLaws.{union-plain}
use Rattle.tops.specs.Answers.{at_start}
use Rattle.tops.specs.Plain.{plainly}
use Rattle.tops.proofs.RuleLaws.{types-clash, types-pervade}

-- a type that was read, by what two looks at it say
module _ (s : List ℕ) (small : Bytes s) (good : mapped nothing (lone s) ≡ accepted 0) {sizes : List Dim} {closed : Bool}
    (opening : (d : ℕ) (t : Ty) → TypeAt s 0 d t → sizes ≡ opening_of (shape_of t))
    (says : (d : ℕ) (t : Ty) → TypeAt s 0 d t → closed ≡ is_closed (shape_of t)) where
  whole-closed : closed ≡ true → mapped shape_of (lone s) ≡ accepted (shape sizes none)
  whole-closed e = passed-accepted (lone s) good λ t h. rw h (ap accepted (closed-shape opening says max_depth t (type-there s small t h) e))

-- a kind is not the mark
kind_apart : (k : Kind) → code_for k ≡ contents_decide → ⊥
kind_apart k e = grind arith

module _ (a b : List ℕ) (good : both nothings (lone a) (lone b) ≡ accepted 0) (small : Bytes a) (small' : Bytes b) where
  pub first_known : (d : ℕ) × HasType a 0 d
  first_known = (max_depth, (has-types a b good small small').0)

  pub second_known : (d : ℕ) × HasType b 0 d
  second_known = (max_depth, (has-types a b good small small').1)

  module _ (f g : Bool) (before : List ℕ) where
    abbrev pub Pervades : Written → List ℕ → Type 0
    Pervades w out = delivered w out ≡ deliver (both (λ t u. mapped write_ty (at_start (pervade_types f g t u))) (lone a) (lone b)) before

    -- by their shapes
    module _ (o p : DynShape) (one : (d : ℕ) (t : Ty) → TypeAt a 0 d t → shape_for o ≡ shape_of t) (two : (d : ℕ) (t : Ty) → TypeAt b 0 d t → shape_for p ≡ shape_of t) where
      first : mapped shape_of (lone a) ≡ accepted (shape_for o)
      first = whole-shape a small (first_good a b good) o one

      second : mapped shape_of (lone b) ≡ accepted (shape_for p)
      second = whole-shape b small' (second_good a b good) p two

      pub any_clash : none ≡ pervade_in_sheets f g (shape_for o) (shape_for p) → Pervades (Err (record { 0 = Unpervaded; 1 = 0 })) before
      any_clash e = sym (deliver-refused before (types-clash f g (lone a) (lone b) first second good (sym e)))

      pub any_pervaded : (x : DynShape) (w : Written) (out : List ℕ) → some (shape_for x) ≡ pervade_in_sheets f g (shape_for o) (shape_for p)
          → delivered w out ≡ deliver (of_scalars (λ k l. write_ty (ty (shape_for x) (union k l))) a b) before → Pervades w out
      any_pervaded x w out e made = deliver-as before made (sym (types-pervade f g (lone a) (lone b) first second (sym e)))

    -- both closed, with these opening sizes, where the union of their scalars is the kind n
    module _ {o p : List Dim} {x y : Bool} (k : Kind)
        (opens : (d : ℕ) (t : Ty) → TypeAt a 0 d t → o ≡ opening_of (shape_of t)) (opens' : (d : ℕ) (t : Ty) → TypeAt b 0 d t → p ≡ opening_of (shape_of t))
        (says : (d : ℕ) (t : Ty) → TypeAt a 0 d t → x ≡ is_closed (shape_of t)) (says' : (d : ℕ) (t : Ty) → TypeAt b 0 d t → y ≡ is_closed (shape_of t))
        (e : x ≡ true) (e' : y ≡ true) (united : of_scalars union_number a b ≡ accepted (code_for k)) where
      first-closed : mapped shape_of (lone a) ≡ accepted (shape o none)
      first-closed = whole-closed a small (first_good a b good) opens says e

      second-closed : mapped shape_of (lone b) ≡ accepted (shape p none)
      second-closed = whole-closed b small' (second_good a b good) opens' says' e'

      types-plain : both (λ t u. mapped write_ty (at_start (pervade_types f g t u))) (lone a) (lone b) ≡ plainly (code_for k) (pervade_in_sheets f g (shape o none) (shape p none))
      types-plain = go (pervade_in_sheets f g (shape o none) (shape p none)) refl
        where
          go : (r : Option Shape) → pervade_in_sheets f g (shape o none) (shape p none) ≡ r
              → both (λ t u. mapped write_ty (at_start (pervade_types f g t u))) (lone a) (lone b) ≡ plainly (code_for k) r
          go none c = types-clash f g (lone a) (lone b) first-closed second-closed good c
          go (some s) c = sym (types-pervade f g (lone a) (lone b) first-closed second-closed c) ∙ union-plain a b united (kind_apart k) s

      pub plain_pervaded : (w : Written) (out : List ℕ) → delivered w out ≡ deliver (plainly (code_for k) (pervade_in_sheets f g (shape o none) (shape p none))) before → Pervades w out
      plain_pervaded w out made = deliver-as before made types-plain
