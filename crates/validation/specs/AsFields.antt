-- What validation changes by replacing or copying (document 01, "mod.rs" and "Thirteen ways of saying no"): after each such change
-- the whole outermost type is measured. And `as_mut_fields` of ty.rs, which makes a Def's fields out of what a type holds.
use Rattle.std.specs.Prelude.{ℕ, Bool, ◌&&◌, cond, List, [], ◌∷◌, eqb, leb}
use Rattle.std.proofs.Math.Option.{Option, none, some}
use Rattle.model.specs.Limits.{max_fields, max_types, max_depth}
use Rattle.model.specs.Refusals.{too_many}
use Rattle.model.specs.Types.{static, unknown, Shape, shape, any, Scalar, plain, box_any, box_all, box_def, Ty, ty, types, depth}
use Rattle.format.specs.Records.{code}
use Rattle.format.specs.Outcome.{Outcome, accepted, refused}
use Rattle.rules.specs.Types.{any_ty, copies}

-- ---- the limits

-- At most 32 types in one, eight deep.
unfoldable pub keeps_limits : Ty → Bool
keeps_limits t = leb (types t) max_types && leb (depth t) max_depth

-- In all that follows `keeps k` says whether the outermost type, as changed so far, keeps to the limits with the scalar k in the
-- place of the one that is being validated.
abbrev pub measured : (Scalar → Bool) → Scalar → Outcome Scalar
measured keeps k = cond (keeps k) (accepted k) (refused too_many 0)

-- ---- `as_mut_fields`

-- The number of fields: the spec's, or the static size of a closed shape of one.
unfoldable pub fields_for : Shape → ℕ → ℕ
fields_for (shape (static m ∷ []) none) n = m
fields_for (shape (static m ∷ []) (some c)) n = n
fields_for (shape (static m ∷ d ∷ o) c) n = n
fields_for (shape (unknown ∷ o) c) n = n
fields_for (shape [] c) n = n

-- Any becomes a box.
unfoldable pub as_box : Scalar → Scalar
as_box (plain k) = cond (eqb (code k) (code any)) box_any (plain k)
as_box box_any = box_any
as_box (box_all s k) = box_all s k
as_box (box_def n f) = box_def n f

-- A Def of n copies, 31 at the most.
unfoldable pub copied : (Scalar → Bool) → List ℕ → ℕ → Ty → Outcome Scalar
copied keeps name n t = cond (leb n max_fields) (measured keeps (box_def (some name) (copies n t))) (refused too_many 0)

abbrev pub or_name : Option (List ℕ) → List ℕ → List ℕ
or_name none name = name
or_name (some m) name = m

-- Box Any gives that many fields of [..] Any and All is copied that many times, both under the name; an unnamed Def takes the name;
-- other kinds stay.
unfoldable pub named : (Scalar → Bool) → List ℕ → ℕ → Scalar → Outcome Scalar
named keeps name n (plain k) = accepted (plain k)
named keeps name n box_any = copied keeps name n any_ty
named keeps name n (box_all s k) = copied keeps name n (ty s k)
named keeps name n (box_def m f) = accepted (box_def (some (or_name m name)) f)

-- Only a named spec runs it: its name, its number of fields, the type's shape and scalar.
unfoldable pub as_fields : (Scalar → Bool) → Option (List ℕ) → ℕ → Shape → Scalar → Outcome Scalar
as_fields keeps none n t l = accepted l
as_fields keeps (some name) n t l = named keeps name (fields_for t n) (as_box l)
