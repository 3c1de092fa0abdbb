-- What the parts of a public call are refused with, one law for each form that the definitions of the calls are written in.
use Rattle.std.specs.Prelude.{ℕ, Bool, true, false, cond, List, ◌++◌, map, ◌≡◌, refl, leb, Float, length, drop}
use Rattle.std.proofs.Common.{arith}
use Rattle.std.proofs.Math.Option.{Option, none, some}
use Rattle.model.specs.Refusals.{too_short, Among}
use Rattle.model.specs.Types.{Dim}
use Rattle.model.specs.Within.{All}
use Rattle.format.specs.Records.{dim_number, write_ty}
use Rattle.format.specs.Outcome.{Outcome, accepted, refused, bound, both, Delivery, delivery, deliver}
use Rattle.rules.specs.Types.{Boxes, write_boxes}
use Rattle.validation.specs.Separate.{Input, separate}
use Rattle.machine.specs.Call.{tally, Called, called}
use Rattle.demand.specs.Numbers.{RefusedWith, answer_in}
use Rattle.demand.proofs.Numbered.{among-more, accepted_with, refused_with}
use Rattle.ty.specs.Calls.{offered, deliver_boxes}
use Rattle.val.specs.Values.{Row, row_number, row_typed, written as row_written, deliver_row}
use Rattle.velgrodis.specs.declared.Answer.{Answer}
use Rattle.velgrodis.specs.Answers.{answered, written, listed, deliver_sizes, rowed, validation_of, checked}
use Rattle.numbered.specs.Calls.{beside, beside_row, beside_validation, beside_both, RefusesOnly}

-- ---- outcomes

module _ {A : Type 0} {ns : List ℕ} where
  pub more-numbered : (ms : List ℕ) → All (Among ns) ms → {o : Outcome A} → RefusedWith ms o → RefusedWith ns o
  more-numbered ms h r = record { number_is = λ k p e. among-more ms ns h k (r.number_is k p e) }

  pub either-numbered : (t : Bool) {o q : Outcome A} → RefusedWith ns o → RefusedWith ns q → RefusedWith ns (cond t o q)
  either-numbered true h k = h
  either-numbered false h k = k

module _ {A B : Type 0} {ns : List ℕ} where
  pub bound-numbered : (f : A → Outcome B) (o : Outcome A) → RefusedWith ns o → ((a : A) → RefusedWith ns (f a)) → RefusedWith ns (bound f o)
  bound-numbered f (accepted a) h k = k a
  bound-numbered f (refused n p) h k = refused_with (h.number_is n p refl)

  pub both-numbered : {C : Type 0} (f : A → B → Outcome C) (o : Outcome A) (q : Outcome B) → RefusedWith ns o → RefusedWith ns q → ((a : A) (b : B) → RefusedWith ns (f a b)) → RefusedWith ns (both f o q)
  both-numbered f (accepted a) (accepted b) h k l = l a b
  both-numbered f (accepted a) (refused n p) h k l = refused_with (k.number_is n p refl)
  both-numbered f (refused n p) q h k l = refused_with (h.number_is n p refl)

-- ---- answers

-- An answer that is no refusal.
abbrev pub NotRefused : Answer → Type 0
NotRefused r = r.kind ≡ 0 → ⊥

pub answered-only : {A : Type 0} (ns : List ℕ) (f : A → Answer) → ((a : A) → NotRefused (f a)) → (o : Outcome A) → RefusedWith ns o → RefusesOnly ns (answered f o)
answered-only ns f g (accepted a) h = λ e. absurd (g a e)
answered-only ns f g (refused k p) h = λ e. h.number_is k p refl

-- of a result: too short besides
pub written-only : (ns : List ℕ) → Among ns too_short → (o : Outcome (List ℕ)) (result : List ℕ) → RefusedWith ns o → RefusesOnly ns (beside (written (deliver o result)))
unfolding deliver
written-only ns short (refused k p) result h = λ e. h.number_is k p refl
written-only ns short (accepted w) result h = go (leb (length w) (length result))
  where
    go : (t : Bool) → RefusesOnly ns (beside (written (cond t (delivery (accepted (length w)) (w ++ drop (length w) result)) (delivery (refused too_short 0) result))))
    go true = λ e. absurd (omega arith)
    go false = λ e. short

-- of a validation, whatever was being read
separate-beside : (ns : List ℕ) (d : Delivery) (i : Input) → RefusesOnly ns (beside (written d)) → RefusesOnly ns (beside_validation (validation_of (separate d i))).answer
separate-beside ns (delivery o buffer) i h = h

pub separate-only : (ns : List ℕ) → Among ns too_short → (o : Outcome (List ℕ)) (result : List ℕ) (i : Input) → RefusedWith ns o → RefusesOnly ns (beside_validation (validation_of (separate (deliver o result) i))).answer
separate-only ns short o result i h = separate-beside ns (deliver o result) i (written-only ns short o result h)

-- of a list of boxes or of sizes, which may be none
offered-only : (ns : List ℕ) → Among ns too_short → (w result : List ℕ) → RefusesOnly ns (beside (listed (offered (deliver (accepted w) result))))
unfolding deliver
offered-only ns short w result = go (leb (length w) (length result))
  where
    go : (t : Bool) → RefusesOnly ns (beside (listed (offered (cond t (delivery (accepted (length w)) (w ++ drop (length w) result)) (delivery (refused too_short 0) result)))))
    go true = λ e. absurd (omega arith)
    go false = λ e. short

pub boxes-only : (ns : List ℕ) → Among ns too_short → (o : Outcome (Option Boxes)) (result : List ℕ) → RefusedWith ns o → RefusesOnly ns (beside (listed (deliver_boxes o result)))
unfolding deliver_boxes
boxes-only ns short (refused k p) result h = λ e. h.number_is k p refl
boxes-only ns short (accepted none) result h = λ e. absurd (omega arith)
boxes-only ns short (accepted (some b)) result h = offered-only ns short (write_boxes b) result

pub sizes-only : (ns : List ℕ) → Among ns too_short → (o : Outcome (Option (List Dim))) (sizes : List ℕ) → RefusedWith ns o → RefusesOnly ns (beside (listed (deliver_sizes o sizes)))
unfolding deliver_sizes
sizes-only ns short (refused k p) sizes h = λ e. h.number_is k p refl
sizes-only ns short (accepted none) sizes h = λ e. absurd (omega arith)
sizes-only ns short (accepted (some ds)) sizes h = offered-only ns short (map dim_number ds) sizes

-- of a value's row, a number or a type
rowed-only : (ns : List ℕ) (before : Float) (d : Delivery) → RefusesOnly ns (beside (written d)) → RefusesOnly ns (beside_row (rowed before (row_written d)))
rowed-only ns before (delivery o buffer) h = h

pub row-only : (ns : List ℕ) → Among ns too_short → (before : Float) (o : Outcome Row) (result : List ℕ) → RefusedWith ns o → RefusesOnly ns (beside_row (rowed before (deliver_row o result)))
unfolding deliver_row
row-only ns short before (refused k p) result h = rowed-only ns before (deliver (refused k p) result) (written-only ns short (refused k p) result (refused_with (h.number_is k p refl)))
row-only ns short before (accepted (row_number x)) result h = λ e. absurd (omega arith)
row-only ns short before (accepted (row_typed t)) result h = rowed-only ns before (deliver (accepted (write_ty t)) result) (written-only ns short (accepted (write_ty t)) result accepted_with)

-- of a sheet
pub sheet-only : (ns : List ℕ) (c : Called) → RefusedWith ns (answer_in c) → RefusesOnly ns (beside_both (checked c))
sheet-only ns (called (accepted (tally n b)) result scratch) h = λ e. absurd (omega arith)
sheet-only ns (called (refused k p) result scratch) h = λ e. h.number_is k p refl
