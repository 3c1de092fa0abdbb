-- The union of two whole types' scalars: its record, by what each says of it.
use Prim.Native.Nat.{ℕ, ◌-◌}
use mathlib.Core.List.{List}
use mathlib.Core.Path.{◌≡◌, sym, ◌∙◌, ap}
use Rattle.model.specs.Limits.{max_depth}
use Rattle.model.specs.Types.{Scalar}
use Rattle.format.specs.Records.{box_code, write_scalar}
use Rattle.format.specs.Outcome.{accepted}
use Rattle.rules.specs.Order.{code_of}
use Rattle.rules.specs.Scalars.{union}
use Rattle.rules.specs.KindTable.{contents_decide, union_number}
use Rattle.rules.proofs.KindTableLaws.{kind_united, boxes_united}
use Rattle.known.specs.Known.{ScalarAt}
use Rattle.known.specs.Whole.{of_scalars}
use Rattle.writer.specs.Kinds.{kind_record}
use Rattle.scalar.specs.Whole.{WholeScalar}
use Rattle.scalar.specs.Calls.{chosen_of}
use Rattle.scalar.specs.declared.Chosen.{Chosen}

module _ {a b : List ℕ} {i j : ℕ} (first : WholeScalar a i) (second : WholeScalar b j) where
  abbrev Union : List ℕ → Type 0
  Union w = of_scalars (λ k l. write_scalar (union k l)) a b ≡ accepted w

  united_is : {w : List ℕ} → write_scalar (union first.scalar second.scalar) ≡ w → Union w
  united_is e = rw (first.is, second.is, e)

  -- the table's number for their codes
  module _ {x y n : ℕ} (one : (d : ℕ) (k : Scalar) → ScalarAt a i d k → x ≡ code_of k) (two : (d : ℕ) (l : Scalar) → ScalarAt b j d l → y ≡ code_of l) (found : (k l : Scalar) → x ≡ code_of k → y ≡ code_of l → n ≡ union_number k l) where
    number : n ≡ union_number first.scalar second.scalar
    number = found first.scalar second.scalar (one (max_depth - 1) first.scalar first.there) (two (max_depth - 1) second.scalar second.there)

    pub kind_is : (n ≡ contents_decide → ⊥) → Union (kind_record n)
    unfolding write_scalar
    kind_is apart =
        let kind = kind_united first.scalar second.scalar (λ f. apart (number ∙ f)) in
        united_is (ap write_scalar kind.is ∙ sym (ap kind_record (number ∙ kind.coded)))

    -- one of three, where it leaves that to the boxes
    pub box_is :
        n ≡ contents_decide →
        (r : Chosen) →
        ((k l : Scalar) → ScalarAt a i (max_depth - 1) k → ScalarAt b j (max_depth - 1) l → code_of k ≡ box_code → code_of l ≡ box_code → chosen_of r k l ≡ union k l) →
        Union (write_scalar (chosen_of r first.scalar second.scalar))
    box_is mark r call =
        let boxed = boxes_united first.scalar second.scalar (sym number ∙ mark) in
        united_is (ap write_scalar (sym (call first.scalar second.scalar first.there second.there boxed.0 boxed.1)))
