-- Kinds by their codes: two are one where their codes are, and the union of two scalars goes by theirs.
use Prim.Native.Nat.{ℕ}
use mathlib.Core.Bool.{Bool, true, false, cond}
use mathlib.Core.Path.{◌≡◌, refl, sym, ◌∙◌, ap}
use denote.Enum.Bare.{sameb, same_true, same_false}
use lib.Dec.{eqb}
use borrow.Author.Tests.{eq-eqb, ne_eqb}
use Rattle.limits.specs.Codes.{code_for}
use Rattle.limits.specs.contracts.codes.Kind.{the_type}
use Rattle.limits.specs.declared.codes.Kind.{Kind}
use Rattle.limits.specs.declared.codes.Kind.TheVariants as kinds
use Rattle.model.specs.Types.{Scalar}
use Rattle.rules.specs.Order.{code_of}
use Rattle.rules.specs.KindTable.{union_number}
use Rattle.rules.proofs.KindTableLaws.{union_codes, union-by_codes}

-- the kind of a code, Any of a number that is none
kind_of : ℕ → Kind
kind_of n =
    cond (eqb n 0) kinds.Bool (cond (eqb n 1) kinds.Nat (cond (eqb n 2) kinds.Int (cond (eqb n 3) kinds.Num
    (cond (eqb n 4) kinds.Complex (cond (eqb n 5) kinds.Ascii (cond (eqb n 6) kinds.Char (cond (eqb n 7) kinds.Stream (cond (eqb n 8) kinds.Box kinds.Any))))))))

coded : (k : Kind) → kind_of (code_for k) ≡ k
unfolding kind_of
coded kinds.Bool = refl
coded kinds.Nat = refl
coded kinds.Int = refl
coded kinds.Num = refl
coded kinds.Complex = refl
coded kinds.Ascii = refl
coded kinds.Char = refl
coded kinds.Stream = refl
coded kinds.Box = refl
coded kinds.Any = refl

pub same_code : (k l : Kind) → sameb the_type k l ≡ eqb (code_for k) (code_for l)
same_code k l = go (sameb the_type k l) refl
  where
    go : (b : Bool) → sameb the_type k l ≡ b → b ≡ eqb (code_for k) (code_for l)
    go true e = sym (eq-eqb (code_for k) (code_for l) (ap code_for (same_true the_type tt k l e)))
    go false e = sym (ne_eqb (code_for k) (code_for l) (λ f. same_false the_type k l e (sym (coded k) ∙ ap kind_of f ∙ coded l)))

pub union_coded : (x y : Scalar) → union_number x y ≡ union_codes (code_of x) (code_of y)
union_coded x y = sym (union-by_codes x y)

pub ruleset uniting = (same_code, union_coded)
