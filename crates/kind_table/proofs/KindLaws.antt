-- Kinds and their codes: each is a row of the table, and two that were found equal are one.
use Prim.Native.Nat.{◌<◌}
use native.Mathlib.Omega.{arith}
use mathlib.Core.Bool.{true, false}
use mathlib.Core.Path.{◌≡◌, refl, sym}
use denote.Enum.Bare.{sameb, same_true, same_false}
use Rattle.limits.specs.contracts.codes.Kind.{the_type}
use Rattle.limits.specs.declared.codes.Kind.{Kind}
use Rattle.limits.specs.declared.codes.Kind.TheVariants as kinds
use Rattle.limits.specs.Codes.{code_for}
use Rattle.format.specs.Records.{box_code}
use Rattle.rules.specs.KindTable.{kind_count}

pub code_below : (k : Kind) → code_for k < kind_count
code_below kinds.Bool = omega arith
code_below kinds.Nat = omega arith
code_below kinds.Int = omega arith
code_below kinds.Num = omega arith
code_below kinds.Complex = omega arith
code_below kinds.Ascii = omega arith
code_below kinds.Char = omega arith
code_below kinds.Stream = omega arith
code_below kinds.Box = omega arith
code_below kinds.Any = omega arith

pub one_kind : (k l : Kind) → true ≡ sameb the_type k l → k ≡ l
one_kind k l e = same_true the_type tt k l (sym e)

-- Box alone has a box's code.
code_box : (k : Kind) → code_for k ≡ box_code → k ≡ kinds.Box
code_box kinds.Bool e = absurd (omega arith)
code_box kinds.Nat e = absurd (omega arith)
code_box kinds.Int e = absurd (omega arith)
code_box kinds.Num e = absurd (omega arith)
code_box kinds.Complex e = absurd (omega arith)
code_box kinds.Ascii e = absurd (omega arith)
code_box kinds.Char e = absurd (omega arith)
code_box kinds.Stream e = absurd (omega arith)
code_box kinds.Box e = refl
code_box kinds.Any e = absurd (omega arith)

pub no_box : (k : Kind) → false ≡ sameb the_type k kinds.Box → code_for k ≡ box_code → ⊥
no_box k apart e = same_false the_type k kinds.Box (sym apart) (code_box k e)
