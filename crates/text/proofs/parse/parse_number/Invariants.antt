use Prim.Native.Nat.{◌^◌, ◌<◌}
use mathlib.Core.Path.{◌≡◌}
use lib.ListN.{drop}
use Rattle.text.specs.Digits.{are_digits, number_after}
use Rattle.text.proofs.parse.parse_number.Given as goal

abbrev pub invariant-loop-c : goal.invariant-loop-c
invariant-loop-c l = record {
  fits : l.n < 2 ^ 64;
  digits : are_digits l.base l.text ≡ are_digits l.base (drop l.c-index l.text);
  number : number_after l.base 0 l.text ≡ number_after l.base l.n (drop l.c-index l.text);
}
