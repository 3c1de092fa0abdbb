use borrow.Author.Rules.{rules}
use mathlib.Core.Path.{◌∙◌}
use lib.Dec.{ltb}
use Rattle.std.proofs.lemmas.Iterator.{YieldsList-from_slice}
use Rattle.std.proofs.lemmas.Iterator.Search.{all_from_yields_List}
use Rattle.text.specs.Digits.{digit}
use Rattle.text.proofs.ParseLaws.{is_digit, all-digits}
use Rattle.text.proofs.parse.are_digits.Goals as goal

pub returns : goal.returns
returns c =
    all_from_yields_List (λ c. ltb (digit c) 16) _ _ _ c.all.ensures.ran (YieldsList-from_slice c.args.text.now cc) (λ x b q k. (search rules, search (rules, is_digit)))
    ∙ all-digits 16 c.args.text.now
