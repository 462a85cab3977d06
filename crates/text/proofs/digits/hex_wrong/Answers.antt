-- `any` over the word is what its definition says.
use Rattle.std.proofs.Common.{not, arith, rules}
use Rattle.std.specs.Char.{is_digit}
use Rattle.std.proofs.lemmas.Bool.Decides.{nat_tests}
use Rattle.std.proofs.lemmas.Iterator.{YieldsList-from_slice}
use Rattle.std.proofs.lemmas.Iterator.Search.{any_from_yields_List}
use borrow.Author.Tests.{tests}
use Rattle.text.proofs.DigitLaws.{hex_wrong_is}
use Rattle.text.proofs.digits.hex_wrong.Goals as goal

pub returns-else-word-digits : goal.returns-else-word-digits
returns-else-word-digits c =
    let e = any_from_yields_List (λ b. not (is_digit b 16)) _ _ _ c.any.ensures.ran (YieldsList-from_slice c.args.word.now cc) (λ x b q k. search (rules, tests)) in
    rw hex_wrong_is (grind (arith, nat_tests))
