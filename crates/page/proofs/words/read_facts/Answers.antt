-- Each `return` is reached by the tests before it, as in the definition.
use Rattle.std.proofs.Common.{◌≡◌, Some, None, Err, arith}
use Rattle.std.proofs.lemmas.Grind.{common_steps}
use Rattle.text.specs.Digits.{number_of_word}
use Rattle.wire.proofs.Ladder.{ladder}
use Rattle.page.specs.Words.{words_check, facts_of}
use Rattle.page.specs.declared.words.WrongWords.TheVariants.{Maximum}
use Rattle.page.proofs.words.read_facts.Goals as goal

pub returns-then-hex_wrong : goal.returns-then-hex_wrong
unfolding words_check
returns-then-hex_wrong c = search ladder depth 12

pub returns-then-hex_wrong-2 : goal.returns-then-hex_wrong-2
unfolding words_check
returns-then-hex_wrong-2 c = search ladder depth 12

pub returns-then-hex_wrong-3 : goal.returns-then-hex_wrong-3
unfolding words_check
returns-then-hex_wrong-3 c = search ladder depth 12

pub returns-then-hex_wrong-4 : goal.returns-then-hex_wrong-4
unfolding words_check
returns-then-hex_wrong-4 c = search ladder depth 12

pub returns-in_err-max_nodes : goal.returns-in_err-max_nodes
unfolding words_check
returns-in_err-max_nodes c =
    let none : number_of_word c.args.most.now ≡ None = grind (arith, common_steps) in
    let said : c.from_residual.result ≡ Err Maximum = grind (arith, common_steps) in
    rw (none, said) (search ladder depth 12)

pub returns : goal.returns
unfolding words_check facts_of
returns c =
    let most : number_of_word c.args.most.now ≡ Some c.in_ok-max_nodes.max_nodes = grind (arith, common_steps) in
    rw (most, c.hex_byte.ensures, c.hex_byte-2.ensures, c.hex_byte-3.ensures, c.hex_byte-4.ensures, c.hex_byte-5.ensures, c.hex_byte-6.ensures, c.hex_byte-7.ensures, c.hex_byte-8.ensures, c.hex_byte-9.ensures) (search ladder depth 12)
