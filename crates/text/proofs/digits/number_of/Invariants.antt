-- What is left of the word, after the value so far, says what the whole word says.
use Rattle.std.proofs.Common.{◌≡◌, drop}
use Rattle.text.specs.Digits.{number_from, number_of_word}
use Rattle.text.proofs.digits.number_of.Given as goal

abbrev pub invariant-loop-b : goal.invariant-loop-b
invariant-loop-b l = number_of_word l.word ≡ number_from l.value (drop l.b-index l.word)
