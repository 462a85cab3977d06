-- A digit that fits goes on with the rest of the word.
use Rattle.std.proofs.Common.{arith}
use Rattle.std.proofs.lemmas.Grind.{common_steps}
use Rattle.text.proofs.DigitLaws.{digit_here}
use Rattle.text.proofs.digits.number_of.Goals as goal

pub loop-b-preserved : goal.loop-b-preserved
loop-b-preserved c =
    grind (arith, common_steps, digit_here)
