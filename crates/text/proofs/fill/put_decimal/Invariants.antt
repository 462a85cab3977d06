-- The digits of what is left are still to be stored.
use Rattle.text.proofs.Texts.{Left}
use Rattle.text.proofs.fill.put_decimal.Given as goal

abbrev pub invariant-loop-p : goal.invariant-loop-p
invariant-loop-p l = Left l.out l.fn.out l.at l.p l.rest l.n
