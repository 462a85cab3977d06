-- `writer::check::lengths_sum_to` meets its contract. The invariant: what is left is to be the sum of the lengths that are. Assumes nothing.
use Rattle.std.proofs.Common.{◌≡◌, ◌+◌, drop}
use Rattle.writer.specs.Writer.{sum}
use Rattle.writer.proofs.check.lengths_sum_to.Given as goal

abbrev pub invariant-loop-n : goal.invariant-loop-n
invariant-loop-n l = sum l.lengths + l.left ≡ l.values + sum (drop l.n-index l.lengths)
