-- `writer::size::checked_sum` meets its contract. The invariant: the total so far and what is left are the whole. Assumes nothing.
use Rattle.std.proofs.Common.{◌≡◌, ◌+◌, ◌^◌, ◌<◌, drop}
use Rattle.writer.specs.Writer.{sum}
use Rattle.writer.proofs.size.checked_sum.Given as goal

abbrev pub invariant-loop-n : goal.invariant-loop-n
invariant-loop-n l = (l.total < 2 ^ 64) × (l.total + sum (drop l.n-index l.sizes) ≡ sum l.sizes)
