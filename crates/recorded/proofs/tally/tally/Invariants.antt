-- What agreed so far and what is left of the text give no more than the whole.
use Rattle.std.proofs.Common.{◌+◌, ◌≤◌, length}
use Rattle.recorded.proofs.Lines.{Tallied}
use Rattle.recorded.proofs.tally.tally.Given as goal

abbrev pub invariant-loop-rest : goal.invariant-loop-rest
invariant-loop-rest l = record {
  tallied : Tallied l.fn.text l.file l.rest l.n l.agreed;
  agreed : l.agreed + length l.rest ≤ length l.fn.text;
  lines : l.number + length l.rest ≤ length l.fn.text;
}

abbrev pub decreases-loop-rest : goal.decreases-loop-rest
decreases-loop-rest l = length l.rest
