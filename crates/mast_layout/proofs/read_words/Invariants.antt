-- A word and its zero lie in the buffer, and each of the words before takes at least its zero.
use Rattle.std.proofs.Common.{◌+◌, ◌-◌, ◌≤◌, length}
use Rattle.mast_layout.proofs.read_words.Given as goal

abbrev pub invariant-loop-buf : goal.invariant-loop-buf
invariant-loop-buf g l = record { inside : l.at ≤ length l.buf; count : l.i ≤ l.at + 1 }

abbrev pub decreases-loop-buf : goal.decreases-loop-buf
decreases-loop-buf g l = length l.buf - l.at
