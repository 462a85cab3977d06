-- `wire::number::number_in` meets its contract: from the highest byte down, what was read is the value of the bytes from i on.
-- Assumes nothing.
use mathlib.Core.Path.{◌≡◌}
use lib.ListN.{length}
use lib.Seq.{slice}
use Rattle.wire.specs.Le.{le}
use Rattle.wire.proofs.number.number_in.Given as goal

abbrev pub invariant-loop-i : goal.invariant-loop-i
invariant-loop-i l = l.number ≡ le (slice l.i (length l.part) l.part)
