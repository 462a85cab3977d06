-- `advice::lookup::halve_left` meets its contract: what is said of the range that is left is said of the whole.
-- Assumes nothing.
use mathlib.Core.Path.{◌≡◌}
use Prim.Native.Nat.{◌+◌, ◌≤◌}
use lib.ListN.{length}
use Rattle.advice.specs.Lookup.{halving}
use Rattle.advice.specs.Inner.{left_outcome}
use Rattle.advice.proofs.lookup.halve_left.Given as goal

abbrev pub invariant-loop-size : goal.invariant-loop-size
invariant-loop-size l =
    record {
      within : l.low + l.size ≤ length l.keys;
      few : l.compared + l.size ≤ length l.keys;
      same : halving l.s l.keys l.key l.size l.low l.size l.compared ≡ left_outcome l.s l.keys l.key l.fn.range;
    }

abbrev pub decreases-loop-size : goal.decreases-loop-size
decreases-loop-size l = l.size
