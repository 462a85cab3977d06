-- `advice::lookup::narrow` meets its contract: of the range as it is now the same is said as of the one that was given.
-- Assumes nothing.
use mathlib.Core.Path.{◌≡◌}
use lib.ListN.{length}
use Rattle.advice.specs.Inner.{left_outcome, Within}
use Rattle.advice.proofs.lookup.narrow.Given as goal

abbrev pub invariant-loop-left : goal.invariant-loop-left
invariant-loop-left l = record { within : Within (length l.keys) l.left; same : left_outcome l.s l.keys l.fn.key l.left ≡ left_outcome l.s l.keys l.fn.key l.fn.range }

abbrev pub decreases-loop-left : goal.decreases-loop-left
decreases-loop-left l = l.left.size
