-- The numbers so far are in their places.
use Rattle.std.proofs.Common.{take}
use Rattle.recorded.specs.Inner.{Converts}
use Rattle.recorded.proofs.lists.narrow.Given as goal

abbrev pub invariant-loop-i : goal.invariant-loop-i
invariant-loop-i g l = Converts g.T.TryFrom.try_from_gives (take l.i l.l) (take l.i l.out)
