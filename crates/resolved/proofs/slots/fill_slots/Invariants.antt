-- `resolved::slots::fill_slots` meets its contract. The invariant, `Upto`: the first i places are filled, the rest is as it was, and the count
-- is that of the externals among the first i nodes.
-- Assumes nothing.
use Prim.Native.Nat.{◌-◌, ◌≤◌}
use Rattle.resolved.specs.Nodes.{external_row}
use Rattle.resolved.proofs.SlotLaws.{Upto}
use Rattle.resolved.proofs.slots.fill_slots.Given as goal

abbrev pub invariant-loop-i : goal.invariant-loop-i
invariant-loop-i l = (l.i ≤ l.n) × Upto (external_row l.s l.base) l.initial.table l.table l.externals l.i

abbrev pub decreases-loop-i : goal.decreases-loop-i
decreases-loop-i l = l.n - l.i
