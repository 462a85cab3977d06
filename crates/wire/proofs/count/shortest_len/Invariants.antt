-- `wire::count::shortest_len` meets its contract: what is left of the search, from len on, is the whole search's result.
-- Assumes nothing.
use mathlib.Core.Path.{◌≡◌}
use Prim.Native.Nat.{◌-◌}
use Rattle.wire.specs.Counts.{least_from, shortest_len}
use Rattle.wire.proofs.count.shortest_len.Given as goal

abbrev pub invariant-loop-len : goal.invariant-loop-len
invariant-loop-len l = least_from (9 - l.len) l.len l.v ≡ shortest_len l.v
