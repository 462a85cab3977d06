-- `advice::walk::fill` meets its contract. The invariant: i entries are whole, their offsets are filled in, and their long lengths are counted.
-- Assumes nothing.
use mathlib.Core.Path.{◌≡◌}
use mathlib.Core.List.{◌++◌}
use Prim.Native.Nat.{ℕ, ◌+◌, ◌<◌, ◌≤◌}
use lib.ListN.{length, drop}
use Rattle.wire.specs.Table.{NoneMet}
use Rattle.wire.specs.Counts.{long_ones}
use Rattle.advice.specs.Walk.{walk_end, key_offsets, shown_sizes}
use Rattle.advice.specs.Inner.{entry_rules}
use Rattle.advice.proofs.walk.fill.Given as goal

abbrev pub invariant-loop-i : goal.invariant-loop-i
invariant-loop-i l =
    record {
      within : l.i ≤ length l.initial.keys;
      table : l.keys ≡ key_offsets l.s l.fn.at.0 l.i ++ drop l.i l.initial.keys;
      next : l.from.0 ≡ walk_end l.s l.fn.at.0 l.i;
      whole : (j : ℕ) → j < l.i → NoneMet (entry_rules l.s (walk_end l.s l.fn.at.0 j));
      counted : l.long_counts ≡ l.initial.long_counts + long_ones (shown_sizes l.s l.fn.at.0 l.i);
    }
