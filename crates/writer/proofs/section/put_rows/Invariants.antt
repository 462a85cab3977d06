-- `writer::section::put_rows` meets its contract. The invariant: the rows of the first i items are written. Assumes nothing.
use Prim.Native.Nat.{ℕ}
use mathlib.Core.Path.{◌≡◌}
use Rattle.std.specs.Fn.{AnyResult}
use Rattle.writer.proofs.Rows.{Rowed}
use Rattle.writer.proofs.section.put_rows.Given as goal

abbrev pub invariant-loop-i : goal.invariant-loop-i
invariant-loop-i g l =
    (value : g.row.T.Denot → ℕ) → ((x : g.row.T.Denot) → AnyResult g.F.Fn l.number (x, tt) (λ n. n ≡ value x))
    → Rowed g.row.N value l.items l.i l.part
