-- `rows::survey_rows` meets its contract. The invariant: if what was gathered so far is in order, the pass goes on from row `from` to
-- row i, with as many externals more as were counted.
-- Assumes nothing.
use mathlib.Core.Path.{◌≡◌}
use Prim.Native.Nat.{ℕ, ◌-◌, ◌*◌, ◌%◌, ◌^◌, ◌<◌, ◌≤◌, ◌+◌}
use Rattle.rows.specs.Rows.{row_outcome, Begun}
use Rattle.rows.proofs.survey_rows.Given as goal

abbrev pub invariant-loop-i : goal.invariant-loop-i
invariant-loop-i l = (l.i ≤ l.to) × ((l.externals + l.from ≤ l.i) ×
    (l.singles % 2 ^ 28 ≡ 0 → l.top < 9 * 2 ^ 28 → (before : ℕ) → Begun (row_outcome l.s l.base) l.from before → Begun (row_outcome l.s l.base) l.i (before + l.externals)))

abbrev pub decreases-loop-i : goal.decreases-loop-i
decreases-loop-i l = l.to - l.i
