-- `rows::survey_words` meets its contract. The invariant: if nothing is marked so far, the pass goes on over i words from word `from` on, and
-- over i words from word `from + n` on, each with as many externals more as were counted in its half.
-- Assumes nothing.
use Prim.Native.Nat.{◌/◌, ◌-◌, ◌%◌, ◌^◌, ◌≤◌, ◌+◌}
use Rattle.rows.specs.Rows.{word_read, Onward, Clear}
use Rattle.rows.proofs.survey_words.Given as goal

abbrev pub invariant-loop-i : goal.invariant-loop-i
invariant-loop-i l = (l.i ≤ l.n) × ((l.externals % 2 ^ 32 ≤ l.i) × ((l.externals / 2 ^ 32 ≤ l.i) ×
    (Clear 29 l.wides → Clear 31 l.highs →
    Onward (word_read l.words) l.from (l.from + l.i) (l.externals % 2 ^ 32) × Onward (word_read l.words) (l.from + l.n) (l.from + l.n + l.i) (l.externals / 2 ^ 32))))

abbrev pub decreases-loop-i : goal.decreases-loop-i
decreases-loop-i l = l.n - l.i
