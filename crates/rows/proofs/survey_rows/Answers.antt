-- `rows::survey_rows` meets its contract. The invariant: if what was gathered so far is in order, the pass goes on from row `from` to
-- row i, with as many externals more as were counted.
-- Assumes nothing.
use Prim.Native.Nat.{◌/◌, ◌^◌, ◌+◌}
use native.Mathlib.Nat.{add_assoc}
use native.Mathlib.Omega.{arith}
use Rattle.rows.specs.Rows.{row_word, row_outcome}
use Rattle.rows.proofs.RowLaws.{inside_row}
use Rattle.rows.proofs.Quick.{survey_next}
use Rattle.rows.proofs.survey_rows.Goals as goal

pub loop-i-preserved : goal.loop-i-preserved
loop-i-preserved c =
    let l = c.loop-i in
    let a = c.args in
    let half = c.upper-half in (
      omega arith,
      (
        omega arith,
        λ zeros low before begun.
            rw (← add_assoc before l.externals (half.result / 2 ^ 31))
            (survey_next (row_outcome a.s.now a.first.0) l.i (before + l.externals) (row_word a.s.now a.first.0 l.i) half.result l.singles
            c.single-singles.result
            l.top
            c.max-top.result
            (inside_row a.s.now a.first.0 l.i a.to (omega arith) (omega arith) (omega arith))
            half.ensures
            c.single-singles.ensures
            (omega arith, omega arith)
            (λ z o. l.invariant.1.1 z o before begun)
            zeros
            low),
      ),
    )
