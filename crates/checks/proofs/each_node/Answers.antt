-- `checks::each_node` meets its contract. The invariant: by any law of the judge, the pass accepts the first i nodes, and handed this on.
-- Assumes nothing.
use Rattle.std.proofs.Common.{sym, refl, arith}
use Rattle.std.proofs.lemmas.Result.{err_from_is_err_and}
use Rattle.wire.proofs.Answers.{answer_stops, answer_goes_on}
use Rattle.rows.proofs.Pass.{pass_none, passing_stops, passing_on}
use Rattle.resolved.specs.Nodes.{node_entry}
use Rattle.checks.proofs.each_node.Goals as goal

pub loop-i-init : goal.loop-i-init
loop-i-init g c = (omega arith, λ law judges. pass_none _ law _)

pub returns-in_err-entry : goal.returns-in_err-entry
returns-in_err-entry g c = λ law judges.
    let a = c.args in
    let l = c.loop-i in
    let p = err_from_is_err_and c.from_residual.result c.from_residual.ensures.1 in
    let step = answer_stops _ _ _ _ _ c.row_entry.ensures _ c.in_err-entry.was in
    rw (p.1, p.2) (passing_stops (node_entry a.s.now a.layout) law a.start a.layout.node_count l.i l.before (l.invariant.0, l.invariant.1 law judges) (omega arith) _ step _ _ refl)

pub returns-in_err-before : goal.returns-in_err-before
returns-in_err-before g c = λ law judges.
    let a = c.args in
    let l = c.loop-i in
    let p = err_from_is_err_and c.from_residual-in_err-before.result c.from_residual-in_err-before.ensures.1 in
    let said = judges l.i l.before c.in_ok-entry.entry c.judge.result (rw c.in_ok-entry.was at (sym c.row_entry.ensures)) c.judge.ensures in
    let step = answer_goes_on _ _ _ _ _ c.row_entry.ensures _ _ c.in_ok-entry.was (rw c.in_err-before.was at said) in
    rw (p.1, p.2) (passing_stops (node_entry a.s.now a.layout) law a.start a.layout.node_count l.i l.before (l.invariant.0, l.invariant.1 law judges) (omega arith) _ step _ _ refl)

pub loop-i-preserved : goal.loop-i-preserved
loop-i-preserved g c = (
  omega arith,
  λ law judges.
      let a = c.args in
      let l = c.loop-i in
      let said = judges l.i l.before c.in_ok-entry.entry c.judge.result (rw c.in_ok-entry.was at (sym c.row_entry.ensures)) c.judge.ensures in
      let step = answer_goes_on _ _ _ _ _ c.row_entry.ensures _ _ c.in_ok-entry.was (rw c.in_ok-before.was at said) in
      (passing_on (node_entry a.s.now a.layout) law a.start a.layout.node_count l.i l.before (l.invariant.0, l.invariant.1 law judges) (omega arith) _ step _ refl).1,
)
