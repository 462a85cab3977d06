-- `rows::read_from` meets its contract. The invariant: the first i nodes have entries, and the count is theirs.
-- Assumes nothing.
use Rattle.std.proofs.Common.{◌≤◌, arith, refl}
use Rattle.std.proofs.lemmas.Result.{err_from_is_err_and}
use Rattle.wire.proofs.Answers.{answer_stops, answer_goes_on}
use Rattle.rows.proofs.Pass.{external_le, passing_stops, passing_on}
use Rattle.rows.proofs.read_from.Goals as goal

pub returns-in_err-entry : goal.returns-in_err-entry
returns-in_err-entry g c =
    let l = c.loop-i in
    let p = err_from_is_err_and c.from_residual.result c.from_residual.ensures.1 in
    let step = answer_stops _ _ _ _ _ c.entry.ensures _ c.in_err-entry.was in
    rw (p.1, p.2) (passing_stops _ _ 0 _ l.i l.externals (l.invariant.0, l.invariant.1.1) (omega arith) _ step _ _ refl)

pub loop-i-preserved : goal.loop-i-preserved
loop-i-preserved g c =
    let l = c.loop-i in
    let one : c.external_one.result ≤ 1 = rw c.external_one.ensures (external_le c.in_ok-entry.field-0) in
    let step = answer_goes_on _ _ _ _ _ c.entry.ensures _ _ c.in_ok-entry.was refl in
    let on = passing_on _ _ 0 _ l.i l.externals (l.invariant.0, l.invariant.1.1) (omega arith) _ step _ refl in
    (on.0, (omega arith, rw c.external_one.ensures on.1))
