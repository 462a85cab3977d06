-- `advice::walk::read_values` meets its contract: a count, then what is asked of it.
-- Assumes nothing.
use Rattle.std.proofs.lemmas.Result.{err_from_is_err_and}
use Rattle.wire.proofs.Answers.{answer_stops, answer_goes_on}
use Rattle.advice.proofs.Entries.{values_split}
use Rattle.advice.proofs.walk.read_values.Goals as goal

pub returns-in_err-length : goal.returns-in_err-length
returns-in_err-length c =
    let p = err_from_is_err_and c.from_residual.result c.from_residual.ensures.1 in
    rw (p.1, p.2, values_split c.args.s.now c.args.at.0) (answer_stops _ _ _ _ _ c.read_count.ensures _ c.in_err-length.was)

pub returns : goal.returns
returns c = rw (values_split c.args.s.now c.args.at.0) (answer_goes_on _ _ _ _ _ c.read_count.ensures _ _ c.in_ok-length.was c.values_from.ensures)
