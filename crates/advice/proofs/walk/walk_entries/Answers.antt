-- `advice::walk::walk_entries` meets its contract: the count, and then what was filled in is settled: duplicates come first.
-- Assumes nothing.
use lib.ListN.{length}
use Rattle.std.proofs.lemmas.Result.{err_from_is_err_and}
use Rattle.wire.proofs.Answers.{answer_stops, answer_goes_on}
use Rattle.advice.proofs.Entries.{walk_split, told, table_told}
use Rattle.advice.proofs.walk.walk_entries.Goals as goal

pub returns-in_err-count-clause-result_value : goal.returns-in_err-count-clause-result_value
returns-in_err-count-clause-result_value c =
    let a = c.args in
    let p = err_from_is_err_and c.from_residual.result c.from_residual.ensures.1 in
    rw (p.1, p.2, walk_split (length a.keys.now) a.s.now a.at.0) (answer_stops _ _ _ _ _ c.read_count.ensures _ c.in_err-count.was)

pub returns-in-Some-clause-result_value : goal.returns-in-Some-clause-result_value
returns-in-Some-clause-result_value c =
    let a = c.args in
    rw (walk_split (length a.keys.now) a.s.now a.at.0)
    (answer_goes_on _ _ _ _ _ c.read_count.ensures _ _ c.in_ok-count.was (told a.s.now _ _ _ _ _ c.fill-filled.ensures _ c.in-Some.ensures.value))

pub returns-clause-result_value : goal.returns-clause-result_value
returns-clause-result_value c =
    let a = c.args in
    rw (walk_split (length a.keys.now) a.s.now a.at.0)
    (answer_goes_on _ _ _ _ _ c.read_count.ensures _ _ c.in_ok-count.was (told a.s.now _ _ _ _ _ c.fill-filled.ensures _ c.in_default.ensures.value))

pub returns-clause-keys_after : goal.returns-clause-keys_after
returns-clause-keys_after c =
    table_told c.args.s.now _ _ _ _ _ c.fill-filled.ensures c.args.at.0 c.in_ok-count.ensures _ c.settle.ensures.table_after (returns-clause-result_value c)
