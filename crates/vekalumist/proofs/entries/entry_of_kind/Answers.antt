-- `vekalumist::entries::entry_of_kind` meets its contract, by how many numbers the kind has. Assumes nothing.
use Rattle.std.proofs.Common.{arith}
use Rattle.std.proofs.lemmas.Result.{err_from_is_err_and}
use Rattle.wire.proofs.Answers.{answer_stops, answer_goes_on}
use Rattle.vekalumist.proofs.EntryLaws.{pair_stages, single_stages, bare_stages}
use Rattle.vekalumist.proofs.entries.entry_of_kind.Goals as goal

pub returns-in_err-narrow-in-0 : goal.returns-in_err-narrow-in-0
returns-in_err-narrow-in-0 c =
    let a = c.args in
    let p = err_from_is_err_and c.from_residual.result c.from_residual.ensures.1 in
    rw (p.1, p.2, pair_stages a.kind a.a a.b (omega arith)) (answer_stops _ _ _ _ _ c.narrow.ensures _ c.in_err-narrow-in-0.was)

pub returns-in_err-narrow-in-0-2 : goal.returns-in_err-narrow-in-0-2
returns-in_err-narrow-in-0-2 c =
    let a = c.args in
    let p = err_from_is_err_and c.from_residual-in_err-narrow-in-0-2.result c.from_residual-in_err-narrow-in-0-2.ensures.1 in
    rw (p.1, p.2, pair_stages a.kind a.a a.b (omega arith))
    (answer_goes_on _ _ _ _ _ c.narrow.ensures _ _ c.in_ok-narrow-in-0.was (answer_stops _ _ _ _ _ c.narrow-in-0.ensures _ c.in_err-narrow-in-0-2.was))

pub returns-in_ok-narrow-in-0-2 : goal.returns-in_ok-narrow-in-0-2
returns-in_ok-narrow-in-0-2 c =
    let a = c.args in
    rw (pair_stages a.kind a.a a.b (omega arith))
    (answer_goes_on _ _ _ _ _ c.narrow.ensures _ _ c.in_ok-narrow-in-0.was (answer_goes_on _ _ _ _ _ c.narrow-in-0.ensures _ _ c.in_ok-narrow-in-0-2.was c.make_entry.ensures))

pub returns-in_err-narrow-in-2-to-5 : goal.returns-in_err-narrow-in-2-to-5
returns-in_err-narrow-in-2-to-5 c =
    let a = c.args in
    let p = err_from_is_err_and c.from_residual-in_err-narrow-in-2-to-5.result c.from_residual-in_err-narrow-in-2-to-5.ensures.1 in
    rw (p.1, p.2, single_stages a.kind a.a a.b (omega arith) (omega arith)) (answer_stops _ _ _ _ _ c.narrow-in-2-to-5.ensures _ c.in_err-narrow-in-2-to-5.was)

pub returns-in_ok-narrow-in-2-to-5 : goal.returns-in_ok-narrow-in-2-to-5
returns-in_ok-narrow-in-2-to-5 c =
    let a = c.args in
    rw (single_stages a.kind a.a a.b (omega arith) (omega arith)) (answer_goes_on _ _ _ _ _ c.narrow-in-2-to-5.ensures _ _ c.in_ok-narrow-in-2-to-5.was c.make_entry-in-2-to-5.ensures)

pub returns-in_default : goal.returns-in_default
returns-in_default c =
    let a = c.args in
    rw (bare_stages a.kind a.a a.b (omega arith)) c.make_entry-in_default.ensures
