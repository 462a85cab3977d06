-- `resolved::digests::digest_with_table` meets its contract: each answer is what the stages so far said.
-- Assumes nothing.
use Rattle.std.proofs.Common.{sym}
use Rattle.std.proofs.lemmas.Result.{err_from_is_err_and}
use Rattle.wire.proofs.Answers.{answer_stops, answer_goes_on}
use Rattle.resolved.proofs.DigestLaws.{table_index, table_room, table_stages}
use Rattle.resolved.proofs.digests.digest_with_table.Goals as goal

pub returns-then-layout-index : goal.returns-then-layout-index
returns-then-layout-index c = sym (table_index c.args.s.now c.args.layout c.args.index c.args.table.now c.if-layout-index.true)

pub returns-then-table-layout : goal.returns-then-table-layout
returns-then-table-layout c = sym (table_room c.args.s.now c.args.layout c.args.index c.args.table.now c.if-layout-index.false c.if-table-layout.true)

pub returns-in_err-row_entry : goal.returns-in_err-row_entry
returns-in_err-row_entry c =
    let a = c.args in
    let p = err_from_is_err_and c.from_residual.result c.from_residual.ensures.1 in
    rw (p.1, p.2, table_stages a.s.now a.layout a.index a.table.now c.if-layout-index.false c.if-table-layout.false)
    (answer_stops _ _ _ _ _ c.row_entry.ensures _ c.in_err-row_entry.was)

pub returns : goal.returns
returns c =
    let a = c.args in
    rw (table_stages a.s.now a.layout a.index a.table.now c.if-layout-index.false c.if-table-layout.false)
    (answer_goes_on _ _ _ _ _ c.row_entry.ensures _ _ c.in_ok-row_entry.was (rw (← c.is_external-external.ensures) c.digest_in.ensures))
