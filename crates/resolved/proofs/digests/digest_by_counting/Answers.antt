-- `resolved::digests::digest_by_counting` meets its contract: each answer is what the stages so far said.
-- Assumes nothing.
use Rattle.std.proofs.Common.{◌≡◌, ◌-◌, sym, ap, ◌∙◌, arith}
use Rattle.std.proofs.lemmas.Result.{err_from_is_err_and}
use Rattle.wire.specs.Table.{pick}
use Rattle.wire.proofs.Answers.{answer_stops, answer_goes_on}
use Rattle.rows.specs.Shown.{shown_row, shown_pass}
use Rattle.resolved.proofs.SlotLaws.{counted_le}
use Rattle.resolved.proofs.DigestLaws.{counting_index, counting_stages, counted_slot}
use Rattle.resolved.proofs.digests.digest_by_counting.Goals as goal
use Rattle.resolved.proofs.digests.digest_by_counting.Goals.{then-external, else-external}

pub returns-then-layout-index : goal.returns-then-layout-index
returns-then-layout-index c = sym (counting_index c.args.s.now c.args.layout c.args.index c.if-layout-index.true)

pub returns-in_err-externals : goal.returns-in_err-externals
returns-in_err-externals c =
    let a = c.args in
    let p = err_from_is_err_and c.from_residual.result c.from_residual.ensures.1 in
    rw (p.1, p.2, counting_stages a.s.now a.layout a.index c.if-layout-index.false) (answer_stops _ _ _ _ _ c.read_entries.ensures _ c.in_err-externals.was)

pub returns-in_err-row_entry : goal.returns-in_err-row_entry
returns-in_err-row_entry c =
    let a = c.args in
    let p = err_from_is_err_and c.from_residual-in_err-row_entry.result c.from_residual-in_err-row_entry.ensures.1 in
    rw (p.1, p.2, counting_stages a.s.now a.layout a.index c.if-layout-index.false)
    (answer_goes_on _ _ _ _ _ c.read_entries.ensures _ _ c.in_ok-externals.was (answer_stops _ _ _ _ _ c.row_entry.ensures _ c.in_err-row_entry.was))

pub overflow_sub-slot : goal.overflow_sub-slot
overflow_sub-slot c =
    let a = c.args in
    omega (arith, counted_le a.s.now a.layout.node_entry_offset.0 a.index c.in_ok-externals.externals (sym c.read_entries.ensures ∙ ap shown_pass c.in_ok-externals.was))

pub returns : goal.returns
returns c =
    let a = c.args in
    let externals = c.in_ok-externals.externals in
    let slot : c.if-external.slot ≡ pick c.is_external-external.result externals (a.index - externals) =
    elim c.if-external.branch [ then-external w ↦ rw (w.if-external.true, w.slot-is) | else-external w ↦ rw (w.if-external.false, w.slot-is) ] in
    let own = counted_slot a.s.now a.layout a.index c.if-layout-index.false externals (sym c.read_entries.ensures ∙ ap shown_pass c.in_ok-externals.was)
    c.in_ok-row_entry.field-0 (sym c.row_entry.ensures ∙ ap shown_row c.in_ok-row_entry.was) in
    rw (counting_stages a.s.now a.layout a.index c.if-layout-index.false)
    (answer_goes_on _ _ _ _ _ c.read_entries.ensures _ _ c.in_ok-externals.was
    (answer_goes_on _ _ _ _ _ c.row_entry.ensures _ _ c.in_ok-row_entry.was (rw (← own, ← c.is_external-external.ensures, ← slot) c.digest_in.ensures)))
