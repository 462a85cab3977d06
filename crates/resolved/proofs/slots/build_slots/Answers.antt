-- `resolved::slots::build_slots` meets its contract: each `return` stands at its rule, or at what the pass over the entries said.
-- Assumes nothing.
use Rattle.std.proofs.Common.{◌≡◌, ◌*◌, sym, ap, ◌∙◌, rules, length}
use Rattle.std.proofs.lemmas.Result.{err_from_is_err_and}
use Rattle.wire.specs.Table.{accepted, first_met, checked}
use Rattle.wire.proofs.Ladder.{ladder}
use Rattle.rows.specs.Shown.{shown_pass}
use Rattle.resolved.specs.Slots.{table_rules}
use Rattle.resolved.proofs.SlotLaws.{lacks_said, spent_said, table_stops, entries_stop, entries_fill, rows_inside}
use Rattle.resolved.proofs.slots.build_slots.Goals as goal

pub returns-then-nodes-gt-MAX_NODES : goal.returns-then-nodes-gt-MAX_NODES
unfolding first_met table_rules
returns-then-nodes-gt-MAX_NODES c =
    let a = c.args in
    let both = table_stops a.s.now a.layout a.bound a.table.now _ _ (search ladder depth 8) in
    record { result_value = both.0; table_after = both.1 }

pub returns-then-is_some_and : goal.returns-then-is_some_and
unfolding first_met table_rules
returns-then-is_some_and c =
    let a = c.args in
    let lacks = lacks_said a.bound (4 * a.layout.node_count) c.is_some_and.result _ (λ n e. search rules) c.is_some_and.ensures in
    let both = table_stops a.s.now a.layout a.bound a.table.now _ _ (search ladder depth 8) in
    record { result_value = both.0; table_after = both.1 }

pub returns-then-table-nodes : goal.returns-then-table-nodes
unfolding first_met table_rules
returns-then-table-nodes c =
    let a = c.args in
    let lacks = lacks_said a.bound (4 * a.layout.node_count) c.is_some_and.result _ (λ n e. search rules) c.is_some_and.ensures in
    let both = table_stops a.s.now a.layout a.bound a.table.now _ _ (search ladder depth 8) in
    record { result_value = both.0; table_after = both.1 }

pub returns-in_err-read_entries : goal.returns-in_err-read_entries
unfolding first_met table_rules
returns-in_err-read_entries c =
    let a = c.args in
    let lacks = lacks_said a.bound (4 * a.layout.node_count) c.is_some_and.result _ (λ n e. search rules) c.is_some_and.ensures in
    let passed : accepted tt ≡ checked (table_rules a.layout.node_count a.bound (length a.table.now)) = search ladder depth 8 in
    let p = err_from_is_err_and c.from_residual.result c.from_residual.ensures.1 in
    let both = entries_stop a.s.now a.layout a.bound a.table.now _ _ passed (sym (ap shown_pass c.in_err-read_entries.was) ∙ c.read_entries.ensures) in
    record { result_value = rw (p.1, p.2) both.0; table_after = both.1 }

pub fill_slots-requires : goal.fill_slots-requires
fill_slots-requires c =
    let a = c.args in
    let read = sym c.read_entries.ensures ∙ ap shown_pass c.in_ok-read_entries.was in
    (search rules, (search rules, rows_inside a.s.now a.layout.node_entry_offset.0 a.layout.node_count c.in_ok-read_entries.field-0 read))

pub returns : goal.returns
unfolding first_met table_rules
returns c =
    let a = c.args in
    let lacks = lacks_said a.bound (4 * a.layout.node_count) c.is_some_and.result _ (λ n e. search rules) c.is_some_and.ensures in
    let left = spent_said a.bound (4 * a.layout.node_count) c.map.result _ (λ n m e. search rules) c.map.ensures.cases in
    let passed : accepted tt ≡ checked (table_rules a.layout.node_count a.bound (length a.table.now)) = search ladder depth 8 in
    let both = entries_fill a.s.now a.layout a.bound a.table.now c.in_ok-read_entries.field-0 c.map.result _ passed
    (sym (ap shown_pass c.in_ok-read_entries.was) ∙ c.read_entries.ensures) left c.fill_slots.ensures in
    record { result_value = both.0; table_after = both.1 }
