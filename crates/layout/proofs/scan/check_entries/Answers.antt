-- `layout::scan::check_entries` meets its contract: the pass's refusal at its byte place, or the number of externals.
-- Assumes nothing.
use mathlib.Core.Path.{sym}
use native.Mathlib.Omega.{arith}
use Rattle.layout.proofs.Entries.{pass_row, entries_refused, entries_differ, entries_pass}
use Rattle.layout.proofs.scan.check_entries.Goals as goal

pub overflow_mul-row : goal.overflow_mul-row
overflow_mul-row c = omega (arith, pass_row _ _ _ _ _ (sym c.in-Err.ensures))

pub overflow_add-first : goal.overflow_add-first
overflow_add-first c = omega (arith, pass_row _ _ _ _ _ (sym c.in-Err.ensures))

pub returns-in-Err : goal.returns-in-Err
returns-in-Err c = rw c.told_at.ensures (sym (entries_refused _ _ _ c.requires (omega arith) _ _ (rw c.node_count.ensures at (sym c.in-Err.ensures))))

pub returns-then-externals-head : goal.returns-then-externals-head
returns-then-externals-head c = rw c.refused.ensures (sym (entries_differ _ _ _ c.requires (omega arith) _ (rw c.node_count.ensures at (sym c.in-Ok.ensures)) c.if-externals-head.true))

pub returns : goal.returns
returns c = sym (entries_pass _ _ _ c.requires (omega arith) _ (rw c.node_count.ensures at (sym c.in-Ok.ensures)) c.if-externals-head.false)
