-- `resolved::slots::fill_slots` meets its contract. The invariant, `Upto`: the first i places are filled, the rest is as it was, and the count
-- is that of the externals among the first i nodes.
-- Assumes nothing.
use Rattle.std.proofs.Common.{◌≡◌, ◌+◌, ◌-◌, ◌*◌, ◌/◌, ◌≤◌, length, get_or, arith}
use borrow.Author.Tests.{eq-eqb, ne_eqb}
use lib.Dec.{eqb}
use Rattle.wire.specs.Table.{pick}
use Rattle.resolved.proofs.SlotLaws.{upto_fit, upto_none, upto_next, one_or_none, top_kind}
use Rattle.resolved.proofs.slots.fill_slots.Goals as goal
use Rattle.resolved.proofs.slots.fill_slots.Goals.{then-external, else-external}

pub loop-i-init : goal.loop-i-init
loop-i-init c = (omega arith, upto_none)

pub overflow_sub-table : goal.overflow_sub-table
overflow_sub-table c = upto_fit c.loop-i.invariant.1

pub overflow_add-externals : goal.overflow_add-externals
overflow_add-externals c =
    let one : c.from.result ≤ 1 = rw c.from.ensures (one_or_none _) in
    omega (arith, upto_fit c.loop-i.invariant.1)

pub loop-i-preserved : goal.loop-i-preserved
loop-i-preserved c =
    let a = c.args in
    let l = c.loop-i in
    let inside : a.first.0 + 8 * a.n ≤ length a.s.now = c.requires.1.1 (omega arith) in
    let kind = top_kind a.s.now (λ k. (c.type_inv.s k).fits) a.first.0 l.i a.n inside (omega arith) (omega arith) in
    let slot : c.if-external.table ≡ pick (eqb (get_or a.s.now (a.first.0 + 8 * l.i + 7) 0 / 16) 8) l.externals (l.i - l.externals) =
    elim c.if-external.branch [
      | then-external w ↦ rw (eq-eqb _ _ w.if-external.true, w.table-is)
      | else-external w ↦ rw (ne_eqb _ _ w.if-external.false, w.table-is)
    ] in
    (omega arith, upto_next (omega arith) (rw kind slot) (rw kind c.from.ensures) l.invariant.1)
