-- `wire::count::write_count` meets its contract: the test says whether the shortest form has room, and `write_form` stores it.
-- Assumes nothing.
use mathlib.Core.Path.{sym, ◌∙◌}
use borrow.Author.Tests.{ltb-true, ltb-false}
use Rattle.wire.proofs.Counts.{shortest_form, write_no, write_yes}
use Rattle.wire.proofs.count.write_count.Goals as goal

pub returns-then-is_short : goal.returns-then-is_short
returns-then-is_short c =
    let a = c.args in
    let w = write_no a.out.now a.at.0 a.v (rw c.shortest_len-len.ensures at (ltb-true _ _ (sym c.is_short.ensures ∙ c.if-is_short.true))) in
    record { result_value = sym w.0; out_after = sym w.1 }

pub write_form-requires : goal.write_form-requires
write_form-requires c =
    (rw c.shortest_len-len.ensures (shortest_form c.args.v c.ranges.v.fits), ltb-false _ _ (sym c.is_short.ensures ∙ c.if-is_short.false))

pub returns : goal.returns
returns c =
    let a = c.args in
    let w = write_yes a.out.now a.at.0 a.v (rw c.shortest_len-len.ensures at (ltb-false _ _ (sym c.is_short.ensures ∙ c.if-is_short.false))) in
    record { result_value = cc w.0; out_after = cc w.1 }
