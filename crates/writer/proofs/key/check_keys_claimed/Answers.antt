-- `writer::key::check_keys_claimed` meets its contract: a true claim tells the first key that an earlier one is. Assumes nothing.
use Rattle.writer.proofs.Keys.{none_known, first_known}
use Rattle.writer.proofs.key.check_keys_claimed.Goals as goal

pub check_keys_known-requires : goal.check_keys_known-requires
check_keys_known-requires c =
    let a = c.args in
    (c.requires, none_known a.keys.now a.lengths.now a.order.now c.requires _ c.in-Apart.is c.check_claim.ensures)

pub check_keys_known-requires-in-Repeat : goal.check_keys_known-requires-in-Repeat
check_keys_known-requires-in-Repeat c =
    let a = c.args in
    (c.requires, first_known a.keys.now a.order.now _ _ _ c.in-Repeat.is c.check_claim.ensures)
