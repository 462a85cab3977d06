use Rattle.vekalumist.specs.Calls.{order_call}
use Rattle.recorded.specs.Calls.{call_row, layout_given}
use Rattle.recorded.proofs.Rows.{check_told_lem}
use Rattle.recorded.proofs.files.order_agrees.Goals as goal

pub returns : goal.returns
unfolding call_row layout_given
returns c e =
    let k = c.args.case.now in
    let r = c.veka_raw_order-r.ensures in
    check_told_lem (order_call k.file.now (layout_given k.given.now)) _ (rw c.numbers.ensures) r.value r.place_after (c.is_told.ensures e)
