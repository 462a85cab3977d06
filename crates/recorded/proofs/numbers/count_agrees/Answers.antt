use Rattle.std.proofs.Common.{get_or, take, refl}
use Rattle.vekalumist.specs.Calls.{count_call}
use Rattle.recorded.specs.Calls.{call_row, itself, blank}
use Rattle.recorded.proofs.Rows.{row_told}
use Rattle.recorded.proofs.numbers.count_agrees.Goals as goal

pub returns : goal.returns
unfolding call_row
returns c e =
    let k = c.args.case.now in
    let r = c.veka_raw_read_count-r.ensures in
    row_told itself (take 4 blank) (count_call k.file.now (get_or k.given.now 0 0)) (rw c.place.ensures) r.value r.count_after r.place_after refl (c.is_told.ensures e)
