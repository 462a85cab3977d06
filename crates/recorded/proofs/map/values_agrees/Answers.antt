use Rattle.std.proofs.Common.{get_or, take, refl}
use Rattle.vekalumist.specs.Calls.{values_call}
use Rattle.recorded.specs.Calls.{call_row, itself, blank, key_given}
use Rattle.recorded.proofs.Rows.{row_told}
use Rattle.recorded.proofs.map.values_agrees.Goals as goal

pub returns : goal.returns
unfolding call_row key_given
returns c e =
    let k = c.args.case.now in
    let r = c.veka_raw_values-r.ensures in
    row_told itself (take 3 blank) (values_call k.file.now c.args.keys.now (get_or k.given.now 4 0) (key_given k.given.now)) (rw (c.place.ensures, c.numbers.ensures)) r.value r.part_after r.place_after refl (c.is_told.ensures e)
