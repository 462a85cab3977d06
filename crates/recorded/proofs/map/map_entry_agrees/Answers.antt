use Rattle.std.proofs.Common.{get_or, take, refl}
use Rattle.vekalumist.specs.Calls.{map_entry_call}
use Rattle.recorded.specs.Calls.{call_row, itself, blank}
use Rattle.recorded.proofs.Rows.{row_told}
use Rattle.recorded.proofs.map.map_entry_agrees.Goals as goal

pub returns : goal.returns
unfolding call_row
returns c e =
    let k = c.args.case.now in
    let r = c.veka_raw_map_entry-r.ensures in
    row_told itself (take 6 blank) (map_entry_call k.file.now c.args.keys.now (get_or k.given.now 0 0)) (rw c.place.ensures) r.value r.after r.place_after refl (c.is_told.ensures e)
