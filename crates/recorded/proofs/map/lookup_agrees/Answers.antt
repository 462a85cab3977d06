use Rattle.std.proofs.Common.{get_or, take, refl}
use Rattle.vekalumist.specs.Calls.{lookup_call}
use Rattle.recorded.specs.Calls.{call_row, itself, blank, key_given}
use Rattle.recorded.proofs.Rows.{row_told}
use Rattle.recorded.proofs.map.lookup_agrees.Goals as goal

pub returns : goal.returns
unfolding call_row key_given
returns c e =
    let k = c.args.case.now in
    let r = c.veka_raw_lookup-r.ensures in
    row_told itself (take 4 blank) (lookup_call k.file.now c.args.keys.now (get_or k.given.now 4 0) (key_given k.given.now)) (rw (c.place.ensures, c.numbers.ensures)) r.value r.looked_after r.place_after refl (c.is_told.ensures e)
