use Rattle.std.proofs.Common.{get_or, take, refl}
use Rattle.advice.specs.Table.{key_outcome}
use Rattle.recorded.specs.Calls.{call_row, itself, blank}
use Rattle.recorded.proofs.Rows.{row_told}
use Rattle.recorded.proofs.map.key_agrees.Goals as goal

pub returns : goal.returns
unfolding call_row
returns c e =
    let k = c.args.case.now in
    let r = c.veka_raw_key-r.ensures in
    row_told itself (take 4 blank) (key_outcome k.file.now c.args.keys.now (get_or k.given.now 0 0)) (rw c.place.ensures) r.value r.key_after r.place_after refl (c.is_told.ensures e)
