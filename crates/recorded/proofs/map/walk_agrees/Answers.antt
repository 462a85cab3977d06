use Rattle.std.proofs.Common.{get_or, take, length, ◌∙◌, ap}
use Rattle.advice.specs.Walk.{key_table}
use Rattle.vekalumist.specs.Calls.{walk_call}
use Rattle.recorded.specs.Calls.{call_row, itself, blank}
use Rattle.recorded.proofs.Rows.{row_told}
use Rattle.recorded.proofs.map.walk_agrees.Goals as goal

pub returns : goal.returns
unfolding call_row
returns c e =
    let k = c.args.case.now in
    let r = c.veka_raw_walk-r.ensures in
    row_told itself (take 4 blank) (walk_call (length c.args.keys.now) k.file.now (get_or k.given.now 0 0)) (rw c.place.ensures) r.value r.walked_after r.place_after (r.keys_after ∙ ap (λ n. key_table k.file.now n c.args.keys.now) c.place.ensures) (c.is_told.ensures e)
