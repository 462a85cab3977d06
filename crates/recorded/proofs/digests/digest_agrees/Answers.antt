use Rattle.std.proofs.Common.{get_or, take, refl}
use Rattle.vekalumist.specs.Calls.{digest_call}
use Rattle.recorded.specs.Calls.{call_row, itself, blank, layout_given}
use Rattle.recorded.proofs.Rows.{row_told}
use Rattle.recorded.proofs.digests.digest_agrees.Goals as goal

pub returns : goal.returns
unfolding call_row layout_given
returns c e =
    let k = c.args.case.now in
    let r = c.veka_raw_digest-r.ensures in
    row_told itself (take 4 blank) (digest_call k.file.now (layout_given k.given.now) (get_or k.given.now 12 0)) (rw (c.numbers.ensures, c.place.ensures)) r.value r.digest_after r.place_after refl (c.is_told.ensures e)
