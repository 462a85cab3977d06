use Rattle.std.proofs.Common.{◌∙◌, refl}
use Rattle.vekalumist.specs.Calls.{flags_call}
use Rattle.recorded.specs.Calls.{call_row, alone}
use Rattle.recorded.proofs.Rows.{row_told}
use Rattle.recorded.proofs.files.flags_agrees.Goals as goal

pub returns : goal.returns
unfolding call_row
returns c e =
    let k = c.args.case.now in
    let r = c.veka_raw_flags-r.ensures in
    row_told alone 91 (flags_call k.file.now) refl r.value (c.from.ensures ∙ r.flags_after) r.place_after refl (c.is_told.ensures e)
