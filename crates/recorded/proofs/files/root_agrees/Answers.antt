use Rattle.std.proofs.Common.{◌∙◌, get_or, refl}
use Rattle.vekalumist.specs.Calls.{root_call}
use Rattle.recorded.specs.Calls.{call_row, alone, layout_given}
use Rattle.recorded.proofs.Rows.{row_told}
use Rattle.recorded.proofs.files.root_agrees.Goals as goal

pub returns : goal.returns
unfolding call_row layout_given
returns c e =
    let k = c.args.case.now in
    let r = c.veka_raw_root-r.ensures in
    row_told alone 901 (root_call k.file.now (layout_given k.given.now) (get_or k.given.now 12 0)) (rw (c.numbers.ensures, c.place.ensures)) r.value (c.from.ensures ∙ r.root_after) r.place_after refl (c.is_told.ensures e)
