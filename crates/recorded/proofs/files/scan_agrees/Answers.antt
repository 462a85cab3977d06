use Rattle.std.proofs.Common.{not, eqb, [], ◌∷◌, get_or, take, refl}
use Rattle.vekalumist.specs.Calls.{scan_call}
use Rattle.recorded.specs.Calls.{call_row, itself, blank, marks_given}
use Rattle.recorded.proofs.Rows.{row_told}
use Rattle.recorded.proofs.files.scan_agrees.Goals as goal

pub returns : goal.returns
unfolding call_row
returns c e =
    let k = c.args.case.now in
    let r = c.veka_raw_scan-r.ensures in
    row_told itself (take 13 blank) (scan_call k.file.now (marks_given k.given.now) (get_or k.given.now 9 0) (not (eqb (get_or k.given.now 10 0) 0)) ((get_or k.given.now 11 0) ∷ (get_or k.given.now 12 0) ∷ [])) (rw (c.marks.ensures, c.place.ensures, c.number.ensures, c.number-2.ensures, c.number-3.ensures)) r.value r.scanned_after r.place_after refl (c.is_told.ensures e)
