use Rattle.std.proofs.Common.{◌≡◌, get_or, take, rules}
use Rattle.std.proofs.lemmas.List.Elements.{same_from_all_zip}
use Rattle.vekalumist.specs.Calls.{digest_table_call}
use Rattle.recorded.specs.Calls.{call_row, itself, blank, layout_given}
use Rattle.recorded.proofs.Rows.{row_told}
use Rattle.recorded.proofs.digests.table_agrees.Goals as goal

pub returns : goal.returns
unfolding call_row layout_given
returns c e =
    let k = c.args.case.now in
    let lent = c.args.lent.now in
    let r = c.veka_raw_digest_with_table-r.ensures in
    let same : c.narrow.new.out ≡ lent = same_from_all_zip _ _ _ (c.narrow.ensures (search rules)) (λ n x p. p.1) in
    row_told itself (take 4 blank) (digest_table_call k.file.now (layout_given k.given.now) (get_or k.given.now 12 0) lent) (rw (c.numbers.ensures, c.place.ensures, same)) r.value r.digest_after r.place_after same (c.is_told.ensures e)
