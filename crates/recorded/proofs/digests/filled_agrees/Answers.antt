use Rattle.std.proofs.Common.{◌≡◌, get_or, take, rules, length, [], ◌∷◌, ◌∙◌}
use Rattle.std.proofs.lemmas.List.Elements.{same_from_all_zip}
use Rattle.vekalumist.specs.Calls.{slots_call}
use Rattle.recorded.specs.Calls.{call_row, itself, blank, layout_given}
use Rattle.recorded.proofs.Rows.{row_told}
use Rattle.recorded.proofs.digests.filled_agrees.Goals as goal

pub returns : goal.returns
unfolding call_row layout_given
returns c e =
    let k = c.args.case.now in
    let lent = c.args.lent.now in
    let bound = get_or k.given.now 12 0 ∷ get_or k.given.now 13 0 ∷ [] in
    let r = c.veka_raw_slots-r.ensures in
    let same : c.narrow.new.out ≡ lent = same_from_all_zip _ _ _ (c.narrow.ensures (search rules)) (λ n x p. p.1) in
    row_told itself (take 2 blank) (slots_call k.file.now (layout_given k.given.now) bound (length lent)) (rw (c.numbers.ensures, c.number.ensures, c.number-2.ensures, same)) r.value r.left_after r.place_after
    (r.table_after ∙ rw (c.numbers.ensures, c.number.ensures, c.number-2.ensures, same)) (c.is_told.ensures e)
