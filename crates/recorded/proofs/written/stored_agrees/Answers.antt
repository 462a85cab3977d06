use Rattle.std.proofs.Common.{◌≡◌, get_or, rules, ◌∙◌}
use Rattle.std.proofs.lemmas.List.Elements.{same_from_all_zip}
use Rattle.wire.specs.Counts.{write_outcome}
use Rattle.recorded.specs.Calls.{call_row, alone}
use Rattle.recorded.proofs.Rows.{row_told}
use Rattle.recorded.proofs.written.stored_agrees.Goals as goal

pub returns : goal.returns
unfolding call_row
returns c e =
    let k = c.args.case.now in
    let lent = c.args.lent.now in
    let r = c.veka_raw_write_count-r.ensures in
    let same : c.narrow.new.out ≡ lent = same_from_all_zip _ _ _ (c.narrow.ensures (search rules)) (λ n x p. p.1) in
    row_told alone 901 (write_outcome lent (get_or k.given.now 0 0) (get_or k.given.now 1 0)) (rw (c.place.ensures, c.number.ensures, same)) r.value r.next_after r.place_after
    (r.out_after ∙ rw (c.place.ensures, c.number.ensures, same)) (c.is_told.ensures e)
