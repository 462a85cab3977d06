use Rattle.std.proofs.Common.{◌≡◌, get_or, rules, ◌∙◌, length}
use Rattle.std.proofs.lemmas.List.Elements.{same_from_all_zip}
use Rattle.vekalumist.specs.Calls.{write_call}
use Rattle.writer.specs.Shown.{lent}
use Rattle.recorded.specs.Calls.{call_row, alone, between, marks_given, parts_given}
use Rattle.recorded.proofs.Rows.{row_told}
use Rattle.recorded.proofs.written.written_agrees.Goals as goal

pub returns : goal.returns
unfolding call_row parts_given between
returns c e =
    let k = c.args.case.now in
    let file = k.file.now in
    let given = k.given.now in
    let all = c.args.lent.now in
    let r = c.veka_raw_write-r.ensures in
    let out : c.narrow.new.out ≡ all = same_from_all_zip _ _ _ (c.narrow.ensures (search rules)) (λ n x p. p.1) in
    let roots : c.narrow-else-not-narrow.new.out ≡ c.part-given.result.now = same_from_all_zip _ _ _ (c.narrow-else-not-narrow.ensures (search rules)) (λ n x p. p.1) in
    let parts : lent c.byte.result c.narrow-else-not-narrow.new.out c.part.result.now c.part-2.result.now c.part-3.result.now c.part-4.result.now c.part-5.result.now c.part-6.result.now c.part-7.result.now ≡ parts_given file given =
    rw (c.byte.ensures, roots, c.part-given.ensures, c.part.ensures, c.part-2.ensures, c.part-3.ensures, c.part-4.ensures, c.part-5.ensures, c.part-6.ensures, c.part-7.ensures, c.place.ensures, c.place-2.ensures, c.place-4.ensures, c.place-5.ensures, c.place-6.ensures, c.place-7.ensures, c.place-8.ensures, c.place-9.ensures, c.place-10.ensures, c.place-11.ensures, c.place-12.ensures, c.place-13.ensures, c.place-14.ensures) in
    row_told alone 901 (write_call (marks_given given) (get_or given 9 0) (parts_given file given) (length all)) (rw (c.marks.ensures, c.place-3.ensures, parts, out)) r.value r.size_after r.place_after
    (r.out_after ∙ rw (c.marks.ensures, c.place-3.ensures, parts, out)) (c.is_told.ensures e)
