-- Each group is the numbers of its part.
use Rattle.std.proofs.Common.{ap, ◌∙◌}
use Rattle.std.proofs.lemmas.List.Elements.{same_from_all_zip}
use Rattle.text.specs.Marks.{before, past}
use Rattle.recorded.specs.Text.{numbers_in}
use Rattle.recorded.proofs.Lines.{case_agrees}
use Rattle.recorded.proofs.case.case_agrees.Goals as goal

pub returns : goal.returns
returns c e =
    let a = c.args in
    let first = same_from_all_zip _ _ _ c.in-Some.ensures.out_after (λ n x p. p.1) in
    let middle = same_from_all_zip _ _ _ c.in-Some-numbers_of.ensures.out_after (λ n x p. p.1) in
    let last = same_from_all_zip _ _ _ c.in-Some-numbers_of-2.ensures.out_after (λ n x p. p.1) in
    let past_first = c.cut.ensures.back in
    case_agrees a.file.now a.line.now _ _ _ _ _
    (first ∙ ap numbers_in c.cut.ensures.front)
    (middle ∙ ap numbers_in (c.cut-2.ensures.front ∙ ap (before 59) past_first))
    (last ∙ ap numbers_in (c.cut-2.ensures.back ∙ ap (past 59) past_first))
    c.in-Some-split_first.ensures.cases.0
    (c.call_agrees.ensures e)
