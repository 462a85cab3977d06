-- The answer under the facts of the words, over 2,048 key places, or the complaint.
use Rattle.std.proofs.Common.{[], sym, ◌∙◌}
use Rattle.text.proofs.Texts.{meant}
use Rattle.page.specs.Program.{complaint_text}
use Rattle.page.proofs.ProgramLaws.{spoken, complaint_fits, complaint_as}
use Rattle.page.proofs.program.program.Goals as goal

pub returns-in-Ok : goal.returns-in-Ok
returns-in-Ok c =
    let a = c.args in
    let s = spoken a.words.now a.file.now a.out.now _ _ _ c.told-out c.text_len.ensures (sym c.in-Ok.is ∙ c.command.ensures) c.layout_page.ensures.result_value in
    record { value = s.0; out_after = c.layout_page.ensures.out_after ∙ s.1 }

pub returns-in-Err : goal.returns-in-Err
returns-in-Err c =
    let a = c.args in
    let wrong = c.in-Err.wrong in
    let w = c.write_filled.ensures in
    let said = c.complaint.ensures in
    let m = meant a.out.now c.complaint.result.now [] (complaint_text wrong) _ _ (rw said (complaint_fits wrong)) (rw said (complaint_as wrong [])) (w.result_value, w.out_after) in
    let s = spoken a.words.now a.file.now a.out.now _ _ _ c.told-out c.text_len-in-Err.ensures (sym c.in-Err.is ∙ c.command.ensures) m.0 in
    record { value = s.0; out_after = m.1 ∙ s.1 }
