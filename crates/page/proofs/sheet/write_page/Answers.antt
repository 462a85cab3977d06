-- The whole text is the page's lines.
use Rattle.std.proofs.Common.{Some, None}
use Rattle.text.specs.Text.{bytes}
use Rattle.text.proofs.Texts.{meant}
use Rattle.page.proofs.Pages.{page_form, page_numbers, form_fits, page_whole}
use Rattle.page.proofs.sheet.write_page.Goals as goal

pub returns-in-Some : goal.returns-in-Some
unfolding bytes
returns-in-Some c =
    let a = c.args in
    let h = Some c.in-Some.hashes in
    let w = c.write_filled.ensures in
    let m = meant a.out.now (page_form h) (page_numbers a.l a.end.0 h) _ _ _ (form_fits h) (page_whole a.l a.end.0 h c.in-Some.is) (w.result_value, w.out_after) in
    record { result_value = m.0; out_after = m.1 }

pub returns-in-None : goal.returns-in-None
unfolding bytes
returns-in-None c =
    let a = c.args in
    let w = c.write_filled-in-None.ensures in
    let m = meant a.out.now (page_form None) (page_numbers a.l a.end.0 None) _ _ _ (form_fits None) (page_whole a.l a.end.0 None c.in-None.is) (w.result_value, w.out_after) in
    record { result_value = m.0; out_after = m.1 }
