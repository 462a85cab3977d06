-- The text of what the size, or scan and walk, said.
use Rattle.std.proofs.Common.{sym, ap, ◌∙◌, length}
use Rattle.whole.specs.Shown.{shown_whole}
use Rattle.text.specs.Text.{text_outcome, with_text}
use Rattle.page.proofs.AnswerLaws.{too_long, too_long_keys, whole_refused, whole_accepted, whole_keys_lem}
use Rattle.page.proofs.answer.layout_page.Goals as goal

pub returns-then-s-gt-MOST : goal.returns-then-s-gt-MOST
returns-then-s-gt-MOST c =
    let a = c.args in
    let e = too_long a.f a.s.now c.if-s-gt-MOST.true (length a.keys.now) in
    let w = c.write_refusal.ensures in
    record { result_value = w.result_value ∙ ap (text_outcome a.out.now) e; out_after = w.out_after ∙ ap (with_text a.out.now) e; keys_after = too_long_keys a.f a.s.now c.if-s-gt-MOST.true a.keys.now }

pub returns-in-Err : goal.returns-in-Err
returns-in-Err c =
    let a = c.args in
    let e = whole_refused a.f a.s.now c.if-s-gt-MOST.false _ _ (length a.keys.now) (ap shown_whole (sym c.in-Err.is) ∙ c.read_whole.ensures.result_value) in
    let w = c.write_refusal-in-Err.ensures in
    record { result_value = w.result_value ∙ ap (text_outcome a.out.now) e; out_after = w.out_after ∙ ap (with_text a.out.now) e; keys_after = c.read_whole.ensures.keys_after ∙ whole_keys_lem a.f a.s.now c.if-s-gt-MOST.false a.keys.now }

pub returns-in-Ok : goal.returns-in-Ok
returns-in-Ok c =
    let a = c.args in
    let e = whole_accepted a.f a.s.now c.if-s-gt-MOST.false _ (length a.keys.now) (ap shown_whole (sym c.in-Ok.is) ∙ c.read_whole.ensures.result_value) in
    let w = c.write_page.ensures in
    record { result_value = w.result_value ∙ ap (text_outcome a.out.now) e; out_after = w.out_after ∙ ap (with_text a.out.now) e; keys_after = c.read_whole.ensures.keys_after ∙ whole_keys_lem a.f a.s.now c.if-s-gt-MOST.false a.keys.now }
