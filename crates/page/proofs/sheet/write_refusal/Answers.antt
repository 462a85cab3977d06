-- The text is the refusal's line, with its number and place.
use Rattle.std.proofs.Common.{[], ◌∷◌, ◌≤◌, length, ap, ◌∙◌, arith}
use Rattle.text.specs.Text.{bytes, longest}
use Rattle.text.proofs.Texts.{meant}
use Rattle.page.specs.Page.{refusal_line, refusal_text}
use Rattle.page.proofs.sheet.write_refusal.Goals as goal

pub returns : goal.returns
unfolding refusal_text bytes
returns c =
    let a = c.args in
    let w = c.write_filled.ensures in
    let fits : length refusal_line ≤ longest = omega arith in
    let m = meant a.out.now refusal_line (c.from.result ∷ a.at.0 ∷ []) _ _ _ fits (ap (λ k. refusal_text k a.at.0) (c.from.ensures ∙ c.refusal_number.ensures)) (w.result_value, w.out_after) in
    record { result_value = m.0; out_after = m.1 }
