-- `resolved::digests::digest_at` meets its contract: OVERFLOW, or what is read at the row's place, with the index.
-- Assumes nothing.
use Rattle.std.proofs.Common.{refl, sym, ap, ◌∙◌, rules}
use Rattle.std.proofs.lemmas.Result.{err_from_is_err_and}
use Rattle.wire.proofs.Answers.{answer_stops, answer_goes_on}
use Rattle.info.proofs.Cases.{moved, told}
use Rattle.rows.proofs.RowLaws.{placed_over, placed_at}
use Rattle.resolved.proofs.DigestLaws.{at_over, at_stages}
use Rattle.resolved.proofs.digests.digest_at.Goals as goal

pub returns-in_default : goal.returns-in_default
returns-in_default c =
    let a = c.args in
    sym (at_over a.s.now a.index a.section.0 a.slot.0 (placed_over a.section.0 32 a.slot.0 (sym c.digest_place.ensures ∙ c.in_default.is)))

pub returns-in_err-word : goal.returns-in_err-word
returns-in_err-word c =
    let a = c.args in
    let k = placed_at a.section.0 32 a.slot.0 c.in-Some.at (sym c.digest_place.ensures ∙ c.in-Some.is) in
    let p = err_from_is_err_and c.from_residual.result c.from_residual.ensures.1 in
    let said = told _ _ (λ p. p) a.index _ _ _ (λ e e' k. search rules) c.map_err.ensures.cases ∙ ap (moved a.index) c.read_word.ensures in
    rw (p.1, p.2, at_stages a.s.now a.index a.section.0 a.slot.0 k.0, ← k.1) (answer_stops _ _ _ _ _ said _ c.in_err-word.was)

pub returns : goal.returns
returns c =
    let a = c.args in
    let k = placed_at a.section.0 32 a.slot.0 c.in-Some.at (sym c.digest_place.ensures ∙ c.in-Some.is) in
    let said = told _ _ (λ p. p) a.index _ _ _ (λ e e' k. search rules) c.map_err.ensures.cases ∙ ap (moved a.index) c.read_word.ensures in
    rw (at_stages a.s.now a.index a.section.0 a.slot.0 k.0, ← k.1) (answer_goes_on _ _ _ _ _ said _ _ c.in_ok-word.was refl)
