-- `info::read_entry` meets its contract: SHORT, or what the word decodes to, placed.
-- Assumes nothing.
use Rattle.std.proofs.Common.{refl, rules}
use Rattle.std.proofs.lemmas.Result.{err_from_is_err_and}
use Rattle.wire.proofs.Answers.{answer_stops, answer_goes_on}
use Rattle.info.proofs.Cases.{entry_stages, decoded_told}
use Rattle.info.proofs.read_entry.Goals as goal

pub returns-in_err-word : goal.returns-in_err-word
returns-in_err-word c =
    let p = err_from_is_err_and c.from_residual.result c.from_residual.ensures.1 in
    rw (p.1, p.2, entry_stages c.args.s.now c.args.at.0) (answer_stops _ _ _ _ _ c.read_u64.ensures _ c.in_err-word.was)

pub returns-in_err-entry : goal.returns-in_err-entry
returns-in_err-entry c =
    let p = err_from_is_err_and c.from_residual-in_err-entry.result c.from_residual-in_err-entry.ensures.1 in
    let said = decoded_told (λ p. p.0) c.args.at _ _ _ _ (λ e e' k. search rules) c.decode_entry.ensures c.map_err.ensures.cases in
    rw (p.1, p.2, entry_stages c.args.s.now c.args.at.0)
    (answer_goes_on _ _ _ _ _ c.read_u64.ensures _ _ c.in_ok-word.was (answer_stops _ _ _ _ _ said _ c.in_err-entry.was))

pub returns : goal.returns
returns c =
    let said = decoded_told (λ p. p.0) c.args.at _ _ _ _ (λ e e' k. search rules) c.decode_entry.ensures c.map_err.ensures.cases in
    rw entry_stages (answer_goes_on _ _ _ _ _ c.read_u64.ensures _ _ c.in_ok-word.was (answer_goes_on _ _ _ _ _ said _ _ c.in_ok-entry.was refl))
