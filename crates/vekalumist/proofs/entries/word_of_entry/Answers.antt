-- `vekalumist::entries::word_of_entry` meets its contract: what makes no entry, an id that is too wide, or the word.
-- Assumes nothing.
use Rattle.std.proofs.Common.{sym, ap, ◌∙◌}
use Rattle.std.proofs.lemmas.Result.{err_from_is_err_and}
use Rattle.wire.proofs.Answers.{answer_stops, answer_goes_on}
use Rattle.info.specs.Shown.{shown_encoded}
use Rattle.vekalumist.proofs.EntryLaws.{encode_stages}
use Rattle.vekalumist.proofs.entries.word_of_entry.Goals as goal

pub returns-in_err-entry : goal.returns-in_err-entry
returns-in_err-entry c =
    let p = err_from_is_err_and c.from_residual.result c.from_residual.ensures.1 in
    rw (p.1, p.2, encode_stages c.args.entry.now) (answer_stops _ _ _ _ _ c.entry_of_kind.ensures _ c.in_err-entry.was)

pub returns-in_err-encode_entry : goal.returns-in_err-encode_entry
returns-in_err-encode_entry c =
    let p = err_from_is_err_and c.from_residual-in_err-encode_entry.result c.from_residual-in_err-encode_entry.ensures.1 in
    rw (p.1, p.2, encode_stages c.args.entry.now)
    (answer_goes_on _ _ _ _ _ c.entry_of_kind.ensures _ _ c.in_ok-entry.was (sym (ap shown_encoded c.in_err-encode_entry.was) ∙ c.encode_entry.ensures))

pub returns : goal.returns
returns c =
    rw (encode_stages c.args.entry.now)
    (answer_goes_on _ _ _ _ _ c.entry_of_kind.ensures _ _ c.in_ok-entry.was (sym (ap shown_encoded c.in_ok-encode_entry.was) ∙ c.encode_entry.ensures))
