-- `rows::row_entry` meets its contract: OVERFLOW, or what is read at the row's place, with the row's number.
-- Assumes nothing.
use Rattle.std.proofs.Common.{sym, ◌∙◌, rules}
use Rattle.std.proofs.lemmas.Result.{err_from_is_err_and}
use Rattle.rows.proofs.RowLaws.{row_told}
use Rattle.rows.proofs.row_entry.Goals as goal

pub returns-in_err-entry : goal.returns-in_err-entry
returns-in_err-entry c =
    let a = c.args in
    let said = row_told a.s.now a.first.0 a.i _ _ (sym c.row_place.ensures ∙ c.in-Some.is) c.read_entry.ensures _ _ (λ e e' k. search rules) c.map_err.ensures.cases in
    let p = err_from_is_err_and c.from_residual.result c.from_residual.ensures.1 in
    rw (p.1, p.2) (rw c.in_err-entry.was at said)

pub returns : goal.returns
returns c =
    let a = c.args in
    let said = row_told a.s.now a.first.0 a.i _ _ (sym c.row_place.ensures ∙ c.in-Some.is) c.read_entry.ensures _ _ (λ e e' k. search rules) c.map_err.ensures.cases in
    rw c.in_ok-entry.was at said
