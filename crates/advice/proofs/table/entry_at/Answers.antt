-- `advice::table::entry_at` meets its contract: the key, then the length and the values.
-- Assumes nothing.
use mathlib.Core.Path.{refl, sym}
use native.Mathlib.Omega.{arith}
use Rattle.std.proofs.lemmas.Result.{err_from_is_err_and}
use Rattle.wire.proofs.Answers.{answer_stops, answer_goes_on}
use Rattle.advice.proofs.TableStages.{key_there, key_inside, entry_split}
use Rattle.advice.proofs.table.entry_at.Goals as goal

pub returns-in_err-key : goal.returns-in_err-key
returns-in_err-key c =
    let a = c.args in
    let p = err_from_is_err_and c.from_residual.result c.from_residual.ensures.1 in
    rw (p.1, p.2, entry_split a.s.now a.keys.now a.index) (answer_stops _ _ _ _ _ c.key_at.ensures _ c.in_err-key.was)

pub offset_bounds-keys-index : goal.offset_bounds-keys-index
offset_bounds-keys-index c =
    let a = c.args in omega (arith, key_there a.s.now a.keys.now a.index _ (sym c.in_ok-key.ensures))

pub bounds-keys-index : goal.bounds-keys-index
bounds-keys-index c =
    let a = c.args in key_there a.s.now a.keys.now a.index _ (sym c.in_ok-key.ensures)

pub overflow_add-length : goal.overflow_add-length
overflow_add-length c =
    let a = c.args in omega (arith, key_inside a.s.now a.keys.now a.index _ (sym c.in_ok-key.ensures))

pub returns-in_err-values : goal.returns-in_err-values
returns-in_err-values c =
    let a = c.args in
    let p = err_from_is_err_and c.from_residual-in_err-values.result c.from_residual-in_err-values.ensures.1 in
    rw (p.1, p.2, entry_split a.s.now a.keys.now a.index)
    (answer_goes_on _ _ _ _ _ c.key_at.ensures _ _ c.in_ok-key.was (answer_stops _ _ _ _ _ c.read_values.ensures _ c.in_err-values.was))

pub returns : goal.returns
returns c =
    let a = c.args in
    rw (entry_split a.s.now a.keys.now a.index)
    (answer_goes_on _ _ _ _ _ c.key_at.ensures _ _ c.in_ok-key.was (answer_goes_on _ _ _ _ _ c.read_values.ensures _ _ c.in_ok-values.was refl))
