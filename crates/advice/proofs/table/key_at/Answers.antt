-- `advice::table::key_at` meets its contract: INDEX, or what is read where the table says.
-- Assumes nothing.
use mathlib.Core.Path.{refl, sym}
use native.Mathlib.Omega.{arith}
use Rattle.std.proofs.lemmas.Result.{err_from_is_err_and}
use Rattle.wire.proofs.Answers.{answer_stops, answer_goes_on}
use Rattle.advice.proofs.TableStages.{key_index, key_split}
use Rattle.advice.proofs.table.key_at.Goals as goal

pub returns-then-keys-index : goal.returns-then-keys-index
returns-then-keys-index c =
    let a = c.args in sym (key_index a.s.now a.keys.now a.index (omega arith))

pub returns-in_err-key : goal.returns-in_err-key
returns-in_err-key c =
    let a = c.args in
    let p = err_from_is_err_and c.from_residual.result c.from_residual.ensures.1 in
    rw (p.1, p.2, key_split a.s.now a.keys.now a.index (omega arith)) (answer_stops _ _ _ _ _ c.read_word.ensures _ c.in_err-key.was)

pub returns : goal.returns
returns c =
    let a = c.args in
    rw (key_split a.s.now a.keys.now a.index (omega arith)) (answer_goes_on _ _ _ _ _ c.read_word.ensures _ _ c.in_ok-key.was refl)
