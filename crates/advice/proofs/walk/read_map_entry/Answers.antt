-- `advice::walk::read_map_entry` meets its contract: the key, then the length, then the values, which end inside the file.
-- Assumes nothing.
use mathlib.Core.Path.{refl}
use native.Mathlib.Omega.{arith}
use Rattle.std.proofs.lemmas.Result.{err_from_is_err_and}
use Rattle.wire.proofs.Answers.{answer_stops, answer_goes_on}
use Rattle.advice.proofs.Entries.{length_inside, entry_split}
use Rattle.advice.proofs.walk.read_map_entry.Goals as goal

pub returns-in_err-after_key : goal.returns-in_err-after_key
returns-in_err-after_key c =
    let p = err_from_is_err_and c.from_residual.result c.from_residual.ensures.1 in
    rw (p.1, p.2, entry_split c.args.s.now c.args.at.0) (answer_stops _ _ _ _ _ c.check_word.ensures _ c.in_err-after_key.was)

pub returns-in_err-length : goal.returns-in_err-length
returns-in_err-length c =
    let p = err_from_is_err_and c.from_residual-in_err-length.result c.from_residual-in_err-length.ensures.1 in
    rw (p.1, p.2, entry_split c.args.s.now c.args.at.0)
    (answer_goes_on _ _ _ _ _ c.check_word.ensures _ _ c.in_ok-after_key.was (answer_stops _ _ _ _ _ c.read_count.ensures _ c.in_err-length.was))

pub returns-in_err-values : goal.returns-in_err-values
returns-in_err-values c =
    let p = err_from_is_err_and c.from_residual-in_err-values.result c.from_residual-in_err-values.ensures.1 in
    rw (p.1, p.2, entry_split c.args.s.now c.args.at.0)
    (answer_goes_on _ _ _ _ _ c.check_word.ensures _ _ c.in_ok-after_key.was
    (answer_goes_on _ _ _ _ _ c.read_count.ensures _ _ c.in_ok-length.was (answer_stops _ _ _ _ _ c.values_from.ensures _ c.in_err-values.was)))

pub overflow_mul-end : goal.overflow_mul-end
overflow_mul-end c = omega (arith, length_inside c.args.s.now _ _ _ _ _ c.in_ok-values.ensures)

pub overflow_add-end : goal.overflow_add-end
overflow_add-end c = omega (arith, length_inside c.args.s.now _ _ _ _ _ c.in_ok-values.ensures)

pub returns : goal.returns
returns c =
    rw (entry_split c.args.s.now c.args.at.0)
    (answer_goes_on _ _ _ _ _ c.check_word.ensures _ _ c.in_ok-after_key.was
    (answer_goes_on _ _ _ _ _ c.read_count.ensures _ _ c.in_ok-length.was (answer_goes_on _ _ _ _ _ c.values_from.ensures _ _ c.in_ok-values.was refl)))
