-- `advice::lookup::read_found` meets its contract: the length and the values, then the elements.
-- Assumes nothing.
use mathlib.Core.Path.{refl}
use Rattle.std.proofs.lemmas.Result.{err_from_is_err_and}
use Rattle.wire.proofs.Answers.{answer_stops, answer_goes_on}
use Rattle.advice.proofs.Entries.{values_inside}
use Rattle.advice.proofs.Halving.{found_values_split}
use Rattle.advice.proofs.lookup.read_found.Goals as goal

pub returns-in_err-values : goal.returns-in_err-values
returns-in_err-values c =
    let p = err_from_is_err_and c.from_residual.result c.from_residual.ensures.1 in
    rw (p.1, p.2, found_values_split c.args.s.now c.args.at.0) (answer_stops _ _ _ _ _ c.read_values.ensures _ c.in_err-values.was)

pub check_elements-requires : goal.check_elements-requires
check_elements-requires c = values_inside c.args.s.now _ _ _ c.in_ok-values.ensures

pub returns-in_err-check_elements : goal.returns-in_err-check_elements
returns-in_err-check_elements c =
    let p = err_from_is_err_and c.from_residual-in_err-check_elements.result c.from_residual-in_err-check_elements.ensures.1 in
    rw (p.1, p.2, found_values_split c.args.s.now c.args.at.0)
    (answer_goes_on _ _ _ _ _ c.read_values.ensures _ _ c.in_ok-values.was (answer_stops _ _ _ _ _ c.check_elements.ensures _ c.in_err-check_elements.was))

pub returns : goal.returns
returns c =
    rw (found_values_split c.args.s.now c.args.at.0)
    (answer_goes_on _ _ _ _ _ c.read_values.ensures _ _ c.in_ok-values.was (answer_goes_on _ _ _ _ _ c.check_elements.ensures _ _ c.in_ok-check_elements.was refl))
