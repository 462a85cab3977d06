-- `advice::lookup::lookup` meets its contract: room, then the halving, then what it found.
-- Assumes nothing.
use mathlib.Core.Path.{refl, sym}
use native.Mathlib.Omega.{arith}
use Rattle.std.proofs.lemmas.Result.{err_from_is_err_and}
use Rattle.wire.proofs.Answers.{answer_stops, answer_goes_on}
use Rattle.wire.proofs.Numbers.{all_there}
use Rattle.wire.specs.Table.{◌>>=◌}
use Rattle.advice.specs.Lookup.{found_outcome}
use Rattle.advice.proofs.Halving.{met_whole, lookup_room, lookup_split, found_split}
use Rattle.advice.proofs.lookup.lookup.Goals as goal

pub returns-then-keys-n : goal.returns-then-keys-n
returns-then-keys-n c =
    let a = c.args in
    lookup_room a.s.now a.keys.now a.n a.key (omega arith)

pub returns-in_err-met : goal.returns-in_err-met
returns-in_err-met c =
    let a = c.args in
    let p = err_from_is_err_and c.from_residual.result c.from_residual.ensures.1 in
    rw (p.1, p.2, lookup_split a.s.now a.keys.now a.n a.key (omega arith)) (answer_stops _ _ _ _ _ c.halve.ensures _ c.in_err-met.was)

pub read_found-requires : goal.read_found-requires
read_found-requires c =
    let a = c.args in
    all_there 32 a.s.now _ (met_whole a.s.now a.keys.now a.key _ _ a.n 0 a.n 0 (sym (rw c.in-Some.is at c.in_ok-met.ensures)))

pub returns-in_err-read_found-in-Some : goal.returns-in_err-read_found-in-Some
unfolding ◌>>=◌
returns-in_err-read_found-in-Some c =
    let a = c.args in
    let r = c.from_residual-in_err-read_found-in-Some in
    let p = err_from_is_err_and r.result r.ensures.1 in
    let met = rw c.in-Some.is at c.in_ok-met.ensures in
    rw (p.1, p.2, lookup_split a.s.now a.keys.now a.n a.key (omega arith), ← met, found_split a.s.now c.in-Some.at.0 c.in_ok-met.compared)
    (answer_stops _ _ _ _ _ c.read_found.ensures _ c.in_err-read_found-in-Some.was)

pub returns-in_ok-read_found-in-Some : goal.returns-in_ok-read_found-in-Some
unfolding ◌>>=◌
returns-in_ok-read_found-in-Some c =
    let a = c.args in
    let met = rw c.in-Some.is at c.in_ok-met.ensures in
    rw (lookup_split a.s.now a.keys.now a.n a.key (omega arith), ← met, found_split a.s.now c.in-Some.at.0 c.in_ok-met.compared)
    (answer_goes_on _ _ _ _ _ c.read_found.ensures _ _ c.in_ok-read_found-in-Some.was refl)

pub returns-in-None : goal.returns-in-None
unfolding found_outcome ◌>>=◌
returns-in-None c =
    let a = c.args in
    let missing = rw c.in-None.is at c.in_ok-met.ensures in
    rw (lookup_split a.s.now a.keys.now a.n a.key (omega arith), ← missing)
