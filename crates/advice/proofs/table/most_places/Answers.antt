-- `advice::table::most_places` meets its contract: the count, then the lesser of two numbers.
-- Assumes nothing.
use mathlib.Core.Path.{sym}
use native.Mathlib.Omega.{arith}
use Rattle.advice.proofs.TableStages.{places_none, count_inside, places_are}
use Rattle.advice.proofs.table.most_places.Goals as goal

pub returns-in_default : goal.returns-in_default
returns-in_default c = places_none c.args.s.now c.args.at.0 _ _ (sym c.in_default.ensures)

pub overflow_sub-room : goal.overflow_sub-room
overflow_sub-room c = count_inside c.args.s.now c.args.at.0 _ _ (sym c.in-Ok.ensures)

pub returns : goal.returns
returns c =
    let a = c.args in
    let are = places_are a.s.now a.at.0 _ _ (sym c.in-Ok.ensures) in
    rw (are, c.min.ensures) (omega arith)
