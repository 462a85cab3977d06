-- `whole::read_whole` meets its contract: the scan's refusal, or the map of what it accepted.
-- Assumes nothing.
use mathlib.Core.Path.{sym}
use native.Mathlib.Omega.{arith}
use borrow.Author.Rules.{rules}
use Rattle.wire.specs.Table.{◌>>=◌}
use Rattle.whole.specs.Whole.{map_outcome, whole_outcome}
use Rattle.whole.proofs.Accepted.{scanned_long, walk_inside, walk_long_lem}
use Rattle.whole.proofs.read_whole.Goals as goal

pub returns-in_err-scanned-clause-result_value : goal.returns-in_err-scanned-clause-result_value
unfolding whole_outcome ◌>>=◌
returns-in_err-scanned-clause-result_value c = search rules

pub returns-in_err-map-clause-result_value : goal.returns-in_err-map-clause-result_value
unfolding whole_outcome map_outcome ◌>>=◌
returns-in_err-map-clause-result_value c = search rules

-- an entry of the map has at least 33 bytes, so the sum fits
pub overflow_add-result : goal.overflow_add-result
overflow_add-result c =
    let scanned = sym c.in_ok-scanned.ensures.result_value in
    let walked = sym c.in_ok-map.ensures.result_value in
    omega (arith, scanned_long _ _ _ _ _ scanned, walk_long_lem _ _ _ _ walked, walk_inside _ _ _ _ walked)

pub returns-clause-result_value : goal.returns-clause-result_value
unfolding whole_outcome map_outcome ◌>>=◌
returns-clause-result_value c = search rules
