-- `wire::count::read_count` meets its contract: what was found, and the place after it, which is inside the file.
-- Assumes nothing.
use mathlib.Core.Path.{sym, ap, ◌∙◌}
use native.Mathlib.Omega.{arith}
use Rattle.wire.specs.Shown.{shown_found}
use Rattle.wire.proofs.Counts.{count_inside}
use Rattle.wire.proofs.count.read_count.Goals as goal

pub overflow_add-next : goal.overflow_add-next
overflow_add-next c =
    let a = c.args in
    omega (arith, count_inside a.s.now a.at.0 _ _ (sym c.find_count.ensures ∙ ap (shown_found a.at.0) c.in-Some.is))
