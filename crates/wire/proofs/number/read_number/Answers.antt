-- `wire::number::read_number` meets its contract, by the cases of `number_outcome`.
-- Assumes nothing.
use mathlib.Core.Path.{sym, ◌∙◌}
use Rattle.wire.proofs.Le.{le-part}
use Rattle.wire.proofs.Numbers.{read_short, read_whole}
use Rattle.wire.proofs.number.read_number.Goals as goal

pub returns-then-is_short : goal.returns-then-is_short
returns-then-is_short g c =
    let a = c.args in sym (read_short g.row.N a.s.now a.at.0 (sym c.is_short.ensures ∙ c.if-is_short.true))

pub returns : goal.returns
returns g c =
    let a = c.args in
    rw (c.number_in.ensures ∙ le-part c.args.s.now c.args.at.0 g.row.N) (sym (read_whole g.row.N a.s.now a.at.0 (sym c.is_short.ensures ∙ c.if-is_short.false)))
