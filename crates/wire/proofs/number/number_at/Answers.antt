-- `wire::number::number_at` meets its contract, by the cases of its definition.
-- Assumes nothing.
use mathlib.Core.Path.{sym, ◌∙◌}
use Rattle.wire.proofs.Le.{le-part}
use Rattle.wire.proofs.Numbers.{number_none, number_whole}
use Rattle.wire.proofs.number.number_at.Goals as goal

pub returns-then-is_short : goal.returns-then-is_short
returns-then-is_short g c =
    let a = c.args in sym (number_none g.row.N a.s.now a.at.0 (sym c.is_short.ensures ∙ c.if-is_short.true))

pub returns : goal.returns
returns g c =
    let a = c.args in
    c.number_in.ensures ∙ le-part a.s.now a.at.0 g.row.N ∙ sym (number_whole g.row.N a.s.now a.at.0 (sym c.is_short.ensures ∙ c.if-is_short.false))
