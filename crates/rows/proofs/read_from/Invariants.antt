-- `rows::read_from` meets its contract. The invariant: the first i nodes have entries, and the count is theirs.
-- Assumes nothing.
use Rattle.std.proofs.Common.{◌≤◌}
use Rattle.rows.specs.Rows.{Begun}
use Rattle.rows.proofs.read_from.Given as goal

abbrev pub invariant-loop-i : goal.invariant-loop-i
invariant-loop-i g l = (l.i ≤ g.N.Nodes.count l.nodes) × Begun (g.N.Nodes.read l.nodes) l.i l.externals
