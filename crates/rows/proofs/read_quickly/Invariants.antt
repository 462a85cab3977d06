-- `rows::read_quickly` meets its contract. The invariant: the first nodes have entries, and the count is theirs; a survey carries it over a strip.
-- Assumes nothing.
use Rattle.std.proofs.Common.{◌-◌, ◌≤◌}
use Rattle.rows.specs.Rows.{Begun}
use Rattle.rows.proofs.read_quickly.Given as goal

abbrev pub invariant-loop-from : goal.invariant-loop-from
invariant-loop-from g l = (l.from ≤ g.N.Nodes.count l.nodes) × Begun (g.N.Nodes.read l.nodes) l.from l.externals

abbrev pub decreases-loop-from : goal.decreases-loop-from
decreases-loop-from g l = g.N.Nodes.count l.nodes - l.from
