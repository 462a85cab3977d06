-- `checks::each_node` meets its contract. The invariant: by any law of the judge, the pass accepts the first i nodes, and handed this on.
-- Assumes nothing.
use Rattle.std.proofs.Common.{◌≡◌, ◌≤◌}
use Rattle.wire.specs.Table.{accepted}
use Rattle.rows.specs.Rows.{node_pass}
use Rattle.resolved.specs.Nodes.{node_entry}
use Rattle.checks.specs.Checks.{Judges}
use Rattle.checks.proofs.each_node.Given as goal

abbrev pub invariant-loop-i : goal.invariant-loop-i
invariant-loop-i g l = (l.i ≤ l.layout.node_count) × ((law : _) → Judges (goal.J-post g l.judge) law (node_entry l.s l.layout) → node_pass (node_entry l.s l.layout) law l.fn.start l.i ≡ accepted l.before)
