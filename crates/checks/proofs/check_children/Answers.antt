-- `checks::check_children` meets its contract.
-- Assumes nothing.
use Rattle.std.proofs.Common.{rules}
use Rattle.checks.specs.Checks.{judge_children, children_outcome}
use Rattle.checks.proofs.check_children.Goals as goal

pub returns : goal.returns
unfolding children_outcome
returns c = c.each_node.ensures (judge_children c.args.layout.node_count) (λ i before e r read k. search rules)
