-- `checks::check_strict` meets its contract.
-- Assumes nothing.
use Rattle.std.proofs.Common.{rules}
use Rattle.checks.specs.Checks.{judge_strict, strict_outcome}
use Rattle.checks.proofs.check_strict.Goals as goal

pub returns : goal.returns
unfolding strict_outcome
returns c = c.each_node.ensures (judge_strict c.args.s.now c.args.layout.node_entry_offset.0) (λ i before e r read k. search rules)
