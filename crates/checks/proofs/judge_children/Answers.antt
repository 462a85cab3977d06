-- `checks::judge_children` meets its contract: all children are below the parent.
-- Assumes nothing.
use Rattle.checks.proofs.CheckLaws.{quick_holds}
use Rattle.checks.proofs.judge_children.Goals as goal

pub returns-then-above_all-parent : goal.returns-then-above_all-parent
returns-then-above_all-parent c =
    rw (← c.children_of-children.ensures) (quick_holds _ _ _ _ c.above_all.ensures c.if-above_all-parent.true c.if-parent-nodes.true)
