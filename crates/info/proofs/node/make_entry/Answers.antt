-- `info::node::make_entry` meets its contract: the arm knows that the kind is its number, at which the definition computes.
-- Assumes nothing.
use Rattle.wire.specs.Table.{first_met}
use Rattle.info.specs.Node.{make_outcome}
use Rattle.info.proofs.node.make_entry.Goals as goal

pub returns-in-2 : goal.returns-in-2
unfolding first_met make_outcome
returns-in-2 c = rw c.in-2.is
