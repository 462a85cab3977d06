-- `wire::word::word_order` meets its contract: it is the order of std.
-- Assumes nothing.
use mathlib.Core.Path.{◌∙◌}
use Rattle.wire.proofs.Words.{std_order}
use Rattle.wire.proofs.word.word_order.Goals as goal

pub returns : goal.returns
returns c = c.cmp.ensures ∙ std_order c.args.a c.args.b
