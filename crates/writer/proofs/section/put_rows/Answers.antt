-- `writer::section::put_rows` meets its contract. The invariant: the rows of the first i items are written. Assumes nothing.
use Rattle.std.proofs.Common.{rules}
use Rattle.writer.proofs.Rows.{rowed_none, rowed_more, rowed_all}
use Rattle.writer.proofs.section.put_rows.Goals as goal

pub loop-i-init : goal.loop-i-init
loop-i-init g c = λ value says. rowed_none _ value _ _

pub loop-i-preserved : goal.loop-i-preserved
loop-i-preserved g c = λ value says.
    rowed_more (c.loop-i.invariant value says) (search rules) (search rules) c.index-items-i.is (says _ _ c.number.ensures) c.put_le.ensures

pub returns : goal.returns
returns g c = λ value says. rowed_all (c.loop-i.invariant value says) (search rules) (search rules) (search rules)
