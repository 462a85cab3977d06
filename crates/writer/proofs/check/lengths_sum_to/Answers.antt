-- `writer::check::lengths_sum_to` meets its contract. Assumes nothing.
use Rattle.std.proofs.Common.{arith, sym}
use borrow.Author.Tests.{ne_eqb}
use Rattle.writer.specs.Writer.{sum}
use Rattle.writer.proofs.Sums.{sum_next}
use Rattle.writer.proofs.check.lengths_sum_to.Goals as goal

pub returns-in_default : goal.returns-in_default
returns-in_default c =
    let next = sum_next c.args.lengths.now c.loop-n.n-index c.loop-n-test.true in
    sym (ne_eqb c.args.values (sum c.args.lengths.now) (λ e. c.in_default.ensures (omega (arith, next))))
