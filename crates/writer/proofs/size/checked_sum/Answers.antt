-- `writer::size::checked_sum` meets its contract: what is above 2^64 - 1 stays above. Assumes nothing.
use Rattle.std.proofs.Common.{arith}
use Rattle.writer.proofs.Sums.{sum_next, sum_none}
use Rattle.writer.proofs.size.checked_sum.Goals as goal

pub returns-in_err-total : goal.returns-in_err-total
returns-in_err-total c =
    let next = sum_next c.args.sizes.now c.loop-n.n-index c.loop-n-test.true in
    rw c.from_residual.ensures (λ h. c.in_err-total.ensures (omega (arith, next)))

pub loop-n-preserved : goal.loop-n-preserved
loop-n-preserved c =
    let next = sum_next c.args.sizes.now c.loop-n.n-index c.loop-n-test.true in
    (omega (arith, c.in_ok-total.ensures), omega (arith, next, c.in_ok-total.ensures))

pub returns : goal.returns
returns c =
    let none = sum_none c.args.sizes.now c.loop-n.n-index c.loop-n-test.false in
    (omega (arith, none), omega (arith, none))
