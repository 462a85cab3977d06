-- `wire::count::is_shortest` meets its contract: a long form has nothing above what one byte less would hold.
-- Assumes nothing.
use native.Mathlib.Omega.{arith}
use Rattle.wire.proofs.Forms.{shortest_tested}
use Rattle.wire.proofs.count.is_shortest.Goals as goal

pub overflow_sub-result : goal.overflow_sub-result
overflow_sub-result c =
    omega (arith, c.requires.least)

pub overflow_mul-result : goal.overflow_mul-result
overflow_mul-result c =
    omega (arith, c.requires.most)

pub overflow_shr-result : goal.overflow_shr-result
overflow_shr-result c =
    omega (arith, c.requires.most)

pub returns : goal.returns
returns c =
    shortest_tested c.args.len c.args.v c.requires
