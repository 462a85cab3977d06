-- `wire::number::is_short` meets its contract: it compares with the last place at which n bytes fit.
-- Assumes nothing.
use mathlib.Core.Path.{sym}
use Prim.Native.Nat.{◌+◌, ◌<◌}
use native.Mathlib.Omega.{arith}
use borrow.Author.Tests.{lt-ltb}
use lib.ListN.{length}
use Rattle.wire.proofs.Numbers.{past_last}
use Rattle.wire.proofs.number.is_short.Goals as goal

pub returns-then-s-n : goal.returns-then-s-n
returns-then-s-n c =
    let a = c.args in
    let h : length a.s.now < a.at.0 + a.n = omega arith in
    sym (lt-ltb _ _ h)

pub returns : goal.returns
returns c =
    let a = c.args in past_last (length a.s.now) a.at.0 a.n (omega arith)
