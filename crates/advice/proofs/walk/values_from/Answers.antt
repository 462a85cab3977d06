-- `advice::walk::values_from` meets its contract: what is asked of a length, in turn.
-- Assumes nothing.
use mathlib.Core.Path.{sym, ◌∙◌}
use native.Mathlib.Omega.{arith}
use Rattle.advice.proofs.Entries.{length_over, length_short, length_whole}
use Rattle.advice.proofs.walk.values_from.Goals as goal

pub returns-then-len-gt-LENGTH_MAX : goal.returns-then-len-gt-LENGTH_MAX
returns-then-len-gt-LENGTH_MAX c =
    let a = c.args in length_over a.s.now a.at.0 a.length a.from.0 (omega arith)

pub returns-then-values_short : goal.returns-then-values_short
returns-then-values_short c =
    let a = c.args in
    length_short a.s.now a.at.0 a.length a.from.0 (omega arith) (sym c.values_short.ensures ∙ c.if-values_short.true)

pub returns : goal.returns
returns c =
    let a = c.args in
    length_whole a.s.now a.at.0 a.length a.from.0 (omega arith) (sym c.values_short.ensures ∙ c.if-values_short.false)
