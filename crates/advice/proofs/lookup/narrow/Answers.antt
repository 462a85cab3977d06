-- `advice::lookup::narrow` meets its contract: of the range as it is now the same is said as of the one that was given.
-- Assumes nothing.
use mathlib.Core.Path.{sym, ◌∙◌}
use native.Mathlib.Omega.{arith}
use Rattle.std.proofs.lemmas.Grind.{common_steps}
use Rattle.advice.proofs.Halving.{turn_same}
use Rattle.advice.proofs.lookup.narrow.Goals as goal

pub loop-left-preserved : goal.loop-left-preserved
loop-left-preserved c =
    let a = c.args in
    let l = c.loop-left in
    record {
      within = grind (arith, common_steps);
      same =
          turn_same a.s.now a.keys.now a.key l.left c.loop-left-test.true _ _ c.turn-left.ensures (sym c.is_short.ensures ∙ c.if-is_short.false) c.u64_at-middle.ensures c.if-first-middle.false
          ∙ l.invariant.same;
    }
