use Rattle.std.proofs.Common.{Ok, rules, arith}
use Rattle.std.proofs.lemmas.Grind.{common_steps}
use Rattle.recorded.proofs.Texts.{none_stored, one_stored, all_stored}
use Rattle.recorded.proofs.reading.numbers_of.Goals as goal

pub loop-rest-init : goal.loop-rest-init
loop-rest-init g c =
    none_stored _ _ _

pub loop-rest-preserved : goal.loop-rest-preserved
loop-rest-preserved g c =
    one_stored (λ n x. g.T.TryFrom.try_from_gives n (Ok x)) _ _ _ _ c.loop-rest.invariant _ _ _ c.in_ok-value.ensures (search rules) (grind (arith, common_steps))

pub returns-clause-out_after : goal.returns-clause-out_after
returns-clause-out_after g c =
    all_stored (λ n x. g.T.TryFrom.try_from_gives n (Ok x)) _ _ _ _ c.loop-rest.invariant (grind (arith, common_steps))
