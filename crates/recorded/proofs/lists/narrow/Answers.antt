-- One more number is in its place.
use Rattle.std.proofs.Common.{rules, arith, Ok}
use Rattle.recorded.proofs.Copies.{stored_more, stored_all}
use Rattle.recorded.proofs.lists.narrow.Goals as goal

pub loop-i-preserved : goal.loop-i-preserved
loop-i-preserved g c =
    stored_more (λ n x. g.T.TryFrom.try_from_gives n (Ok x)) _ _ _ _ (omega arith) (search rules) c.in-Ok.ensures c.loop-i.invariant

pub returns : goal.returns
returns g c e =
    stored_all (λ n x. g.T.TryFrom.try_from_gives n (Ok x)) _ _ _ c.loop-i-test.false (search rules) c.loop-i.invariant
