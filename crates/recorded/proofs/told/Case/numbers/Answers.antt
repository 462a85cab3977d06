-- Each number is the given one.
use Rattle.std.proofs.Common.{rules, slice_index}
use Rattle.recorded.proofs.Copies.{made}
use Rattle.recorded.proofs.told.Case.numbers.Goals as goal

pub returns : goal.returns
returns N c =
    made _ (slice_index c.args.self.now.given.now) _ (λ i y q k. search rules) _ _ c.from_fn.ensures.items
